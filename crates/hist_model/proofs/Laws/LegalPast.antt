-- What every legal past gives, in one place.
-- Cited by `env_core`.
use Rattle.std.proofs.Common.{List}
use Rattle.task_base.specs.Plan.{Plan}
use Rattle.task_base.specs.declared.entry.Entry.{Entry}
use Rattle.hist_model.specs.Legal.{IsLegal}
use Rattle.hist_model.specs.Laws.LegalPast.{IsLegalPast}
use Rattle.hist_model.proofs.Laws.Consistent.{legal_is_consistent}
use Rattle.hist_model.proofs.Laws.OneThing.{legal_does_one_thing}
use Rattle.hist_model.proofs.Laws.Rising.{legal_rises, orders_are_distinct}
use Rattle.hist_model.proofs.Laws.HoldsApart.{legal_holds_apart}
use Rattle.hist_model.proofs.Laws.Claims.{claimed_is}
use Rattle.hist_model.proofs.Laws.Postings.Once.{each_is_accepted_once}

pub legal_past : (script : Plan) (past : List Entry) → IsLegal script past → IsLegalPast script past
legal_past script past legal = record {
  consistent = legal_is_consistent script past legal;
  one_thing = legal_does_one_thing script past legal;
  rises = legal_rises script past legal;
  distinct = orders_are_distinct script past legal;
  apart = legal_holds_apart script past legal;
  claimed_is = λ job. claimed_is script past job legal;
  accepted_once = λ once. each_is_accepted_once script past once legal;
}
