-- What may follow two pasts.
use Rattle.std.specs.Prelude.{◌≡◌, List, ◌++◌}
use Rattle.task_base.specs.Plan.{Plan}
use Rattle.task_base.specs.declared.entry.Entry.{Entry}
use Rattle.hist_model.specs.Legal.{IsLegal}
use Rattle.situation.specs.Alike.{told_entries}
use Rattle.situation.specs.Situation.{situation_of}

-- entries like these may follow the other past, and lead to the same situation
pub record AlikeFuture (script : Plan) (past other rest : List Entry) : Type 0 where
  pub like : List Entry
  pub alike : told_entries rest ≡ told_entries like
  pub legal : IsLegal script (other ++ like)
  pub same : situation_of script (past ++ rest) ≡ situation_of script (other ++ like)
