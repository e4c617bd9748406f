use Rattle.std.proofs.Common.{◌≡◌, ap, false, sym, true, ◌∙◌}
use Rattle.std.specs.Prelude.{not}
use Rattle.script_model.specs.Draft.{may_block_on}
use Rattle.live_core.proofs.Fitting.{no_work, not_some, work_there}
use Rattle.live_core.proofs.books.Books.may_open.Goals as goal
use Rattle.live_core.proofs.books.Books.may_open.Goals.{then-not-work, else-not-work}

pub returns-then-may_block_on : goal.returns-then-may_block_on
returns-then-may_block_on c = λ plan past stand.
    let found = work_there _ _ _ (sym (c.runs.ensures plan past stand) ∙ c.in-Some.is) in
    elim c.if-not-work.branch [
      | then-not-work w ↦
          let blocks : may_block_on plan.runners c.in-Some.work.home ≡ true =
          rw stand.plan_is (sym w.may_block_on.ensures ∙ sym w.value-is ∙ c.if-may_block_on.true) in
          rw (found.0, found.1, w.if-not-work.true, blocks) (ap not (c.is_in_scope.ensures plan past stand) ∙ not_some _)
      | else-not-work w ↦ absurd cc
    ]

pub returns-else-may_block_on : goal.returns-else-may_block_on
returns-else-may_block_on c = λ plan past stand.
    let found = work_there _ _ _ (sym (c.runs.ensures plan past stand) ∙ c.in-Some.is) in
    elim c.if-not-work.branch [
      | then-not-work w ↦
          let blocks : may_block_on plan.runners c.in-Some.work.home ≡ false =
          rw stand.plan_is (sym w.may_block_on.ensures ∙ sym w.value-is ∙ c.if-may_block_on.false) in
          rw (found.0, found.1, w.if-not-work.true, blocks) c.if-may_block_on.false
      | else-not-work w ↦ rw (found.0, found.1, w.if-not-work.false) c.if-may_block_on.false
    ]

pub returns-in-None : goal.returns-in-None
returns-in-None c = λ plan past stand. sym (no_work _ _ _ (sym (c.runs.ensures plan past stand) ∙ c.in-None.is))
