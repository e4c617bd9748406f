use Rattle.std.proofs.Common.{ap, refl, sym, ◌∙◌}
use Rattle.std.proofs.Math.Dec.{leb-zero}
use Rattle.std.specs.Prelude.{is_none, not, ◌&&◌}
use Rattle.task_model.specs.Capacity.{open_scope}
use Rattle.live_core.proofs.Fitting.{no_work, not_some, work_there}
use Rattle.live_core.proofs.books.Books.may_end_main.Goals as goal

pub returns-then-work : goal.returns-then-work
returns-then-work c = λ plan past stand.
    let found = work_there _ _ _ (sym (c.runs.ensures plan past stand) ∙ c.in-Some.is) in
    rw (found.1, c.if-work.true) (ap not (c.is_in_scope.ensures plan past stand) ∙ not_some _)

pub returns-else-work : goal.returns-else-work
returns-else-work c = λ plan past stand.
    let found = work_there _ _ _ (sym (c.runs.ensures plan past stand) ∙ c.in-Some.is) in rw (found.1, c.if-work.false) refl

pub returns-in-None : goal.returns-in-None
returns-in-None c = λ plan past stand.
    let none = no_work (λ w. w.is_main && is_none (open_scope past w.task)) _ _ (sym (c.runs.ensures plan past stand) ∙ c.in-None.is) in
    sym (rw (leb-zero plan.workers) at none)
