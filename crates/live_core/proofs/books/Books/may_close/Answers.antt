use Rattle.std.proofs.Common.{refl, sym, ◌∙◌}
use Rattle.live_core.proofs.Fitting.{no_work, work_there}
use Rattle.live_core.proofs.books.Books.may_close.Goals as goal

pub returns-then-not-work : goal.returns-then-not-work
returns-then-not-work c = λ plan past stand.
    let found = work_there _ _ _ (sym (c.runs.ensures plan past stand) ∙ c.in-Some.is) in
    rw (found.0, found.1, c.if-not-work.true) (c.is_in_scope.ensures plan past stand)

pub returns-else-not-work : goal.returns-else-not-work
returns-else-not-work c = λ plan past stand.
    let found = work_there _ _ _ (sym (c.runs.ensures plan past stand) ∙ c.in-Some.is) in rw (found.0, found.1, c.if-not-work.false) refl

pub returns-in-None : goal.returns-in-None
returns-in-None c = λ plan past stand. sym (no_work _ _ _ (sym (c.runs.ensures plan past stand) ∙ c.in-None.is))
