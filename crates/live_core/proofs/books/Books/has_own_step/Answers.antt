use Rattle.std.proofs.Common.{ap, sym, ◌∙◌}
use Rattle.std.specs.List.{list_any}
use Rattle.task_base.specs.Plan.{Plan}
use Rattle.task_model.specs.Seats.{steps_of}
use Rattle.hist_model.specs.Allowed.{enters}
use Rattle.live_core.proofs.Fitting.{work_there}
use Rattle.live_core.proofs.books.Books.has_own_step.Goals as goal

pub returns-in-Some : goal.returns-in-Some
returns-in-Some c = λ plan past stand.
    let found = work_there _ _ _ (sym (c.runs.ensures plan past stand) ∙ c.in-Some.is) in
    let task = c.in-Some.work.task in
    rw (found.0, found.1, stand.plan_is) (c.has_step.ensures
    ∙ ap (λ (s : Plan). list_any (λ step. enters task step c.args.kind) (steps_of s task)) c.script.ensures)
