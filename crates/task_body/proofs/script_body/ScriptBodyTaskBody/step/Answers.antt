use Rattle.std.proofs.Common.{◌+◌, List, drop, sym, ap, ◌∙◌, subst}
use Rattle.task_base.specs.declared.step.Step.{Step}
use Rattle.task_body.specs.Progress.{Progress}
use Rattle.task_body.proofs.Progress.{drop-slice_get}
use Rattle.task_body.proofs.script_body.ScriptBodyTaskBody.step.Goals as goal

pub returns-in-Some-clause-progress : goal.returns-in-Some-clause-progress
returns-in-Some-clause-progress c =
    let later = drop (c.self.inside.done + 1) c.self.inside.steps.items in
    let front = drop-slice_get c.self.inside.steps.items c.self.inside.done c.in-Some.step.now c.in-Some.ensures.item in
    let whole = ap (λ p. p.rest) (sym c.self.view_is) ∙ front in
    let P : List Step → Type 0 = λ rest. Progress rest c.args.cell.now c.perform.result later c.perform.new.cell in
    subst P (sym whole) (c.perform.ensures.progress later)
