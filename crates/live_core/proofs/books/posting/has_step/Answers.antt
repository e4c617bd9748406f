use Rattle.std.proofs.Common.{◌≡◌, [], List, Option, Some, ap, ◌∙◌}
use Rattle.std.specs.List.{list_any}
use Rattle.std.specs.Option.{option_map_or}
use Rattle.std.specs.Prelude.{slice_get}
use Rattle.task_base.specs.Plan.{Plan}
use Rattle.task_base.specs.declared.step.Step.{Step}
use Rattle.task_model.specs.Seats.{steps_of}
use Rattle.hist_model.specs.Allowed.{enters}
use Rattle.live_core.proofs.books.posting.has_step.Goals as goal

pub returns-in-Some : goal.returns-in-Some
returns-in-Some c =
    let at : Some c.in-Some.task.now ≡ slice_get c.args.script.now.tasks c.args.task =
    c.in-Some.ensures.item ∙ ap (λ (s : Plan). slice_get s.tasks c.args.task) c.script.view_is in
    let steps : c.as_slice.result.now ≡ steps_of c.args.script.now c.args.task =
    c.as_slice.ensures ∙ c.task.view_is ∙ ap (λ (o : Option (List Step)). option_map_or (λ steps. steps) o []) at in
    c.any_enters.ensures c.args.task ∙ ap (list_any (λ step. enters c.args.task step c.args.kind)) steps
