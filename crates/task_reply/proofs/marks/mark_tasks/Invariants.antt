use Rattle.std.proofs.Common.{◌≡◌, take}
use Rattle.std.specs.Prelude.{flat_map}
use Rattle.script_model.specs.Laws.Postings.{posts_of_step}
use Rattle.task_reply.specs.Tables.{marked}
use Rattle.task_reply.proofs.marks.mark_tasks.Given as goal

abbrev pub invariant-loop-task : goal.invariant-loop-task
invariant-loop-task l = l.marks ≡ marked l.initial.marks (flat_map (λ steps. flat_map posts_of_step steps) (take l.task-index l.tasks))
