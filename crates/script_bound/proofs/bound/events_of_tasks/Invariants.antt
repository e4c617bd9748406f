use Rattle.std.proofs.Common.{◌≡◌, take}
use Rattle.std.specs.Prelude.{sum_by}
use Rattle.script_model.specs.Bound.{events_of_task}
use Rattle.script_bound.proofs.bound.events_of_tasks.Given as goal

abbrev pub invariant-loop-task : goal.invariant-loop-task
invariant-loop-task l = l.events ≡ sum_by events_of_task (take l.task-index l.tasks)
