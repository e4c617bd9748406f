use Rattle.std.proofs.Common.{◌≡◌, ◌++◌, take}
use Rattle.std.specs.Prelude.{flat_map}
use Rattle.nested_loop.specs.Waiting.{main_of_task}
use Rattle.nested_loop.proofs.script.add_tasks.Given as goal

abbrev pub invariant-loop-task : goal.invariant-loop-task
invariant-loop-task l = record { so_far : l.added.items ≡ l.fn.added.items ++ flat_map main_of_task (take l.task-index l.tasks) }
