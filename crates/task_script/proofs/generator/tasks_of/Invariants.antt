use Rattle.std.proofs.Common.{◌≡◌, take}
use Rattle.task_script.specs.Generated.{generated_tasks}
use Rattle.task_script.proofs.generator.tasks_of.Given as goal

abbrev pub invariant-loop-x : goal.invariant-loop-x
invariant-loop-x l = l.tasks.items ≡ generated_tasks (take l.x-index l.numbers)
