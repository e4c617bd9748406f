use Rattle.std.proofs.Common.{◌≡◌, ◌+◌, ◌≤◌, length, take}
use Rattle.task_base.proofs.script.copy_tasks.Given as goal

abbrev pub invariant-loop-task : goal.invariant-loop-task
invariant-loop-task l = record {
  so_far : l.copied.items ≡ take l.task-index l.tasks;
  room : length l.tasks ≤ l.copied.spare + l.task-index;
}
