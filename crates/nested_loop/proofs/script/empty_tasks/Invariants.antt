use Rattle.std.proofs.Common.{◌≡◌, ◌+◌, ◌≤◌, [], length, map, take}
use Rattle.nested_loop.proofs.script.empty_tasks.Given as goal

abbrev pub invariant-loop-task : goal.invariant-loop-task
invariant-loop-task l = record {
  so_far : l.empty.items ≡ map (λ task. []) (take l._task-index l.tasks);
  room : length l.tasks ≤ l.empty.spare + l._task-index;
}
