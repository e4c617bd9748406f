use Rattle.std.proofs.Common.{◌≡◌, map, take}
use Rattle.worked_calls.proofs.bodies.bodies_of.Given as goal

abbrev pub invariant-loop-task : goal.invariant-loop-task
invariant-loop-task l = record {
  whole : map (λ body. body.value.whole) l.bodies.items ≡ take l.task-index l.tasks;
  rest : map (λ body. body.value.rest) l.bodies.items ≡ take l.task-index l.tasks;
}
