use Rattle.std.proofs.Common.{◌≡◌, ◌+◌, ◌≤◌, length, map, take}
use Rattle.nested_loop.specs.Waiting.{queue_of_class}
use Rattle.nested_loop.proofs.script.queues_of.Given as goal

abbrev pub invariant-loop-class : goal.invariant-loop-class
invariant-loop-class l = record {
  so_far : l.queues.items ≡ map queue_of_class (take l.class-index l.classes);
  room : length l.classes ≤ l.queues.spare + l.class-index;
}
