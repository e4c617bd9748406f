use Rattle.std.proofs.Common.{◌≡◌, map}
use Rattle.std.specs.List.{range_with_len}
use Rattle.wide_script.specs.Drawn.{queue_of}
use Rattle.wide_script.proofs.draws.Draws.queues.Given as goal

abbrev pub invariant-loop-queue : goal.invariant-loop-queue
invariant-loop-queue l = l.queues.items ≡ map (queue_of l.self) (range_with_len 0 l.queue)
