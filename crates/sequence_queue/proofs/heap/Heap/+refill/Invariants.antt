use Rattle.std.proofs.Common.{◌-◌}
use Rattle.sequence_queue.proofs.heap.Heap.+refill.Given as goal

abbrev pub decreases-refill : goal.decreases-refill
decreases-refill l = l.self.now.held - l.place
