use Rattle.std.proofs.Common.{◌-◌}
use Rattle.sequence_queue.proofs.heap.Heap.+sink.Given as goal

abbrev pub decreases-sink : goal.decreases-sink
decreases-sink l = l.self.now.held - l.place
