use Rattle.sequence_queue.specs.Heap.{CountsUp}
use Rattle.sequence_queue.proofs.heap.numbers_below.Given as goal

abbrev pub invariant-loop-number : goal.invariant-loop-number
invariant-loop-number l = CountsUp l.numbers.items l.number
