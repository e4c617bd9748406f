use Rattle.std.proofs.Common.{refl, rules}
use Rattle.sequence_queue.proofs.Steps.{fresh}
use Rattle.sequence_queue.proofs.heap.Heap.new.Goals as goal

pub returns-clause-heap : goal.returns-clause-heap
returns-clause-heap c = fresh _ c.args.numbers (search rules) c.in_ok-order.ensures c.in_ok-places.ensures refl
