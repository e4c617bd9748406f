use Rattle.std.proofs.Common.{arith}
use Rattle.sequence_queue.proofs.Steps.{remove_ends, remove_step}
use Rattle.sequence_queue.proofs.heap.Heap.remove.Goals as goal

pub refill-requires : goal.refill-requires
refill-requires c =
    let step = remove_step c.args.self.now c.exchange.new.self c.args.number c.index-place.result.now c.requires.heap c.requires.within c.requires.held
    c.index-place.ensures c.exchange.ensures in
    record { placed = step.0; loose = step.1; within = c.if-place-last.true }

pub returns-else-place-last-clause-heap : goal.returns-else-place-last-clause-heap
returns-else-place-last-clause-heap c =
    let step = remove_step c.args.self.now c.exchange.new.self c.args.number c.index-place.result.now c.requires.heap c.requires.within c.requires.held
    c.index-place.ensures c.exchange.ensures in
    remove_ends _ c.index-place.result.now step.0 step.1 (omega arith)
