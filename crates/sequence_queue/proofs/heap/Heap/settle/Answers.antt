use Rattle.sequence_queue.proofs.Steps.{goes_high}
use Rattle.sequence_queue.proofs.heap.Heap.settle.Goals as goal

pub climb-requires-clause-high : goal.climb-requires-clause-high
climb-requires-clause-high c =
    goes_high c.args.self.now c.args.place c.goes_up.result c.requires c.goes_up.ensures.answer c.goes_up.ensures.first c.if-goes_up.true
