use Rattle.std.proofs.Common.{arith}
use Rattle.sequence_queue.proofs.Steps.{climb_ends, climb_step}
use Rattle.sequence_queue.proofs.heap.Heap.+climb.Goals as goal

pub climb-requires : goal.climb-requires
climb-requires t c =
    let step = climb_step c.args.self.now c.exchange.new.self c.args.place c.above-above.result c.goes_up.result c.requires.loose c.requires.high
    c.above-above.ensures.child (c.goes_up.ensures.answer c.above-above.result c.above-above.ensures.child) c.if-goes_up.true
    c.exchange.ensures in
    (grind arith, step)

pub returns-else-goes_up-clause-heap : goal.returns-else-goes_up-clause-heap
returns-else-goes_up-clause-heap t c =
    climb_ends c.args.self.now c.args.place c.goes_up.result c.requires.loose c.requires.high c.goes_up.ensures.answer c.if-goes_up.false
