use Rattle.std.proofs.Common.{sym, ◌∙◌, arith}
use Rattle.sequence_queue.proofs.Steps.{sink_ends, sink_step}
use Rattle.sequence_queue.proofs.heap.Heap.+sink.Goals as goal

pub sink-requires : goal.sink-requires
sink-requires t c =
    let step = sink_step c.args.self.now c.exchange.new.self c.args.place c.first_below-below.result c.requires.loose c.requires.low
    c.first_below-below.ensures (sym c.goes_before.ensures ∙ c.if-goes_before.true) c.exchange.ensures in
    (grind arith, step)

pub returns-else-goes_before-clause-heap : goal.returns-else-goes_before-clause-heap
returns-else-goes_before-clause-heap t c =
    sink_ends c.args.self.now c.args.place c.first_below-below.result c.requires.loose c.requires.low c.first_below-below.ensures
    (sym c.goes_before.ensures ∙ c.if-goes_before.false)
