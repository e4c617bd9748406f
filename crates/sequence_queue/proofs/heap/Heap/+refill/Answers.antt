use Rattle.std.proofs.Common.{arith}
use Rattle.sequence_queue.proofs.Steps.{refill_ends, refill_step}
use Rattle.sequence_queue.proofs.heap.Heap.+refill.Goals as goal

pub refill-requires : goal.refill-requires
refill-requires t c = (
  grind arith,
  refill_step c.args.self.now c.exchange.new.self c.args.place c.first_below-below.result c.requires c.first_below-below.ensures
      (grind arith) c.exchange.ensures,
)

pub climb-requires-clause-high : goal.climb-requires-clause-high
climb-requires-clause-high t c = refill_ends c.args.self.now c.args.place c.first_below-below.result c.first_below-below.ensures (grind arith)
