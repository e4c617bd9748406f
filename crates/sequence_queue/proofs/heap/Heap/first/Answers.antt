use Rattle.std.proofs.Common.{arith}
use Rattle.sequence_queue.proofs.Steps.{first_of, none_held}
use Rattle.sequence_queue.proofs.heap.Heap.first.Goals as goal

pub returns-then-self-eq0 : goal.returns-then-self-eq0
returns-then-self-eq0 c = none_held c.args.self.now c.requires c.if-self-eq0.true

pub returns : goal.returns
returns c = first_of c.args.self.now c.index.result.now c.requires (omega arith) c.index.ensures
