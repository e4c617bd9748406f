use Rattle.std.proofs.Common.{sym, ◌∙◌}
use Rattle.sequence_queue.proofs.Steps.{right_first}
use Rattle.sequence_queue.proofs.heap.Heap.first_below.Goals as goal

pub returns-then-goes_before : goal.returns-then-goes_before
returns-then-goes_before c = right_first c.args.self.now c.args.place (sym c.goes_before.ensures ∙ c.if-goes_before.true)
