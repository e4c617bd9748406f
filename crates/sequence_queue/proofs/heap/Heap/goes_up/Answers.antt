use Rattle.sequence_queue.proofs.Steps.{only_above}
use Rattle.sequence_queue.proofs.heap.Heap.goes_up.Goals as goal

pub returns-then-place-gt0-clause-answer : goal.returns-then-place-gt0-clause-answer
returns-then-place-gt0-clause-answer c = only_above c.args.self.now c.args.place c.above.result c.goes_before.result c.above.ensures.child c.requires.within
    c.goes_before.ensures
