use Rattle.worked_parts.proofs.Fills.{IsFilled}
use Rattle.worked_parts.proofs.tests.lanes.lanes_beside_plain_lists.Given as goal

abbrev pub invariant-loop-number : goal.invariant-loop-number
invariant-loop-number g l = IsFilled 1000 l.number-counter l.queue
