use Rattle.std.proofs.Common.{◌+◌, rules}
use Rattle.worked_parts.proofs.Fills.{IsFilled, filled-emptied, filled-popped, filled-pushed}
use Rattle.worked_parts.proofs.tests.lanes.lanes_beside_plain_lists.Goals as goal
use Rattle.worked_parts.proofs.tests.lanes.lanes_beside_plain_lists.Goals.{then-number-eq300, else-number-eq300}

pub loop-number-preserved : goal.loop-number-preserved
loop-number-preserved g c =
    let next = c.loop-number.number-counter + 1 in
    let filled : IsFilled 1000 next c.push.new.self =
    rw c.push.ensures (filled-pushed 1000 c.loop-number.number-counter c.loop-number.queue _ _ (search rules) c.loop-number.invariant) in
    let joined : IsFilled 1000 next c.if-number-eq300.queue = elim c.if-number-eq300.branch [
      | then-number-eq300 w ↦ rw (w.queue-is, w.clear.ensures) (filled-emptied 1000 next c.push.new.self filled)
      | else-number-eq300 w ↦ rw w.queue-is filled
    ] in
    rw c.pop.ensures.removed (filled-popped 1000 next c.if-number-eq300.queue _ joined)
