use Rattle.std.proofs.Common.{arith}
use Rattle.thread_group.proofs.Counted.{within_at_step, room_at_step, counts_step, waiting_step, counts_start, counts_end_at, none_left}
use Rattle.thread_group.proofs.counts.at_moment.Goals as goal

pub loop-work-init : goal.loop-work-init
loop-work-init c = record {
  looked_at = counts_start _ _ _ _ _ c.requires.counted;
  left = c.requires.counted.waiting;
}

pub moved-moved-requires-clause-counted : goal.moved-moved-requires-clause-counted
moved-moved-requires-clause-counted c =
    within_at_step _ _ _ _ _ _ _ c.loop-work-test.true c.loop-work.invariant.looked_at c.shares-was.ensures

pub moved-moved-requires-clause-room : goal.moved-moved-requires-clause-room
moved-moved-requires-clause-room c = room_at_step _ _ _ _ _ _ _ _ c.requires.few c.loop-work.invariant.looked_at c.shares.ensures

pub loop-work-preserved : goal.loop-work-preserved
loop-work-preserved c = record {
  looked_at = counts_step _ _ _ _ _ _ _ _ _ c.loop-work-test.true c.loop-work.invariant.looked_at c.shares-was.ensures c.shares.ensures c.moved-moved.ensures;
  left = omega (arith, waiting_step _ _ _ _ _ _ c.loop-work-test.true c.loop-work.invariant.left c.shares-was.ensures);
}

pub returns-after-loop-work : goal.returns-after-loop-work
returns-after-loop-work c = counts_end_at _ _ _ _ _ _ _ c.requires.later c.loop-work.invariant.left
    (none_left _ _ _ _ c.loop-work-test.false c.loop-work.invariant.left) c.loop-work.invariant.looked_at

pub returns-then-waiting-eq0 : goal.returns-then-waiting-eq0
returns-then-waiting-eq0 c = counts_end_at _ _ _ _ _ _ _ c.requires.later c.loop-work.invariant.left c.if-waiting-eq0.true c.loop-work.invariant.looked_at
