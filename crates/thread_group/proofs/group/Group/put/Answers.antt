use Rattle.std.proofs.Common.{None, arith, refl}
use Rattle.thread_group.proofs.Counted.{within_at, room_for, counts-set}
use Rattle.thread_group.proofs.group.Group.put.Goals as goal

pub moved-self-inside-requires-clause-counted : goal.moved-self-inside-requires-clause-counted
moved-self-inside-requires-clause-counted c =
    within_at _ _ _ c.args.seat None _ _ _ (grind arith) refl c.self.invariant c.shares-was.ensures

pub moved-self-inside-requires-clause-room : goal.moved-self-inside-requires-clause-room
moved-self-inside-requires-clause-room c = room_for _ _ _ _ _ _ (grind arith) (omega arith) c.self.invariant c.shares-is.ensures

pub invariant_of-self : goal.invariant_of-self
invariant_of-self c = counts-set _ _ _ c.args.seat None _ _ _ _ _ _ (grind arith) refl c.self.invariant c.shares-was.ensures c.shares-is.ensures
    c.moved-self-inside.ensures
