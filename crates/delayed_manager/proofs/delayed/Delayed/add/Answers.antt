use Rattle.std.proofs.Common.{refl}
use Rattle.delayed_manager.proofs.Heap.{after_push}
use Rattle.delayed_manager.proofs.delayed.Delayed.add.Goals as goal

pub invariant_of-self : goal.invariant_of-self
invariant_of-self c = (after_push c.push.result (record { 0 = record { ripe = c.args.ripe; post = c.args.post; task = c.args.task } })
    c.self.inside.heap c.push.new.self _ c.self.invariant (rw (← c.self.view_is) at c.requires.room) (rw (← c.self.view_is) at c.requires.differs)
    c.push.ensures.succeeds c.push.ensures.permutation c.push.ensures.heap_order c.push.ensures.capacity).0

pub returns : goal.returns
returns c = rw (
  (after_push c.push.result (record { 0 = record { ripe = c.args.ripe; post = c.args.post; task = c.args.task } })
      c.self.inside.heap c.push.new.self _ c.self.invariant (rw (← c.self.view_is) at c.requires.room) (rw (← c.self.view_is) at c.requires.differs)
      c.push.ensures.succeeds c.push.ensures.permutation c.push.ensures.heap_order c.push.ensures.capacity).1,
  ← c.self.view_is,
) refl
