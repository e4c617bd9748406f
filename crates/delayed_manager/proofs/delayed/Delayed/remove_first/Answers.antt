use Rattle.std.proofs.Common.{refl}
use Rattle.delayed_manager.proofs.Heap.{after_pop}
use Rattle.delayed_manager.proofs.delayed.Delayed.remove_first.Goals as goal

pub invariant_of-self : goal.invariant_of-self
invariant_of-self c = (after_pop c.pop.result c.self.inside.heap c.pop.new.self _ c.self.invariant c.pop.ensures.permutation c.pop.ensures.heap_order
    c.pop.ensures.below_top c.pop.ensures.none c.pop.ensures.unchanged c.pop.ensures.capacity).0

pub returns : goal.returns
returns c = rw (
  (after_pop c.pop.result c.self.inside.heap c.pop.new.self _ c.self.invariant c.pop.ensures.permutation c.pop.ensures.heap_order
      c.pop.ensures.below_top c.pop.ensures.none c.pop.ensures.unchanged c.pop.ensures.capacity).1,
  ← c.self.view_is,
) refl
