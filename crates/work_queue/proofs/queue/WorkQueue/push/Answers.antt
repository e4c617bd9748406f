use Rattle.std.proofs.Common.{rules}
use Rattle.work_queue.proofs.Orders.{after_delayed}
use Rattle.work_queue.proofs.queue.WorkQueue.push.Goals as goal

pub invariant_of-self : goal.invariant_of-self
invariant_of-self c = (
  rw c.push_back_reserved.ensures.items (after_delayed _ _ _ _ c.self.invariant.0 (rw (← c.self.view_is) at c.requires.last)),
  search rules,
)
