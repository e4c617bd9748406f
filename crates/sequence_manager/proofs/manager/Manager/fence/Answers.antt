use Rattle.sequence_manager.proofs.Fences.{can_fence, stands_at_fence}
use Rattle.sequence_manager.proofs.manager.Manager.fence.Goals as goal

pub refresh-requires : goal.refresh-requires
refresh-requires c = (_, can_fence c.args.at c.requires.2 c.order_at-order.ensures.next c.order_at-order.ensures.order c.at_mut.ensures.queue c.set.ensures)

pub returns : goal.returns
returns c = λ script past seat can. stands_at_fence seat c.args.at can c.order_at-order.ensures.next c.order_at-order.ensures.order
    c.at_mut.ensures.queue c.set.ensures c.refresh.ensures
