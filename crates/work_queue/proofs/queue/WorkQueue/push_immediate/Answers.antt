use Rattle.std.proofs.Common.{ap, rules, ◌++◌, ◌∙◌}
use Rattle.work_queue.proofs.Orders.{after_immediate}
use Rattle.work_queue.proofs.queue.WorkQueue.push_immediate.Goals as goal

pub invariant_of-self : goal.invariant_of-self
invariant_of-self c = (
  after_immediate _ _ _ _ _ c.args.queued c.self.invariant.0 (rw (← c.self.view_is) at c.requires.last)
      (c.reload_if_empty.ensures.items ∙ ap (λ items. c.self.inside.immediate.items ++ items) c.push_back_reserved.ensures.items)
      c.reload_if_empty.ensures.reloaded,
  search rules,
)
