use Rattle.sequence_manager.specs.Calls.{CanTick}
use Rattle.sequence_manager.specs.Ripening.{IsInTick}
use Rattle.std.proofs.Common.{List, ◌^◌, ◌-◌}
use Rattle.task_base.specs.Plan.{Plan}
use Rattle.task_base.specs.declared.entry.Entry.{Entry}
use Rattle.task_model.specs.Posts.{Posted}
use Rattle.sequence_manager.proofs.manager.Manager.tick.Given as goal

abbrev pub invariant-loop-queue : goal.invariant-loop-queue
invariant-loop-queue l = (script : Plan) (past : List Entry) → CanTick script past l.fn.self l.moment
    → (front : List Posted) × (rest : List Posted) × IsInTick script past l.moment front rest l.self

-- each step draws an order, and there are few
abbrev pub decreases-loop-queue : goal.decreases-loop-queue
decreases-loop-queue l = 2 ^ 33 - l.self.next_order
