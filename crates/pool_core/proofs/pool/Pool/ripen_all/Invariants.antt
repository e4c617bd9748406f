use Rattle.pool_core.specs.Ripens.{IsInTick, Ripens}
use Rattle.std.proofs.Common.{List, length}
use Rattle.task_base.specs.Plan.{Plan}
use Rattle.task_base.specs.declared.entry.Entry.{Entry}
use Rattle.task_model.specs.Posts.{Posted}
use Rattle.pool_core.proofs.pool.Pool.ripen_all.Given as goal

abbrev pub invariant-loop-ripe : goal.invariant-loop-ripe
invariant-loop-ripe l = (script : Plan) (past : List Entry) → IsInTick script past l.fn.self l.place l.moment
    → (front : List Posted) × (rest : List Posted) × Ripens script past l.moment front rest l.self

abbrev pub decreases-loop-ripe : goal.decreases-loop-ripe
decreases-loop-ripe l = length l.self.delayed.held
