use Rattle.std.specs.Prelude.{◌≡◌, false, List, take}
use Rattle.std.specs.List.{list_any}
use Rattle.task_base.specs.Plan.{Plan}
use Rattle.task_base.specs.declared.entry.Entry.{Entry}
use Rattle.pool_core.specs.StandsFor.{StandsFor}
use Rattle.pool_core.proofs.Sources.Idling.{may_take}
use Rattle.pool_core.proofs.pool.Pool.is_any_ready.Given as goal

abbrev pub invariant-loop-seat : goal.invariant-loop-seat
invariant-loop-seat l = (script : Plan) (past : List Entry) → StandsFor script past l.self
    → list_any (may_take script past) (take l.seat-index l.seats) ≡ false
