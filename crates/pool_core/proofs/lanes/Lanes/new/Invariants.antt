use Rattle.std.specs.Prelude.{◌≡◌, map}
use Rattle.std.specs.List.{range_with_len}
use Rattle.pool_core.specs.Queues.{empty_lane}
use Rattle.pool_core.proofs.lanes.Lanes.new.Given as goal

abbrev pub invariant-loop-seat : goal.invariant-loop-seat
invariant-loop-seat l = l.lanes.items ≡ map (empty_lane l.script) (range_with_len 0 l.seat)
