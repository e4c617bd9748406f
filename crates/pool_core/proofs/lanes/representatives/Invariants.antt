use Rattle.std.specs.Prelude.{◌≡◌, ◌-◌, filter}
use Rattle.std.specs.List.{range_with_len}
use Rattle.pool_core.specs.Queues.{is_representative}
use Rattle.pool_core.proofs.lanes.representatives.Given as goal

abbrev pub invariant-loop-seat : goal.invariant-loop-seat
invariant-loop-seat l = l.seats.items ≡ filter (is_representative l.script) (range_with_len 1 (l.seat - 1))
