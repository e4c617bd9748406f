use Rattle.std.proofs.Common.{◌≡◌, ◌≤◌, ◌-◌}
use Rattle.std.specs.List.{range_with_len}
use Rattle.simulation.proofs.draw.add_seats.Given as goal

abbrev pub invariant-loop-seat : goal.invariant-loop-seat
invariant-loop-seat l = (1 ≤ l.seat) × (l.seats.items ≡ range_with_len 1 (l.seat - 1))
