use Rattle.std.proofs.Common.{◌≡◌}
use Rattle.env_explain.specs.Explained.{busy_below}
use Rattle.env_explain.proofs.explain.busy_seats.Given as goal

abbrev pub invariant-loop-seat : goal.invariant-loop-seat
invariant-loop-seat l = l.busy.items ≡ busy_below l.hands l.seat
