use Rattle.std.proofs.Common.{◌≡◌}
use Rattle.std.specs.List.{filter_map, range_with_len}
use Rattle.open_explain.proofs.AtWork.{busy_at}
use Rattle.open_explain.proofs.explain.busy_seats.Given as goal

abbrev pub invariant-loop-seat : goal.invariant-loop-seat
invariant-loop-seat l = l.busy.items ≡ filter_map (busy_at l.past) (range_with_len 0 l.seat)
