use Rattle.std.proofs.Common.{ℕ, ◌<◌, ◌≤◌, length, get_or}
use Rattle.order_search.proofs.merge.soonest_seat.Given as goal

abbrev pub invariant-loop-seat : goal.invariant-loop-seat
invariant-loop-seat l = record {
  here : l.found < length l.heads → get_or l.heads l.found 0 < length l.events;
  none : length l.heads ≤ l.found → (other : ℕ) → other < l.seat → length l.events ≤ get_or l.heads other 0;
}
