use Rattle.std.proofs.Common.{◌≡◌, ℕ, ◌<◌, ◌≤◌, length, get_or}
use Rattle.order_search.proofs.walk.next_seat.Given as goal

abbrev pub invariant-loop-seat : goal.invariant-loop-seat
invariant-loop-seat l = record {
  below : l.least ≤ l.end;
  none : length l.heads ≤ l.found → l.least ≡ l.end;
  here : l.found < length l.heads → (l.least ≡ get_or l.heads l.found 0) × (l.start ≤ l.least) × (l.least < l.end);
  first : (other : ℕ) → other < l.seat → l.start ≤ get_or l.heads other 0 → l.least ≤ get_or l.heads other 0;
}
