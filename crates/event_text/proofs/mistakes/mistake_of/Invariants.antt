use Rattle.std.proofs.Common.{◌≡◌, ◌<◌, ℕ, true, [], None, length, get_or, take}
use Rattle.event_text.specs.Mistakes.{IsLatest, are_right}
use Rattle.event_text.proofs.mistakes.mistake_of.Given as goal

abbrev pub invariant-loop-i : goal.invariant-loop-i
invariant-loop-i l = record {
  long : length l.latest ≡ 65;
  latest : (seat : ℕ) → seat < 65 → IsLatest (take l.i l.events) seat (get_or l.latest seat None);
  right : are_right l.workers [] (take l.i l.events) ≡ true;
}
