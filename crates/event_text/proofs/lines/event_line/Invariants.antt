use Rattle.std.proofs.Common.{◌≡◌, ◌+◌, ◌*◌, ◌≤◌, ◌∷◌, length, drop, map}
use Rattle.std.specs.List.{AllByRecursion, join_with_byte}
use Rattle.log_model.specs.LogText.{shown}
use Rattle.entry_lines.specs.Parts.{said, IsShort}
use Rattle.event_text.specs.EventText.{event_words}
use Rattle.event_text.proofs.lines.event_line.Given as goal

abbrev pub invariant-loop-part : goal.invariant-loop-part
invariant-loop-part l = record {
  items : join_with_byte 32 (l.line.items ∷ map shown (map said (drop l.part-index l.part-items))) ≡ join_with_byte 32 (event_words l.event);
  room : length l.line.items ≤ 64 + 21 * l.part-index;
  short : AllByRecursion IsShort (drop l.part-index l.part-items);
}
