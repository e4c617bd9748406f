use Rattle.std.proofs.Common.{◌≡◌, ◌+◌, ◌*◌, ◌≤◌, ◌++◌, flat_map, length, take}
use Rattle.explain_text.specs.Plain.{busy_words}
use Rattle.explain_text.proofs.plain.add_seats.Given as goal

abbrev pub invariant-loop-one : goal.invariant-loop-one
invariant-loop-one l = record {
  so_far : l.line.items ≡ l.fn.line.items ++ flat_map busy_words (take l.one-index l.busy);
  short : length l.line.items ≤ length l.fn.line.items + 42 * l.one-index;
}
