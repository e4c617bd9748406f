use Rattle.std.proofs.Common.{◌≡◌, take}
use Rattle.log_context.specs.Sought.{known_in}
use Rattle.log_context.proofs.sought.known_in.Given as goal

abbrev pub invariant-loop-entry : goal.invariant-loop-entry
invariant-loop-entry l = record {
  known_is : l.known.items ≡ known_in l.script l.past l.sought (take l.entry-index l.past);
  place_is : l.place ≡ l.entry-index;
}
