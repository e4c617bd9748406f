use Rattle.std.proofs.Common.{◌≡◌, take}
use Rattle.log_context.specs.Seen.{last_marked}
use Rattle.log_context.proofs.seen.last_marked.Given as goal

abbrev pub invariant-loop-entry : goal.invariant-loop-entry
invariant-loop-entry l = record {
  last_is : l.last ≡ last_marked l.mark (take l.entry-index l.past);
  place_is : l.place ≡ l.entry-index;
}
