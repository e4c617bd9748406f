use Rattle.std.proofs.Common.{◌≡◌, ◌++◌, None, take}
use Rattle.std.specs.Prelude.{find}
use Rattle.std.specs.List.{range_with_len}
use Rattle.log_moves.specs.Moves.{fits_after}
use Rattle.log_moves.proofs.moves.first_on.Given as goal

abbrev pub invariant-loop-n : goal.invariant-loop-n
invariant-loop-n l = record {
  so_far : l.log.items ≡ l.past ++ take l.n l.rest;
  none_yet : find (fits_after l.script l.past l.entry l.rest) (range_with_len 0 l.n) ≡ None;
}
