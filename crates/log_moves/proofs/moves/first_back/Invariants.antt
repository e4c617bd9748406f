use Rattle.std.proofs.Common.{◌≡◌, None}
use Rattle.std.specs.Prelude.{find}
use Rattle.std.specs.List.{range_with_len}
use Rattle.log_moves.specs.Moves.{fits_before}
use Rattle.log_moves.proofs.moves.first_back.Given as goal

abbrev pub invariant-loop-back : goal.invariant-loop-back
invariant-loop-back l = record { none_yet : find (fits_before l.script l.past l.entry) (range_with_len 0 l.back) ≡ None }
