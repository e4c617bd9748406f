use Rattle.std.proofs.Common.{◌≡◌, ◌-◌, ◌≤◌, length}
use Rattle.std.specs.Prelude.{IfSome, option_copied, Some}
use Rattle.line_places.specs.Bytes.{lines_behind, text_from}
use Rattle.line_places.proofs.bytes.cut_at.Given as goal

abbrev pub invariant-loop-rest : goal.invariant-loop-rest
invariant-loop-rest l = record {
  cut : text_from l.left (option_copied l.rest) ≡ text_from (l.number - 1) (Some l.bytes);
  short : IfSome (option_copied l.rest) (λ text. length text ≤ length l.bytes);
}

abbrev pub decreases-loop-rest : goal.decreases-loop-rest
decreases-loop-rest l = length (lines_behind (option_copied l.rest))
