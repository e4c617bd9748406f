use Rattle.std.proofs.Common.{◌≡◌, length}
use Rattle.entry_lines.specs.Spelling.{without_zeros}
use Rattle.entry_lines.proofs.spelling.without_zeros.Given as goal

abbrev pub invariant-loop-rest : goal.invariant-loop-rest
invariant-loop-rest l = without_zeros l.rest ≡ without_zeros l.word

abbrev pub decreases-loop-rest : goal.decreases-loop-rest
decreases-loop-rest l = length l.rest
