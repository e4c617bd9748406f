use Rattle.std.proofs.Common.{◌-◌, length}
use Rattle.line_words.proofs.Cuts.{IsCut}
use Rattle.line_words.proofs.words.Words.split_at_mark.Given as goal

abbrev pub invariant-loop-start : goal.invariant-loop-start
invariant-loop-start l = IsCut l.bytes l.from

abbrev pub decreases-loop-start : goal.decreases-loop-start
decreases-loop-start l = length l.bytes - l.from
