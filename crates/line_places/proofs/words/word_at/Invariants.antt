use Rattle.std.proofs.Common.{◌≡◌, ◌-◌, drop}
use Rattle.script_model.specs.Words.{words_of}
use Rattle.line_places.proofs.words.word_at.Given as goal

abbrev pub invariant-loop-left : goal.invariant-loop-left
invariant-loop-left l = drop l.left l.words ≡ drop (l.place - 1) (words_of l.line)

abbrev pub decreases-loop-left : goal.decreases-loop-left
decreases-loop-left l = l.left
