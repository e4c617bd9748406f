use Rattle.std.proofs.Common.{◌≡◌, length}
use Rattle.std.specs.Prelude.{filter, not, ◌==◌}
use Rattle.nested_loop.proofs.words.words_of.Given as goal

abbrev pub invariant-loop-word : goal.invariant-loop-word
invariant-loop-word l = l.words.items ≡ filter (λ word. not (length word.now == 0)) l.yielded
