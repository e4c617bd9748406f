use Rattle.std.proofs.Common.{◌≡◌, ◌++◌, ◌∷◌, length, take}
use Rattle.std.specs.Prelude.{flat_map}
use Rattle.situation_key.specs.Words.{unripe_words}
use Rattle.situation_key.proofs.puts.put_unripe.Given as goal

abbrev pub invariant-loop-u : goal.invariant-loop-u
invariant-loop-u l = l.key.items ≡ l.fn.key.items ++ (length l.unripe ∷ flat_map unripe_words (take l.u-index l.unripe))
