use Rattle.std.proofs.Common.{◌≡◌, ◌++◌, ◌∷◌, length, take}
use Rattle.std.specs.Prelude.{flat_map}
use Rattle.situation_key.specs.Words.{waiter_words}
use Rattle.situation_key.proofs.puts.put_line.Given as goal

abbrev pub invariant-loop-waiter : goal.invariant-loop-waiter
invariant-loop-waiter l = l.key.items ≡ l.fn.key.items ++ (length l.line ∷ flat_map waiter_words (take l.waiter-index l.line))
