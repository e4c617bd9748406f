use Rattle.std.proofs.Common.{◌≡◌, ◌++◌, ◌∷◌, length, take}
use Rattle.std.specs.Prelude.{flat_map}
use Rattle.situation_key.specs.Words.{priority_words}
use Rattle.situation_key.proofs.puts.put_priorities.Given as goal

abbrev pub invariant-loop-priority : goal.invariant-loop-priority
invariant-loop-priority l = l.key.items ≡ l.fn.key.items ++ (length l.priorities ∷ flat_map priority_words (take l.priority-index l.priorities))
