use Rattle.std.proofs.Common.{◌≡◌, ◌++◌, take}
use Rattle.told_context.specs.Told.{may_take}
use Rattle.told_context.proofs.told.add_takers.Given as goal

abbrev pub invariant-loop-taker : goal.invariant-loop-taker
invariant-loop-taker l = record { so_far : l.facts.items ≡ l.initial.facts.items ++ may_take l.place (take l.taker-index l.takers) }
