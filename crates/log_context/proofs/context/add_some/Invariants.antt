use Rattle.std.proofs.Common.{◌≡◌, ◌++◌, flat_map, take}
use Rattle.std.specs.Option.{option_to_list}
use Rattle.log_context.proofs.context.add_some.Given as goal

abbrev pub invariant-loop-fact : goal.invariant-loop-fact
invariant-loop-fact l = record { so_far : l.facts.items ≡ l.initial.facts.items ++ flat_map option_to_list (take l.fact-index l.found) }
