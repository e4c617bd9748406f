use Rattle.std.proofs.Common.{◌≡◌, ◌++◌, flat_map, take}
use Rattle.context_text.specs.Plain.{fact_line}
use Rattle.context_text.proofs.plain.add_facts.Given as goal

abbrev pub invariant-loop-fact : goal.invariant-loop-fact
invariant-loop-fact l = record { so_far : l.text.items ≡ l.initial.text.items ++ flat_map fact_line (take l.fact-index l.facts) }
