use Rattle.std.proofs.Common.{◌≡◌, ◌++◌, flat_map, take}
use Rattle.context_text.specs.Json.{next_object}
use Rattle.context_text.proofs.json.add_objects.Given as goal

abbrev pub invariant-loop-other : goal.invariant-loop-other
invariant-loop-other l = record { so_far : l.text.items ≡ l.initial.text.items ++ flat_map next_object (take l.other-index l.others) }
