use Rattle.std.proofs.Common.{◌≡◌, ◌++◌, flat_map}
use Rattle.std.specs.List.{range_with_len}
use Rattle.log_context.specs.Context.{works_on}
use Rattle.log_context.proofs.context.add_at_work.Given as goal

abbrev pub invariant-loop-seat : goal.invariant-loop-seat
invariant-loop-seat l = record { so_far : l.facts.items ≡ l.initial.facts.items ++ flat_map (works_on l.past) (range_with_len 0 l.seat) }
