use Rattle.std.proofs.Common.{◌≡◌, Some, filter, take}
use Rattle.std.specs.List.{filter_map}
use Rattle.std.specs.Prelude.{nat_lt}
use Rattle.list_laws.specs.Lists.{least}
use Rattle.situation_steps.proofs.clocks.soonest_ripe.Given as goal

abbrev pub invariant-loop-task : goal.invariant-loop-task
invariant-loop-task l = l.next ≡ least nat_lt (filter (λ m. nat_lt l.moment m) (filter_map (λ u. Some u.ripe) (take l.task-index l.tasks)))
