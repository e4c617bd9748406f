use Rattle.std.proofs.Common.{◌≡◌, ◌++◌, ℕ, List, filter, take}
use Rattle.std.specs.List.{filter_map}
use Rattle.std.specs.Prelude.{nat_lt}
use Rattle.list_laws.specs.Lists.{least}
use Rattle.situation_steps.proofs.clocks.soonest_scope.Given as goal

abbrev pub invariant-loop-seat : goal.invariant-loop-seat
invariant-loop-seat l = (front : List ℕ) → l.fn.first ≡ least nat_lt (filter (λ m. nat_lt l.moment m) front)
    → l.next ≡ least nat_lt (filter (λ m. nat_lt l.moment m) (front ++ filter_map (λ x. x.scope) (take l.seat-index l.seats)))
