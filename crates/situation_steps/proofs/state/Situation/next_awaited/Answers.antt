use Rattle.std.proofs.Common.{◌≡◌, ℕ, ◌++◌, List, filter, map, ap, refl, ◌∙◌}
use Rattle.std.specs.List.{filter_map}
use Rattle.std.specs.Prelude.{nat_lt}
use Rattle.list_laws.specs.Lists.{least}
use Rattle.situation.specs.Situation.{SeatAt, Situation, Unripe}
use Rattle.log_count.specs.Clocks.{awaited_in}
use Rattle.situation_steps.proofs.state.Situation.next_awaited.Goals as goal

awaited_is : (s : Situation) (m : ℕ) (us : List Unripe) (xs : List SeatAt) → m ≡ s.now → us ≡ s.unripe → xs ≡ s.seats
    → least nat_lt (filter (λ n. nat_lt m n) (map (λ u. u.ripe) us ++ filter_map (λ x. x.scope) xs)) ≡ least (λ a b. nat_lt a b) (awaited_in s)
awaited_is s m us xs now unripe seats = rw (now, unripe, seats) refl

pub returns : goal.returns
returns c = c.soonest_scope.ensures (map (λ (u : Unripe). u.ripe) c.as_slice.result.now) c.soonest_ripe-ripe.ensures
    ∙ awaited_is c.args.self.now c.self.inside.moment c.as_slice.result.now c.as_slice-2.result.now (ap (λ (s : Situation). s.now) c.self.view_is)
    (c.as_slice.ensures.value ∙ ap (λ (s : Situation). s.unripe) c.self.view_is)
    (c.as_slice-2.ensures.value ∙ ap (λ (s : Situation). s.seats) c.self.view_is)
