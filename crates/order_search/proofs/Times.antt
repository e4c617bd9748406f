-- What the times allow, by the least latest time of each seat.
-- Cited by `Steps`.
use Rattle.std.proofs.Common.{◌≡◌, ◌-◌, ◌^◌, ◌≤◌, false, ltb, List, [], ◌∷◌, refl, sym, ◌∙◌, Option, Some, None, arith}
use Rattle.std.specs.Prelude.{◌↔◌}
use Rattle.std.specs.List.{list_any}
use Rattle.std.proofs.lemmas.Bool.{le-ltb, ltb-false, or_from, or_parts}
use Rattle.order_model.specs.declared.event.Event.{Event}
use Rattle.order_model.specs.declared.event.Span.{Span}
use Rattle.order_model.specs.Orders.{is_before, is_over}
use Rattle.order_search.specs.Seats.{earliest, latest, least_latest}

-- the one time is over before the other begins exactly where the latest is below the earliest
over_by_times : (a b : Option Span) → earliest b ≤ 2 ^ 64 - 1 → is_over a b ≡ ltb (latest a) (earliest b)
over_by_times (Some a) (Some b) within = refl
over_by_times (Some a) None within = sym (le-ltb a.to 0 (omega arith))
over_by_times None b within = sym (le-ltb (2 ^ 64 - 1) (earliest b) within)

-- none of them came before exactly where the least latest time is no less than the earliest
pub none_over : (e : Event) (events : List Event) → earliest e.span ≤ 2 ^ 64 - 1
    → (list_any (λ (other : Event). is_before other e) events ≡ false) ↔ (earliest e.span ≤ least_latest events)
none_over e [] within = (λ none. within, λ low. refl)
none_over e (x ∷ events) within =
    let later = none_over e events within in
    let here = over_by_times x.span e.span within in (
      λ none.
          let parts = or_parts (is_before x e) (list_any (λ (other : Event). is_before other e) events) none in
          omega (arith, later.0 parts.1, ltb-false (latest x.span) (earliest e.span) (sym here ∙ parts.0)),
      λ low. or_from (is_before x e) (list_any (λ (other : Event). is_before other e) events)
          (here ∙ le-ltb (latest x.span) (earliest e.span) (omega (arith, low))) (later.1 (omega (arith, low))),
    )
