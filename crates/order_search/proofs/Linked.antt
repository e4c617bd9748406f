-- The links of the events from a place on.
-- Cited by `Tries::link`, `Tries::of`, `tries_of`, `Steps`.
use Rattle.std.proofs.Common.{◌≡◌, ℕ, ◌+◌, ◌-◌, ◌^◌, ◌<◌, ◌≤◌, List, [], ◌∷◌, length, min, drop, get_or, set, refl, sym, ap, subst, ◌∙◌, inl, inr, arith}
use Rattle.std.specs.Prelude.{◌⊎◌}
use Rattle.std.proofs.lemmas.Bool.{cases_eq, cases_lt}
use Rattle.std.proofs.lemmas.List.{drop_all, get_or-set_other, get_or-set_same, get_or_past, length-drop, length-set}
use Rattle.order_model.specs.declared.event.Event.{Event}
use Rattle.order_model.specs.Orders.{own_events}
use Rattle.order_search.specs.Places.{IsAt}
use Rattle.order_search.specs.Seats.{AreLinked, IsFirst, latest, least_latest}
use Rattle.order_search.proofs.Places.{at_index, at_same, at_within}
use Rattle.order_search.proofs.Own.{own_of_other, own_of_seat}

-- before any event is linked
pub linked_none : (seats : ℕ) (tries : List Event) (heads after least : List ℕ) → length heads ≡ seats → length after ≡ length tries
    → length least ≡ length tries → ((seat : ℕ) → seat < seats → get_or heads seat 0 ≡ length tries) → AreLinked seats tries (length tries) heads after least
linked_none seats tries heads after least some_heads some_after some_least ends = record {
  some_heads = some_heads;
  some_after = some_after;
  some_least = some_least;
  first = λ seat within. record {
    later = omega (arith, ends seat within);
    same = ap (λ i. own_events seat (drop i tries)) (ends seat within);
    own = λ e at. absurd (omega (arith, at_within tries (get_or heads seat 0) e at, ends seat within));
  };
  next = λ i e from at. absurd (omega (arith, at_within tries i e at, from));
  soonest = λ i e from at. absurd (omega (arith, at_within tries i e at, from));
}

-- the least latest time at a seat's first event, or past the end, is that of all that it has left
pub soonest_at : (seats : ℕ) (tries : List Event) (from : ℕ) (heads after least : List ℕ) (place seat : ℕ) → AreLinked seats tries from heads after least
    → from ≤ place → ((e : Event) → IsAt tries place e → e.entry.seat ≡ seat)
    → get_or least place (2 ^ 64 - 1) ≡ least_latest (own_events seat (drop place tries))
soonest_at seats tries from heads after least place seat linked later own = by_order (cases_lt place (length tries))
  where
    by_order : (place < length tries) ⊎ (length tries ≤ place) → get_or least place (2 ^ 64 - 1) ≡ least_latest (own_events seat (drop place tries))
    by_order (inr end) = get_or_past least place (2 ^ 64 - 1) (omega (arith, linked.some_least, end))
        ∙ ap (λ l. least_latest (own_events seat l)) (sym (drop_all place tries end))
    by_order (inl within) = at_some (drop place tries) refl
      where
        at_some : (rest : List Event) → drop place tries ≡ rest → get_or least place (2 ^ 64 - 1) ≡ least_latest (own_events seat (drop place tries))
        at_some [] is = absurd (omega (arith, within, ap length is, length-drop place tries))
        at_some (x ∷ rest) is =
            let at = at_index tries place x within in
            linked.soonest place (get_or tries place x) later at
            ∙ ap (λ s. least_latest (own_events s (drop place tries))) (own (get_or tries place x) at)

-- once the event before them is linked too
pub linked_more : (seats : ℕ) (tries : List Event) (i : ℕ) (e : Event) (heads after least : List ℕ) (next soon : ℕ)
    → AreLinked seats tries (i + 1) heads after least → IsAt tries i e → e.entry.seat < seats → next ≡ get_or heads e.entry.seat 0
    → soon ≡ min (latest e.span) (get_or least next (2 ^ 64 - 1))
    → AreLinked seats tries i (set heads e.entry.seat i) (set after i next) (set least i soon)
linked_more seats tries i e heads after least next soon linked at within next_is soon_is = record {
  some_heads = length-set heads e.entry.seat i ∙ linked.some_heads;
  some_after = length-set after i next ∙ linked.some_after;
  some_least = length-set least i soon ∙ linked.some_least;
  first = λ seat inside. first_at seat inside (cases_eq seat e.entry.seat);
  next = λ j x from there. next_at j x from there (cases_eq j i);
  soonest = λ j x from there. soonest_of j x from there (cases_eq j i);
}
  where
    head : IsFirst tries e.entry.seat (i + 1) next
    head = subst (IsFirst tries e.entry.seat (i + 1)) (sym next_is) (linked.first e.entry.seat within)

    first_at : (seat : ℕ) → seat < seats → (seat ≡ e.entry.seat) ⊎ (seat ≡ e.entry.seat → ⊥) → IsFirst tries seat i (get_or (set heads e.entry.seat i) seat 0)
    first_at seat inside (inl same) =
        let place : get_or (set heads e.entry.seat i) seat 0 ≡ i =
        ap (λ s. get_or (set heads e.entry.seat i) s 0) same ∙ get_or-set_same heads e.entry.seat i 0 (omega (arith, linked.some_heads, within)) in
        subst (IsFirst tries seat i) (sym place) (record {
          later = omega arith;
          same = refl;
          own = λ x there. ap (λ (y : Event). y.entry.seat) (at_same tries i x e there at) ∙ sym same;
        })
    first_at seat inside (inr other) =
        let old = linked.first seat inside in
        let skips : own_events seat (drop (i + 1) tries) ≡ own_events seat (drop i tries) =
        sym (ap (own_events seat) at.is ∙ own_of_other seat e (drop (i + 1) tries) (λ same. other (sym same))) in
        subst (IsFirst tries seat i) (sym (get_or-set_other heads e.entry.seat seat i 0 other)) (record {
          later = omega (arith, old.later);
          same = old.same ∙ skips;
          own = old.own;
        })

    next_at : (j : ℕ) (x : Event) → i ≤ j → IsAt tries j x → (j ≡ i) ⊎ (j ≡ i → ⊥) → IsFirst tries x.entry.seat (j + 1) (get_or (set after i next) j 0)
    next_at j x from there (inl same) =
        let x_is : e ≡ x = at_same tries i e x at (subst (λ k. IsAt tries k x) same there) in
        let place : get_or (set after i next) j 0 ≡ next =
        ap (λ k. get_or (set after i next) k 0) same ∙ get_or-set_same after i next 0 (omega (arith, linked.some_after, at_within tries i e at)) in
        subst (IsFirst tries x.entry.seat (j + 1)) (sym place)
        (subst (λ k. IsFirst tries x.entry.seat (k + 1) next) (sym same) (subst (λ (y : Event). IsFirst tries y.entry.seat (i + 1) next) x_is head))
    next_at j x from there (inr other) =
        subst (IsFirst tries x.entry.seat (j + 1)) (sym (get_or-set_other after i j next 0 other)) (linked.next j x (omega (arith, from, other)) there)

    soonest_of : (j : ℕ) (x : Event) → i ≤ j → IsAt tries j x → (j ≡ i) ⊎ (j ≡ i → ⊥)
        → get_or (set least i soon) j (2 ^ 64 - 1) ≡ least_latest (own_events x.entry.seat (drop j tries))
    soonest_of j x from there (inl same) =
        let x_is : e ≡ x = at_same tries i e x at (subst (λ k. IsAt tries k x) same there) in
        let here : get_or (set least i soon) j (2 ^ 64 - 1) ≡ soon =
        ap (λ k. get_or (set least i soon) k (2 ^ 64 - 1)) same
        ∙ get_or-set_same least i soon (2 ^ 64 - 1) (omega (arith, linked.some_least, at_within tries i e at)) in
        let rest : get_or least next (2 ^ 64 - 1) ≡ least_latest (own_events e.entry.seat (drop (i + 1) tries)) =
        soonest_at seats tries (i + 1) heads after least next e.entry.seat linked head.later head.own ∙ ap least_latest head.same in
        let all : own_events e.entry.seat (drop i tries) ≡ e ∷ own_events e.entry.seat (drop (i + 1) tries) =
        ap (own_events e.entry.seat) at.is ∙ own_of_seat e.entry.seat e (drop (i + 1) tries) refl in
        here ∙ soon_is ∙ ap (min (latest e.span)) rest ∙ ap least_latest (sym all)
        ∙ ap (λ (y : Event). least_latest (own_events y.entry.seat (drop i tries))) x_is
        ∙ ap (λ k. least_latest (own_events x.entry.seat (drop k tries))) (sym same)
    soonest_of j x from there (inr other) =
        get_or-set_other least i j soon (2 ^ 64 - 1) other ∙ linked.soonest j x (omega (arith, from, other)) there

-- the same at equal numbers
pub linked_same : (seats others : ℕ) (tries : List Event) (from place : ℕ) (heads after least : List ℕ) → seats ≡ others → from ≡ place
    → AreLinked seats tries from heads after least → AreLinked others tries place heads after least
linked_same seats others tries from place heads after least same_seats same_place linked =
    subst (λ s. AreLinked s tries place heads after least) same_seats (subst (λ i. AreLinked seats tries i heads after least) same_place linked)
