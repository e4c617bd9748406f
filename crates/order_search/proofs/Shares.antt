-- Events that have of each seat the first ones of others.
-- Cited by `Merged`, `Steps`, `order_answer`.
use Rattle.std.proofs.Common.{◌≡◌, ℕ, suc, ◌≤◌, eqb, List, [], ◌∷◌, ◌++◌, length, arith, refl, subst, sym, ap, ◌∙◌, inl, inr}
use Rattle.std.specs.Prelude.{◌⊎◌}
use Rattle.std.proofs.lemmas.Bool.{cases_eq}
use Rattle.std.proofs.lemmas.List.{length-append}
use Rattle.std.proofs.lemmas.List.Elements.{filter-append}
use Rattle.order_model.specs.declared.event.Event.{Event}
use Rattle.order_model.specs.Orders.{own_events}
use Rattle.order_search.proofs.Own.{own_of_other, own_of_seat}

-- where the first event of a seat stands
pub record FirstOf (seat : ℕ) (events : List Event) (e : Event) : Type 0 where
  pub front : List Event
  pub back : List Event
  pub parts : events ≡ front ++ e ∷ back
  pub none : own_events seat front ≡ []

first_of : (seat : ℕ) (events : List Event) (e : Event) (rest : List Event) → own_events seat events ≡ e ∷ rest → FirstOf seat events e
first_of seat [] e rest is = absurd cc
first_of seat (x ∷ events) e rest is = by_seat (cases_eq x.entry.seat seat) (first_of seat events e rest)
  where
    by_seat : (x.entry.seat ≡ seat) ⊎ (x.entry.seat ≡ seat → ⊥) → (own_events seat events ≡ e ∷ rest → FirstOf seat events e) → FirstOf seat (x ∷ events) e
    by_seat (inl same) later =
        let first = own_of_seat seat x events same in
        let x_is : x ≡ e = cc in
        record { front = []; back = events; parts = ap (λ (y : Event). y ∷ events) x_is; none = refl }
    by_seat (inr other) later =
        let found = later (sym (own_of_other seat x events other) ∙ is) in
        record {
          front = x ∷ found.front;
          back = found.back;
          parts = ap (λ l. x ∷ l) found.parts;
          none = own_of_other seat x found.front other ∙ found.none;
        }

-- what a seat has of two lists
pub joined : (seat : ℕ) (front back : List Event) → own_events seat (front ++ back) ≡ own_events seat front ++ own_events seat back
joined seat front back = filter-append (λ (y : Event). eqb y.entry.seat seat) front back

module _ (x : Event) (xs ys : List Event) (rest : ℕ → List Event) (each : (seat : ℕ) → own_events seat (x ∷ xs) ++ rest seat ≡ own_events seat ys) where
  -- the first of the events is the first one of its seat among the others
  pub first_among : FirstOf x.entry.seat ys x
  first_among = first_of x.entry.seat ys x (own_events x.entry.seat xs ++ rest x.entry.seat)
      (sym (each x.entry.seat) ∙ ap (λ l. l ++ rest x.entry.seat) (own_of_seat x.entry.seat x xs refl))

  -- and the rest of them have the first ones of what is left of the others without it
  pub each_without : (other : ℕ) → own_events other xs ++ rest other ≡ own_events other (first_among.front ++ first_among.back)
  each_without other = by_seat (cases_eq x.entry.seat other)
    where
      front : List Event
      front = first_among.front

      back : List Event
      back = first_among.back

      by_seat : (x.entry.seat ≡ other) ⊎ (x.entry.seat ≡ other → ⊥) → own_events other xs ++ rest other ≡ own_events other (front ++ back)
      by_seat (inl same) =
          let none : own_events other front ≡ [] = subst (λ s. own_events s front ≡ []) same first_among.none in
          let all = ap (own_events other) first_among.parts ∙ joined other front (x ∷ back)
          ∙ ap (λ l. l ++ own_events other (x ∷ back)) none ∙ own_of_seat other x back same in
          let mine = ap (λ l. l ++ rest other) (sym (own_of_seat other x xs same)) ∙ each other in
          let now = joined other front back ∙ ap (λ l. l ++ own_events other back) none in
          cc
      by_seat (inr apart) =
          ap (λ l. l ++ rest other) (sym (own_of_other other x xs apart)) ∙ each other ∙ ap (own_events other) first_among.parts
          ∙ joined other front (x ∷ back) ∙ ap (λ l. own_events other front ++ l) (own_of_other other x back apart)
          ∙ sym (joined other front back)

  -- of which there is one fewer
  pub one_fewer : length ys ≡ suc (length (first_among.front ++ first_among.back))
  one_fewer = omega (
    arith,
    ap length first_among.parts,
    length-append first_among.front (x ∷ first_among.back),
    length-append first_among.front first_among.back,
  )

-- so they are no more than the others
pub few_of_each : (xs ys : List Event) (rest : ℕ → List Event) → ((seat : ℕ) → own_events seat xs ++ rest seat ≡ own_events seat ys) → length xs ≤ length ys
few_of_each [] ys rest each = omega arith
few_of_each (x ∷ xs) ys rest each =
    let found = first_among x xs ys rest each in
    omega (arith, one_fewer x xs ys rest each, few_of_each xs (found.front ++ found.back) rest (each_without x xs ys rest each))
