-- What a merge has of each seat.
-- Cited by `merged`, `arrange`, `tries_of`, `Seated`.
use Rattle.std.proofs.Common.{◌≡◌, ℕ, ◌<◌, ◌≤◌, Bool, false, eqb, List, [], ◌∷◌, ◌++◌, drop, get_or, length, set, arith, refl, subst, sym, ap, ◌∙◌, append-nil, inl, inr}
use Rattle.std.specs.Prelude.{◌⊎◌, All}
use Rattle.std.specs.List.{AllByRecursion}
use Rattle.std.proofs.lemmas.Bool.{cases_eq, cases_lt, ne_eqb}
use Rattle.std.proofs.lemmas.List.{get_or_read, nil_from_length}
use Rattle.std.proofs.lemmas.List.Elements.{All-from_recursion, recursion_from_All}
use Rattle.list_laws.proofs.Elements.{AllByRecursion-map}
use Rattle.list_laws.proofs.Filters.{filter_none}
use Rattle.task_base.specs.Plan.{Plan}
use Rattle.order_model.specs.declared.event.Event.{Event}
use Rattle.order_model.specs.Orders.{IsBeginning, IsOrder, own_events}
use Rattle.order_search.specs.Arranged.{IsArranged}
use Rattle.order_search.specs.declared.arranged.Arranged.{Arranged}
use Rattle.order_search.specs.declared.arranged.Arranged.TheVariants.{Order, NoOrder, GaveUp}
use Rattle.order_search.specs.Places.{IsAt}
use Rattle.order_search.specs.Walk.{IsTask, Task}
use Rattle.order_search.proofs.Places.{at_read}
use Rattle.order_search.proofs.Own.{own_of_other, own_of_seat}
use Rattle.order_search.proofs.Ruled.{IsParted, parted_next}
use Rattle.order_search.proofs.Shares.{FirstOf, each_without, first_among, joined, one_fewer}
use Rattle.order_search.proofs.Steps.{AreAtEnd, none_left}

-- what has a beginning of each seat's events, and as many in all, has all of them
pub all_of_each : (xs ys : List Event) (rest : ℕ → List Event) → ((seat : ℕ) → own_events seat xs ++ rest seat ≡ own_events seat ys)
    → length ys ≤ length xs → (seat : ℕ) → own_events seat xs ≡ own_events seat ys
all_of_each [] ys rest each few seat = sym (ap (own_events seat) (nil_from_length ys (omega (arith, few))))
all_of_each (x ∷ xs) ys rest each few seat =
    let found = first_among x xs ys rest each in
    let fewer : length (found.front ++ found.back) ≤ length xs = omega (arith, few, one_fewer x xs ys rest each) in
    with_first found (all_of_each xs (found.front ++ found.back) rest (each_without x xs ys rest each) fewer seat) (cases_eq x.entry.seat seat)
  where
    with_first : (found : FirstOf x.entry.seat ys x) → own_events seat xs ≡ own_events seat (found.front ++ found.back)
        → (x.entry.seat ≡ seat) ⊎ (x.entry.seat ≡ seat → ⊥) → own_events seat (x ∷ xs) ≡ own_events seat ys
    with_first found same_rest (inl same) =
        let none : own_events seat found.front ≡ [] = subst (λ s. own_events s found.front ≡ []) same found.none in
        own_of_seat seat x xs same ∙ ap (λ l. x ∷ l) (same_rest ∙ joined seat found.front found.back ∙ ap (λ l. l ++ own_events seat found.back) none)
        ∙ sym (ap (own_events seat) found.parts ∙ joined seat found.front (x ∷ found.back)
        ∙ ap (λ l. l ++ own_events seat (x ∷ found.back)) none ∙ own_of_seat seat x found.back same)
    with_first found same_rest (inr apart) =
        own_of_other seat x xs apart ∙ same_rest ∙ joined seat found.front found.back
        ∙ sym (ap (own_events seat) found.parts ∙ joined seat found.front (x ∷ found.back)
        ∙ ap (λ l. own_events seat found.front ++ l) (own_of_other seat x found.back apart))

-- where nothing is left, each seat has all
pub all_at_end : (task : Task) (events : List Event) (heads : List ℕ) → IsTask task → IsParted task events heads → AreAtEnd task heads
    → (seat : ℕ) → own_events seat events ≡ own_events seat task.tries
all_at_end task events heads is parts ends seat =
    sym (append-nil (own_events seat events)) ∙ ap (λ l. own_events seat events ++ l) (none_left task events heads is parts ends seat) ∙ parts.parts seat

-- where as many events are merged as there are, too
pub all_by_count : (task : Task) (events : List Event) (heads : List ℕ) → IsParted task events heads → length task.tries ≤ length events
    → (seat : ℕ) → own_events seat events ≡ own_events seat task.tries
all_by_count task events heads parts few =
    all_of_each events task.tries (λ seat. own_events seat (drop (get_or heads seat 0) task.tries)) parts.parts few

-- ---- the same for the events in another order

begins_other : (script : Plan) (tries seen events rest : List Event) → ((seat : ℕ) → own_events seat tries ≡ own_events seat seen)
    → IsBeginning script tries events rest → IsBeginning script seen events rest
begins_other script tries seen events rest same begins = record {
  own = λ seat. begins.own seat ∙ same seat;
  times = begins.times;
  legal = begins.legal;
}

order_other : (script : Plan) (prefix : Bool) (tries seen events : List Event) → ((seat : ℕ) → own_events seat tries ≡ own_events seat seen)
    → IsOrder script prefix tries events → IsOrder script prefix seen events
order_other script prefix tries seen events same order = record { begins = begins_other script tries seen events [] same order.begins; ended = order.ended }

-- what the search found of the merged events it found of those that were seen
pub arranged_other : (script : Plan) (prefix : Bool) (tries seen : List Event) (found : Arranged) → ((seat : ℕ) → own_events seat tries ≡ own_events seat seen)
    → IsArranged script prefix tries found → IsArranged script prefix seen found
arranged_other script prefix tries seen (Order events) same is = order_other script prefix tries seen events.items same is
arranged_other script prefix tries seen (NoOrder events rest) same is = record {
  none = λ others order. is.none others (order_other script prefix seen tries others (λ seat. sym (same seat)) order);
  longest = record {
    begins = begins_other script tries seen events.items rest.items same is.longest.begins;
    longest = λ others left begins. is.longest.longest others left (begins_other script seen tries others left (λ seat. sym (same seat)) begins);
  };
}
arranged_other script prefix tries seen (GaveUp events rest) same is = begins_other script tries seen events.items rest.items same is

-- ---- the merge

-- once the head of a seat is merged
pub merged_more : (task : Task) (events : List Event) (heads : List ℕ) (seat i : ℕ) (e : Event) (after : ℕ) → IsTask task → IsParted task events heads
    → seat < length heads → i ≡ get_or heads seat i → get_or heads seat 0 < length task.tries → e ≡ get_or task.tries i e → after ≡ get_or task.after i after
    → IsParted task (events ++ e ∷ []) (set heads seat after)
merged_more task events heads seat i e after is parts within i_is before e_is after_is =
    let head : get_or heads seat 0 ≡ i = sym (get_or_read heads seat i within i_is 0) in
    let at : IsAt task.tries i e = at_read task.tries i e (omega (arith, head, before)) e_is in
    let seat_is : e.entry.seat ≡ seat = parts.own seat e (omega (arith, within, parts.count)) (subst (λ j. IsAt task.tries j e) (sym head) at) in
    let after_at : get_or task.after i 0 ≡ after =
    sym (get_or_read task.after i after (omega (arith, is.linked.some_after, head, before)) after_is 0) in
    subst (λ s. IsParted task (events ++ e ∷ []) (set heads s after)) seat_is
    (subst (λ a. IsParted task (events ++ e ∷ []) (set heads e.entry.seat a)) after_at
    (parted_next task events heads i e is parts at (omega (arith, within, parts.count, seat_is)) (ap (λ s. get_or heads s 0) seat_is ∙ head)))

-- where no seat from a number on has any event, each event is of a seat below it
pub all_seated : (seats : ℕ) (events : List Event) → ((seat : ℕ) → seats ≤ seat → own_events seat events ≡ []) → AllByRecursion (λ (e : Event). e.entry.seat < seats) events
all_seated seats [] none = tt
all_seated seats (x ∷ events) none = (
  within (cases_lt x.entry.seat seats),
  all_seated seats events (λ seat past.
      sym (own_of_other seat x events (λ same. omega (arith, within (cases_lt x.entry.seat seats), same, past))) ∙ none seat past),
)
  where
    within : (x.entry.seat < seats) ⊎ (seats ≤ x.entry.seat) → x.entry.seat < seats
    within (inl less) = less
    within (inr past) = let first = own_of_seat x.entry.seat x events refl in let nothing = none x.entry.seat past in absurd cc

-- the events of another order are of seats of the script where those that were seen are
pub seated_other : (seats : ℕ) (events seen : List Event) → ((seat : ℕ) → own_events seat events ≡ own_events seat seen)
    → All (λ (e : Event). e.entry.seat < seats) seen → All (λ (e : Event). e.entry.seat < seats) events
seated_other seats events seen same seated =
    All-from_recursion (λ (e : Event). e.entry.seat < seats) events (all_seated seats events (λ seat past. same seat ∙ none seat past))
  where
    none : (seat : ℕ) → seats ≤ seat → own_events seat seen ≡ []
    none seat past = filter_none (λ (e : Event). eqb e.entry.seat seat) seen
        (AllByRecursion-map (λ (e : Event). e.entry.seat < seats) (λ (e : Event). eqb e.entry.seat seat ≡ false) seen
        (λ e within. ne_eqb e.entry.seat seat (λ is. omega (arith, within, is, past)))
        (recursion_from_All (λ (e : Event). e.entry.seat < seats) seen seated))
