-- The events of each seat among others, and those that a beginning has and leaves.
-- Cited by `Linked`, `Merged`, `Ruled`, `Shares`, `Steps`.
use Rattle.std.proofs.Common.{◌≡◌, ℕ, Bool, true, false, eqb, List, [], ◌∷◌, ◌++◌, refl, sym, ap, ◌∙◌, append_assoc}
use Rattle.std.specs.List.{list_any}
use Rattle.std.proofs.lemmas.Bool.{and_parts, eq-eqb, eqb-true, ne_eqb, not-true, or_from, or_parts}
use Rattle.std.proofs.lemmas.List.{map-append}
use Rattle.std.proofs.lemmas.List.Elements.{filter-append}
use Rattle.task_base.specs.Plan.{Plan}
use Rattle.hist_model.specs.Allowed.{is_allowed}
use Rattle.hist_model.proofs.Laws.Legal.{each_is_allowed}
use Rattle.order_model.specs.declared.event.Event.{Event}
use Rattle.order_model.specs.Orders.{IsBeginning, entries_of, in_time, is_before, may_precede, own_events}

-- an event comes before the others of its seat, and is none of another's
pub own_of_seat : (seat : ℕ) (e : Event) (events : List Event) → e.entry.seat ≡ seat → own_events seat (e ∷ events) ≡ e ∷ own_events seat events
own_of_seat seat e events is = rw (eq-eqb e.entry.seat seat is) refl

pub own_of_other : (seat : ℕ) (e : Event) (events : List Event) → (e.entry.seat ≡ seat → ⊥) → own_events seat (e ∷ events) ≡ own_events seat events
own_of_other seat e events other = rw (ne_eqb e.entry.seat seat other) refl

-- what none of the events is, none of a seat is
pub no_own : (p : Event → Bool) (seat : ℕ) (events : List Event) → list_any p events ≡ false → list_any p (own_events seat events) ≡ false
no_own p seat [] none = refl
no_own p seat (e ∷ events) none =
    let parts = or_parts (p e) (list_any p events) none in
    let later = no_own p seat events parts.1 in
    by_seat parts.0 later (eqb e.entry.seat seat) refl
  where
    by_seat : p e ≡ false → list_any p (own_events seat events) ≡ false → (b : Bool) → eqb e.entry.seat seat ≡ b → list_any p (own_events seat (e ∷ events)) ≡ false
    by_seat here later true is = rw is (or_from (p e) (list_any p (own_events seat events)) here later)
    by_seat here later false is = rw is later

-- and what none of any seat is, none of them is
pub none_own : (p : Event → Bool) (events : List Event) → ((seat : ℕ) → list_any p (own_events seat events) ≡ false) → list_any p events ≡ false
none_own p [] none = refl
none_own p (e ∷ events) none = or_from (p e) (list_any p events) first (none_own p events later)
  where
    first : p e ≡ false
    first = (or_parts (p e) (list_any p (own_events e.entry.seat events))
        (ap (list_any p) (sym (own_of_seat e.entry.seat e events refl)) ∙ none e.entry.seat)).0

    by_seat : (seat : ℕ) (b : Bool) → eqb e.entry.seat seat ≡ b → list_any p (own_events seat events) ≡ false
    by_seat seat true is = (or_parts (p e) (list_any p (own_events seat events))
        (ap (list_any p) (sym (own_of_seat seat e events (eqb-true e.entry.seat seat is))) ∙ none seat)).1
    by_seat seat false is = ap (list_any p) (sym (rw is refl)) ∙ none seat

    later : (seat : ℕ) → list_any p (own_events seat events) ≡ false
    later seat = by_seat seat (eqb e.entry.seat seat) refl

-- ---- a beginning

-- what the first events have of a seat, and what those after them have and leave, are all that was seen
pub own_split : {script : Plan} {seen : List Event} (events more left : List Event) (seat : ℕ) → IsBeginning script seen (events ++ more) left
    → own_events seat events ++ own_events seat (more ++ left) ≡ own_events seat seen
own_split events more left seat begins =
    rw (filter-append (λ (e : Event). eqb e.entry.seat seat) more left)
    (sym (append_assoc (own_events seat events) (own_events seat more) (own_events seat left))
    ∙ ap (λ l. l ++ own_events seat left) (sym (filter-append (λ (e : Event). eqb e.entry.seat seat) events more)) ∙ begins.own seat)

-- each entry may come after those before it
pub allowed_next : {script : Plan} {seen : List Event} (events : List Event) (e : Event) (more left : List Event) → IsBeginning script seen (events ++ e ∷ more) left
    → is_allowed script (entries_of events) e.entry ≡ true
allowed_next events e more left begins =
    each_is_allowed _ (entries_of events) e.entry (entries_of more)
    (rw (← map-append (λ (x : Event). x.entry) events (e ∷ more)) begins.legal)

-- the back of what is in time is
in_time_back : (left events more : List Event) → in_time left (events ++ more) ≡ true → in_time left more ≡ true
in_time_back left [] more times = times
in_time_back left (x ∷ events) more times = in_time_back left events more (and_parts (may_precede x ((events ++ more) ++ left)) (in_time left (events ++ more)) times).1

-- no event that comes later came before it
pub none_before : {script : Plan} {seen : List Event} (events : List Event) (e : Event) (more left : List Event) → IsBeginning script seen (events ++ e ∷ more) left
    → list_any (λ (other : Event). is_before other e) (more ++ left) ≡ false
none_before events e more left begins =
    not-true (list_any (λ (other : Event). is_before other e) (more ++ left))
    (and_parts (may_precede e (more ++ left)) (in_time left more) (in_time_back left events (e ∷ more) begins.times)).0

-- one more event is in time where none that is left came before it
pub in_time_push : (rest events : List Event) (e : Event) → in_time (e ∷ rest) events ≡ true → may_precede e rest ≡ true → in_time rest (events ++ e ∷ []) ≡ true
in_time_push rest [] e times may = rw may refl
in_time_push rest (x ∷ events) e times may =
    let parts = and_parts (may_precede x (events ++ e ∷ rest)) (in_time (e ∷ rest) events) times in
    rw (append_assoc events (e ∷ []) rest, parts.0) (in_time_push rest events e parts.1 may)
