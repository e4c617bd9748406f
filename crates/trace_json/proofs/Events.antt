-- The events of a trace: which entry each one comes from, and their order.
-- Cited by `trace_of`, `Sequences`, `Turns`, `spans.rt`.
use Rattle.std.proofs.Common.{◌≡◌, ◌<◌, ◌≤◌, ◌+◌, ℕ, zero, suc, add-zero, zero-add, List, [], ◌∷◌, ◌++◌, length, take, drop, get_or}
use Rattle.std.proofs.Common.{refl, sym, ap, subst, ◌∙◌, append_assoc, append-nil, Option, None, Some, inl, inr, arith}
use Rattle.std.specs.Prelude.{◌⊎◌, slice_get}
use Rattle.std.proofs.lemmas.Bool.{cases_order}
use Rattle.std.proofs.lemmas.List.{take_more, length-take-le}
use Rattle.std.proofs.lemmas.Option.{none-some, same_Some}
use Rattle.task_base.specs.declared.entry.Entry.{Entry}
use Rattle.list_laws.proofs.Places.{slice_get-append, slice_get_seam}
use Rattle.hist_model.proofs.Laws.AtPlaces.{parted_at, length-past}
use Rattle.trace_json.specs.declared.event.EventName.{EventName}
use Rattle.trace_json.specs.declared.event.EventPhase.TheVariants.{Begin, End}
use Rattle.trace_json.specs.declared.event.TraceEvent.{TraceEvent}
use Rattle.trace_json.specs.Trace.{ended_by, begun_by, event_if, events_at, trace_from, trace_of}

-- ---- one entry more

trace_from-append : (place : ℕ) (xs ys : List Entry) → trace_from place (xs ++ ys) ≡ trace_from place xs ++ trace_from (place + length xs) ys
trace_from-append place [] ys = ap (λ p. trace_from p ys) (sym (add-zero place))
trace_from-append place (x ∷ xs) ys =
    let shift : (place + 1) + length xs ≡ place + suc (length xs) = omega arith in
    ap (λ events. events_at place x ++ events)
    (trace_from-append (place + 1) xs ys ∙ ap (λ p. trace_from (place + 1) xs ++ trace_from p ys) shift)
    ∙ sym (append_assoc (events_at place x) (trace_from (place + 1) xs) (trace_from (place + suc (length xs)) ys))

-- the events of the entries behind a front stand behind those of the front
pub trace_of-append : (past rest : List Entry) → trace_of (past ++ rest) ≡ trace_of past ++ trace_from (length past) rest
unfolding trace_of
trace_of-append past rest = trace_from-append 0 past rest ∙ ap (λ p. trace_from 0 past ++ trace_from p rest) (zero-add (length past))

-- one more entry adds its events
pub trace_of-push : (past : List Entry) (e : Entry) → trace_of (past ++ e ∷ []) ≡ trace_of past ++ events_at (length past) e
trace_of-push past e = trace_of-append past (e ∷ []) ∙ ap (λ events. trace_of past ++ events) (append-nil (events_at (length past) e))

-- the events of the entries up to a place, and those of the entry there
pub trace_of-more : (events : List TraceEvent) (log : List Entry) (i : ℕ) (d : Entry) → events ≡ trace_of (take i log) → i < length log
    → events ++ events_at i (get_or log i d) ≡ trace_of (take (i + 1) log)
trace_of-more events log i d so_far less =
    let short : length (take i log) ≡ i = length-take-le i log (omega arith) in
    rw (take_more log i d less, trace_of-push, short, so_far) refl

-- ---- which entry an event comes from

-- the event is one of an entry at this place: the end of what it ends, or the beginning of what it begins
pub record IsEventOf (place : ℕ) (e : Entry) (a : TraceEvent) : Type 0 where
  pub at : a.place ≡ place
  pub by : a.seat ≡ e.seat
  pub what : ((a.phase ≡ End) × (ended_by e.kind ≡ Some a.name)) ⊎ ((a.phase ≡ Begin) × (begun_by e.kind ≡ Some a.name))

end_of : (place : ℕ) (e : Entry) (name : EventName) (a : TraceEvent) → ended_by e.kind ≡ Some name
    → record { name = name; phase = End; seat = e.seat; place = place } ≡ a → IsEventOf place e a
end_of place e name a ends is = subst (IsEventOf place e) is (record { at = refl; by = refl; what = inl (refl, ends) })

begin_of : (place : ℕ) (e : Entry) (name : EventName) (a : TraceEvent) → begun_by e.kind ≡ Some name
    → record { name = name; phase = Begin; seat = e.seat; place = place } ≡ a → IsEventOf place e a
begin_of place e name a begins is = subst (IsEventOf place e) is (record { at = refl; by = refl; what = inr (refl, begins) })

event_at : (place : ℕ) (e : Entry) (i : ℕ) (a : TraceEvent) → slice_get (events_at place e) i ≡ Some a → IsEventOf place e a
event_at place e i a is = at (ended_by e.kind) (begun_by e.kind) refl refl i is
  where
    at : (ended begun : Option EventName) → ended_by e.kind ≡ ended → begun_by e.kind ≡ begun → (k : ℕ)
        → slice_get (event_if ended End e.seat place ++ event_if begun Begin e.seat place) k ≡ Some a → IsEventOf place e a
    at None None ends begins k h = absurd (none-some a h)
    at None (Some name) ends begins zero h = begin_of place e name a begins (same_Some _ a h)
    at None (Some name) ends begins (suc k) h = absurd (none-some a h)
    at (Some name) begun ends begins zero h = end_of place e name a ends (same_Some _ a h)
    at (Some name) None ends begins (suc k) h = absurd (none-some a h)
    at (Some name) (Some next) ends begins (suc zero) h = begin_of place e next a begins (same_Some _ a h)
    at (Some name) (Some next) ends begins (suc (suc k)) h = absurd (none-some a h)

-- the entry that an event comes from stands at the event's place
pub record ComesFrom (start : ℕ) (log : List Entry) (a : TraceEvent) : Type 0 where
  pub entry : Entry
  pub index : ℕ
  pub place_is : a.place ≡ start + index
  pub is : slice_get log index ≡ Some entry
  pub of : IsEventOf a.place entry a

comes_from : (start : ℕ) (log : List Entry) (i : ℕ) (a : TraceEvent) → slice_get (trace_from start log) i ≡ Some a → ComesFrom start log a
comes_from start [] i a is = absurd (none-some a is)
comes_from start (e ∷ rest) i a is = elim (slice_get-append (events_at start e) (trace_from (start + 1) rest) i a is) [
  | inl here ↦ let of = event_at start e i a here.1 in
      record { entry = e; index = 0; place_is = omega (arith, of.at); is = refl; of = subst (λ p. IsEventOf p e a) (sym of.at) of }
  | inr there ↦ let of = comes_from (start + 1) rest there.0 a there.2 in
      record { entry = of.entry; index = suc of.index; place_is = omega (arith, of.place_is); is = of.is; of = of.of }
]

-- at the place of an event stands an entry that the event is of
pub entry_of : (log : List Entry) (i : ℕ) (a : TraceEvent) → slice_get (trace_of log) i ≡ Some a
    → (e : Entry) × (slice_get log a.place ≡ Some e) × IsEventOf a.place e a
unfolding trace_of
entry_of log i a is =
    let from = comes_from 0 log i a is in
    (from.entry, ap (slice_get log) (omega (arith, from.place_is)) ∙ from.is, from.of)

-- an entry that ends something has the end in the trace
pub record ShowsEnd (log : List Entry) (place seat : ℕ) (name : EventName) : Type 0 where
  pub index : ℕ
  pub is : slice_get (trace_of log) index ≡ Some (record { name = name; phase = End; seat = seat; place = place })

pub shows_end : (log : List Entry) (place : ℕ) (e : Entry) (name : EventName) → slice_get log place ≡ Some e → ended_by e.kind ≡ Some name
    → ShowsEnd log place e.seat name
shows_end log place e name is ends = record {
  index = length (trace_of (take place log));
  is = subst (λ xs. slice_get (trace_of xs) (length (trace_of (take place log))) ≡ Some end) (parted_at log place e is)
      (ap (λ events. slice_get events (length (trace_of (take place log)))) parts ∙ slice_get_seam (trace_of (take place log)) end _);
}
  where
    end : TraceEvent
    end = record { name = name; phase = End; seat = e.seat; place = place }

    parts : trace_of (take place log ++ e ∷ drop (suc place) log) ≡ trace_of (take place log)
        ++ end ∷ (event_if (begun_by e.kind) Begin e.seat place ++ trace_from (place + 1) (drop (suc place) log))
    parts = rw (trace_of-append (take place log) (e ∷ drop (suc place) log), length-past log place e is, ends) refl

-- ---- their order

-- one event goes before another: at an earlier place, or at the same one as an end before a beginning
abbrev pub GoesBefore : TraceEvent → TraceEvent → Type 0
GoesBefore a b = (a.place < b.place) ⊎ ((a.place ≡ b.place) × (a.phase ≡ End) × (b.phase ≡ Begin))

-- of the events of one entry the first is the end
first_ends : (place : ℕ) (e : Entry) (i j : ℕ) (a b : TraceEvent) → i < j → slice_get (events_at place e) i ≡ Some a → slice_get (events_at place e) j ≡ Some b
    → GoesBefore a b
first_ends place e i j a b less at_i at_j = at (ended_by e.kind) (begun_by e.kind) i j less at_i at_j
  where
    at : (ended begun : Option EventName) (k m : ℕ) → k < m → slice_get (event_if ended End e.seat place ++ event_if begun Begin e.seat place) k ≡ Some a
        → slice_get (event_if ended End e.seat place ++ event_if begun Begin e.seat place) m ≡ Some b → GoesBefore a b
    at None None k m l p q = absurd (none-some a p)
    at None (Some next) k zero l p q = absurd (omega (arith, l))
    at None (Some next) k (suc m) l p q = absurd (none-some b q)
    at (Some name) None k zero l p q = absurd (omega (arith, l))
    at (Some name) None k (suc m) l p q = absurd (none-some b q)
    at (Some name) (Some next) k zero l p q = absurd (omega (arith, l))
    at (Some name) (Some next) k (suc (suc m)) l p q = absurd (none-some b q)
    at (Some name) (Some next) (suc k) (suc zero) l p q = absurd (omega (arith, l))
    at (Some name) (Some next) zero (suc zero) l p q = inr (
      ap (λ x. x.place) (sym (same_Some _ a p)) ∙ ap (λ x. x.place) (same_Some _ b q),
      ap (λ x. x.phase) (sym (same_Some _ a p)),
      ap (λ x. x.phase) (sym (same_Some _ b q)),
    )

in_order : (start : ℕ) (log : List Entry) (i j : ℕ) (a b : TraceEvent) → i < j → slice_get (trace_from start log) i ≡ Some a
    → slice_get (trace_from start log) j ≡ Some b → GoesBefore a b
in_order start [] i j a b less at_i at_j = absurd (none-some a at_i)
in_order start (e ∷ rest) i j a b less at_i at_j = at (slice_get-append (events_at start e) (trace_from (start + 1) rest) i a at_i)
    (slice_get-append (events_at start e) (trace_from (start + 1) rest) j b at_j) (in_order (start + 1) rest)
  where
    front : ℕ
    front = length (events_at start e)

    Where : ℕ → TraceEvent → Type 0
    Where k x = ((k < front) × (slice_get (events_at start e) k ≡ Some x))
        ⊎ ((m : ℕ) × (k ≡ front + m) × (slice_get (trace_from (start + 1) rest) m ≡ Some x))

    at : Where i a → Where j b → ((k m : ℕ) (x y : TraceEvent) → k < m → slice_get (trace_from (start + 1) rest) k ≡ Some x
        → slice_get (trace_from (start + 1) rest) m ≡ Some y → GoesBefore x y) → GoesBefore a b
    at (inl p) (inl q) later = first_ends start e i j a b less p.1 q.1
    at (inl p) (inr q) later = inl (omega (arith, (event_at start e i a p.1).at, (comes_from (start + 1) rest q.0 b q.2).place_is))
    at (inr p) (inl q) later = absurd (omega (arith, less, p.1, q.0))
    at (inr p) (inr q) later = later p.0 q.0 a b (omega (arith, less, p.1, q.1)) p.2 q.2

-- of two events the one at the lesser index goes before the other
pub goes_before : (log : List Entry) (i j : ℕ) (a b : TraceEvent) → i < j → slice_get (trace_of log) i ≡ Some a → slice_get (trace_of log) j ≡ Some b
    → GoesBefore a b
unfolding trace_of
goes_before log i j a b less at_i at_j = in_order 0 log i j a b less at_i at_j

-- so the places never fall
pub places_never_fall : (log : List Entry) (i k : ℕ) (a b : TraceEvent) → i ≤ k → slice_get (trace_of log) i ≡ Some a → slice_get (trace_of log) k ≡ Some b
    → a.place ≤ b.place
places_never_fall log i k a b le at_i at_k = elim (cases_order i k) [
  | inl same ↦ let one : a ≡ b = same_Some a b (sym at_i ∙ ap (slice_get (trace_of log)) same ∙ at_k) in omega (arith, ap (λ x. x.place) one)
  | inr apart ↦ elim (goes_before log i k a b (omega (arith, le, apart)) at_i at_k) [ inl h ↦ omega (arith, h) | inr h ↦ omega (arith, h.0) ]
]

-- an event at a lesser place has a lesser index
pub earlier_index : (log : List Entry) (i k : ℕ) (a b : TraceEvent) → slice_get (trace_of log) i ≡ Some a → slice_get (trace_of log) k ≡ Some b
    → a.place < b.place → i < k
earlier_index log i k a b at_i at_k less = elim (cases_order i k) [
  | inl same ↦ absurd (omega (arith, less, places_never_fall log k i b a (omega (arith, same)) at_k at_i))
  | inr apart ↦ elim apart [
    | inl before ↦ before
    | inr behind ↦ absurd (omega (arith, less, places_never_fall log k i b a (omega (arith, behind)) at_k at_i))
  ]
]
