-- What began last of each seat, and what is wrong by it.
-- Cited by `mistake_of`.
use Rattle.std.proofs.Common.{◌≡◌, ◌≢◌, ◌<◌, ◌≤◌, ◌+◌, ◌==◌, ◌&&◌, ℕ, Bool, true, false, suc, if◌then◌else◌, List, [], ◌∷◌, ◌++◌}
use Rattle.std.proofs.Common.{length, get_or, replicate, set, take, drop, length-take-le, take-suc, drop-cons, add-one}
use Rattle.std.proofs.Common.{Option, Some, None, IfSome, MatchOption, is_some, refl, sym, ap, ◌∙◌, inl, inr, arith, append_assoc, append-nil, length-append}
use Rattle.std.specs.Prelude.{option_map}
use Rattle.std.specs.List.{list_any}
use Rattle.std.proofs.Math.Seq.{get_or-append_seam}
use Rattle.std.proofs.lemmas.Bool.{and_parts, both_ways, cases_eq, cases_lt, eq-eqb, eqb-true, le-ltb, lt-ltb, ltb-false, not-true}
use Rattle.std.proofs.lemmas.List.{get_or_append_left, get_or-set_same, get_or-set_other, get_or-replicate, take-append-drop}
use Rattle.std.proofs.lemmas.List.Elements.{All-push}
use Rattle.std.proofs.lemmas.List.Folds.{list_any_none}
use Rattle.order_model.specs.declared.event.Event.{Event}
use Rattle.order_model.specs.declared.event.Span.{Span}
use Rattle.order_model.specs.Orders.{is_before, is_over}
use Rattle.event_text.specs.declared.mistakes.EventMistake.{EventMistake}
use Rattle.event_text.specs.declared.mistakes.EventMistake.TheVariants.{NoSeat, Backwards, OutOfTime}
use Rattle.event_text.specs.declared.mistakes.Latest.{Latest}
use Rattle.event_text.specs.Mistakes.{has_no_seat, is_backwards, is_before_own, is_right, are_right, IsOutOfTime, HasMistake}
use Rattle.event_text.specs.Mistakes.{latest_after, line_barring, mistake_with, IsFirstMistake, begins_by, begins_at, StandsAt, IsLatest}

-- what begins no later than what began last still does so after one more
still_by : (latest : Option Latest) (span seen : Option Span) (line : ℕ) → begins_by latest seen ≡ true → begins_by (latest_after latest span line) seen ≡ true
still_by latest None seen line h = h
still_by latest (Some span) None line h = refl
still_by None (Some span) (Some seen) line h = absurd cc
still_by (Some latest) (Some span) (Some seen) line h =
    elim (cases_lt latest.from span.from) [
      | inl later ↦ let known : seen.from ≤ latest.from = ltb-false latest.from seen.from (not-true _ h) in
          rw (lt-ltb _ _ later, le-ltb span.from seen.from (omega arith)) refl
      | inr sooner ↦ rw (le-ltb _ _ sooner) h
    ]

-- and so does this one
now_by : (latest : Option Latest) (span : Option Span) (line : ℕ) → begins_by (latest_after latest span line) span ≡ true
now_by latest None line = refl
now_by None (Some span) line = rw (le-ltb span.from span.from (omega arith)) refl
now_by (Some latest) (Some span) line =
    elim (cases_lt latest.from span.from) [
      | inl later ↦ rw (lt-ltb _ _ later, le-ltb span.from span.from (omega arith)) refl
      | inr sooner ↦ rw (le-ltb _ _ sooner, le-ltb _ _ sooner) refl
    ]

-- what stands among the events still does after one more
still_stands : (before : List Event) (e : Event) (seat : ℕ) (latest : Latest) → StandsAt before seat latest → StandsAt (before ++ e ∷ []) seat latest
still_stands before e seat latest h = record {
  place = h.place;
  number = h.number;
  within = omega (arith, h.within, length-append before (e ∷ []));
  own = λ d. rw (get_or_append_left before (e ∷ []) d h.place h.within) (h.own d);
  begins = λ d. rw (get_or_append_left before (e ∷ []) d h.place h.within) (h.begins d);
}

-- and so does the one more
new_stands : (before : List Event) (e : Event) (seat : ℕ) (span : Span) → e.entry.seat ≡ seat → e.span ≡ Some span
    → StandsAt (before ++ e ∷ []) seat (record { from = span.from; line = length before + 1 })
new_stands before e seat span own same = record {
  place = length before;
  number = refl;
  within = omega (arith, length-append before (e ∷ []));
  own = λ d. rw (get_or-append_seam before e [] d) own;
  begins = λ d. rw (get_or-append_seam before e [] d, same, eq-eqb span.from span.from refl) refl;
}

stands_after : (before : List Event) (e : Event) (seat : ℕ) (latest : Option Latest) (span : Option Span) → e.entry.seat ≡ seat → e.span ≡ span
    → IfSome latest (StandsAt before seat) → IfSome (latest_after latest span (length before + 1)) (StandsAt (before ++ e ∷ []) seat)
stands_after before e seat None None own same h = tt
stands_after before e seat (Some latest) None own same h = still_stands before e seat latest h
stands_after before e seat None (Some span) own same h = new_stands before e seat span own same
stands_after before e seat (Some latest) (Some span) own same h =
    elim (cases_lt latest.from span.from) [
      | inl later ↦ rw (lt-ltb _ _ later) (new_stands before e seat span own same)
      | inr sooner ↦ rw (le-ltb _ _ sooner) (still_stands before e seat latest h)
    ]

-- one more event of the seat, and one of another
latest-own : (before : List Event) (e : Event) (latest : Option Latest) → IsLatest before e.entry.seat latest
    → IsLatest (before ++ e ∷ []) e.entry.seat (latest_after latest e.span (length before + 1))
latest-own before e latest h = record {
  last = All-push (λ x. x.entry.seat ≡ e.entry.seat → begins_by (latest_after latest e.span (length before + 1)) x.span ≡ true) before e
      (λ k d within own. still_by latest e.span (get_or before k d).span (length before + 1) (h.last k d within own))
      (λ own. now_by latest e.span (length before + 1));
  stands = stands_after before e e.entry.seat latest e.span refl refl h.stands;
}

latest-other : (before : List Event) (e : Event) (seat : ℕ) (latest : Option Latest) → e.entry.seat ≢ seat → IsLatest before seat latest
    → IsLatest (before ++ e ∷ []) seat latest
latest-other before e seat latest other h = record {
  last = All-push (λ x. x.entry.seat ≡ seat → begins_by latest x.span ≡ true) before e h.last (λ own. absurd (other own));
  stands = still latest h.stands;
}
  where
    still : (latest : Option Latest) → IfSome latest (StandsAt before seat) → IfSome latest (StandsAt (before ++ e ∷ []) seat)
    still None h = tt
    still (Some latest) h = still_stands before e seat latest h

-- where nothing has begun yet
latest-none : (seat : ℕ) → IsLatest [] seat None
latest-none seat = record { last = λ k d within. absurd (omega arith); stands = tt }

-- where what began last does not bar the span, nothing does that began by it
bars_none : (latest : Option Latest) (span seen : Option Span) → line_barring latest span ≡ None → begins_by latest seen ≡ true → is_over span seen ≡ false
bars_none latest None seen none by = refl
bars_none latest (Some span) None none by = refl
bars_none None (Some span) (Some seen) none by = absurd cc
bars_none (Some latest) (Some span) (Some seen) none by =
    elim (cases_lt span.to latest.from) [
      | inl out ↦ let some = rw (lt-ltb _ _ out) at none in absurd cc
      | inr within ↦ let known : seen.from ≤ latest.from = ltb-false latest.from seen.from (not-true _ by) in le-ltb span.to seen.from (omega arith)
    ]

-- where it does, it stands at the line
bars_some : (latest : Latest) (span seen : Option Span) (line : ℕ) → line_barring (Some latest) span ≡ Some line → begins_at latest.from seen ≡ true
    → (is_over span seen ≡ true) × (latest.line ≡ line)
bars_some latest None seen line some at = absurd cc
bars_some latest (Some span) None line some at = absurd cc
bars_some latest (Some span) (Some seen) line some at =
    elim (cases_lt span.to latest.from) [
      | inl out ↦ let here = rw (lt-ltb _ _ out) at some in
          (rw (eqb-true seen.from latest.from at) (lt-ltb _ _ out), cc)
      | inr within ↦ let none = rw (le-ltb _ _ within) at some in absurd cc
    ]

-- an event is in time where it is barred by none, and else out of time
in_time : (before : List Event) (e : Event) (latest : Option Latest) → IsLatest before e.entry.seat latest → line_barring latest e.span ≡ None
    → list_any (is_before_own e) before ≡ false
in_time before e latest h none = list_any_none (is_before_own e) before
    (λ k d within. each (get_or before k d) (h.last k d within))
  where
    each : (x : Event) → (x.entry.seat ≡ e.entry.seat → begins_by latest x.span ≡ true) → is_before_own e x ≡ false
    each x by = by_seat (x.entry.seat == e.entry.seat) refl
      where
        by_seat : (b : Bool) → x.entry.seat == e.entry.seat ≡ b → (b && is_before e x) ≡ false
        by_seat false other = refl
        by_seat true own = bars_none latest e.span x.span none (by (eqb-true _ _ own))

out_of_time : (before : List Event) (e : Event) (latest : Latest) (line : ℕ) → IsLatest before e.entry.seat (Some latest)
    → line_barring (Some latest) e.span ≡ Some line → IsOutOfTime before e line
out_of_time before e latest line known some =
    let h : StandsAt before e.entry.seat latest = known.stands in
    let there : latest.line ≡ line = (bars_some latest e.span (get_or before h.place e).span line some (h.begins e)).1 in
    record {
      place = h.place;
      line = sym there ∙ h.number;
      within = h.within;
      latest = latest;
      last = known;
      there = there;
      out = λ d. rw (
        eq-eqb (get_or before h.place d).entry.seat e.entry.seat (h.own d),
        (bars_some latest e.span (get_or before h.place d).span line some (h.begins d)).0,
      ) refl;
    }

-- what is wrong with an event, or that it is right
abbrev Judged : ℕ → List Event → Event → Option EventMistake → Type 0
Judged workers before e mistake = MatchOption mistake (is_right workers before e ≡ true) (HasMistake workers before e)

judged_by_time : (workers : ℕ) (before : List Event) (e : Event) (line : ℕ) (latest : Option Latest) → line ≡ length before + 1
    → has_no_seat workers e ≡ false → is_backwards e.span ≡ false → IsLatest before e.entry.seat latest
    → (found : Option ℕ) → line_barring latest e.span ≡ found → Judged workers before e (option_map (OutOfTime line) found)
judged_by_time workers before e line latest number seated forwards h None none =
    rw (seated, forwards, in_time before e latest h none) refl
judged_by_time workers before e line None number seated forwards h (Some earlier) some = absurd cc
judged_by_time workers before e line (Some latest) number seated forwards h (Some earlier) some =
    (number, seated, forwards, out_of_time before e latest earlier h some)

judged : (workers : ℕ) (before : List Event) (e : Event) (line : ℕ) (latest : Option Latest) → line ≡ length before + 1
    → (has_no_seat workers e ≡ false → IsLatest before e.entry.seat latest) → (unseated backwards : Bool) → has_no_seat workers e ≡ unseated
    → is_backwards e.span ≡ backwards → Judged workers before e (if unseated then Some (NoSeat line) else if backwards then Some (Backwards line)
    else option_map (OutOfTime line) (line_barring latest e.span))
judged workers before e line latest number h true backwards unseated back = (number, unseated)
judged workers before e line latest number h false true seated back = (number, seated, back)
judged workers before e line latest number h false false seated back = judged_by_time workers before e line latest number seated back (h seated) _ refl

-- one more event that is right
are_right-push : (workers : ℕ) (before events : List Event) (e : Event) → are_right workers before events ≡ true
    → is_right workers (before ++ events) e ≡ true → are_right workers before (events ++ e ∷ []) ≡ true
are_right-push workers before [] e h one = rw (rw append-nil at one) refl
are_right-push workers before (x ∷ events) e h one =
    let parts = and_parts (is_right workers before x) (are_right workers (before ++ x ∷ []) events) h in
    rw (parts.0, are_right-push workers (before ++ x ∷ []) events e parts.1 (rw (append_assoc before (x ∷ []) events) one)) refl

-- what began last of each seat below this number
abbrev AreLatest : ℕ → List Event → List (Option Latest) → Type 0
AreLatest seats events latest = (seat : ℕ) → seat < seats → IsLatest events seat (get_or latest seat None)

-- at first nothing has begun
pub latest-init : (seats : ℕ) (latest : List (Option Latest)) → latest ≡ replicate seats None → AreLatest seats [] latest
latest-init seats latest same seat low = rw (same, get_or-replicate {A = Option Latest} seats seat None None low) (latest-none seat)

-- what the event at a place has, by what began last before it
judged_at : (workers seats line : ℕ) (events : List Event) (i : ℕ) (e : Event) (latest : List (Option Latest)) → workers < seats → i < length events
    → line ≡ i + 1 → AreLatest seats (take i events) latest → (o : Option EventMistake) → o ≡ mistake_with workers line latest e
    → Judged workers (take i events) e o
judged_at workers seats line events i e latest few within number h o same =
    let long : length (take i events) ≡ i = length-take-le i events (omega arith) in
    rw same (judged workers (take i events) e line (get_or latest e.entry.seat None) (omega (arith, long))
    (λ seated. h e.entry.seat (omega (arith, ltb-false workers e.entry.seat seated))) _ _ refl refl)

-- the first mistake
pub first_wrong : (workers seats line : ℕ) (events : List Event) (i : ℕ) (d : Event) (latest : List (Option Latest)) → workers < seats → i < length events
    → line ≡ i + 1 → AreLatest seats (take i events) latest → are_right workers [] (take i events) ≡ true → (o : Option EventMistake)
    → o ≡ mistake_with workers line latest (get_or events i d) → is_some o ≡ true
    → MatchOption o (are_right workers [] events ≡ true) (IsFirstMistake workers events)
first_wrong workers seats line events i d latest few within number h right None same some = absurd cc
first_wrong workers seats line events i d latest few within number h right (Some mistake) same some = record {
  before = take i events;
  event = get_or events i d;
  after = drop (suc i) events;
  parts = sym (take-append-drop i events) ∙ rw (drop-cons events i d within) refl;
  right = right;
  wrong = judged_at workers seats line events i (get_or events i d) latest few within number h (Some mistake) same;
}

-- an event that has none is right
right_at : (workers seats line : ℕ) (events : List Event) (i : ℕ) (e : Event) (latest : List (Option Latest)) → workers < seats → i < length events
    → line ≡ i + 1 → AreLatest seats (take i events) latest → (o : Option EventMistake) → o ≡ mistake_with workers line latest e → is_some o ≡ false
    → is_right workers (take i events) e ≡ true
right_at workers seats line events i e latest few within number h None same none =
    judged_at workers seats line events i e latest few within number h None same
right_at workers seats line events i e latest few within number h (Some mistake) same none = absurd cc

pub still_right : (workers seats line : ℕ) (events : List Event) (i : ℕ) (d : Event) (latest : List (Option Latest)) → workers < seats → i < length events
    → line ≡ i + 1 → AreLatest seats (take i events) latest → are_right workers [] (take i events) ≡ true → (o : Option EventMistake)
    → o ≡ mistake_with workers line latest (get_or events i d) → is_some o ≡ false → are_right workers [] (take (i + 1) events) ≡ true
still_right workers seats line events i d latest few within number h right o same none =
    rw (add-one, take-suc events i d within)
    (are_right-push workers [] (take i events) (get_or events i d) right
    (right_at workers seats line events i (get_or events i d) latest few within number h o same none))

-- there is such a seat
seated_at : (workers line : ℕ) (e : Event) (latest : List (Option Latest)) (o : Option EventMistake) → o ≡ mistake_with workers line latest e
    → is_some o ≡ false → e.entry.seat ≤ workers
seated_at workers line e latest o same none =
    elim (cases_lt workers e.entry.seat) [
      | inl out ↦ let some : o ≡ Some (NoSeat line) = same ∙ rw (lt-ltb _ _ out) refl in absurd (both_ways (is_some o) none (ap is_some some))
      | inr within ↦ within
    ]

-- what began last, with one more event
pub still_latest : (workers seats line : ℕ) (events : List Event) (i : ℕ) (d : Event) (latest : List (Option Latest)) → workers < seats → i < length events
    → line ≡ i + 1 → length latest ≡ seats → AreLatest seats (take i events) latest → (o : Option EventMistake)
    → o ≡ mistake_with workers line latest (get_or events i d) → is_some o ≡ false
    → AreLatest seats (take (i + 1) events) (set latest (get_or events i d).entry.seat
    (latest_after (get_or latest (get_or events i d).entry.seat None) (get_or events i d).span line))
still_latest workers seats line events i d latest few within number all h o same none seat low =
    let long : length (take i events) ≡ i = length-take-le i events (omega arith) in
    let e : Event = get_or events i d in
    let at : line ≡ length (take i events) + 1 = omega (arith, long) in
    let seated : e.entry.seat ≤ workers = seated_at workers line e latest o same none in
    let inside : e.entry.seat < length latest = omega (arith, all, seated) in
    rw (add-one, take-suc events i d within) (elim (cases_eq e.entry.seat seat) [
      | inl own ↦ rw (← own, get_or-set_same latest e.entry.seat (latest_after (get_or latest e.entry.seat None) e.span line) None inside, at)
          (latest-own (take i events) e (get_or latest e.entry.seat None) (h e.entry.seat (omega (arith, seated))))
      | inr other ↦ rw (get_or-set_other latest e.entry.seat seat (latest_after (get_or latest e.entry.seat None) e.span line) None (λ same. other (sym same)))
          (latest-other (take i events) e seat (get_or latest seat None) other (h seat low))
    ])
