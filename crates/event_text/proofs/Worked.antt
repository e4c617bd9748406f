-- Lines of events, and what is wrong with events, worked out by hand and checked against the definitions.
use Rattle.std.proofs.Common.{◌≡◌, ℕ, true, false, Option, None, Some, List, [], ◌∷◌, refl}
use Rattle.std.specs.Prelude.{codes}
use Rattle.std.specs.Fmt.{digits}
use Rattle.task_base.specs.declared.entry.Kind.{Kind}
use Rattle.task_base.specs.declared.entry.Kind.TheVariants as kinds
use Rattle.order_model.specs.declared.event.Event.{Event}
use Rattle.event_text.specs.EventText.{event_line, events_text}
use Rattle.event_text.specs.Mistakes.{are_right, is_right}
use Rattle.event_text.specs.Reading.{closing_of, entry_of, event_of, spaced_words, timed_of, untimed_of}
use Rattle.entry_lines.specs.Kinds.{kind_of, kind_with_three}
use Rattle.numeral_text.specs.Number.{number_of}

-- an event without a span, and one with a span
abbrev untimed : ℕ → Kind → Event
untimed seat kind = record { entry = record { seat = seat; kind = kind }; span = None }

abbrev timed : ℕ → ℕ → ℕ → Kind → Event
timed from to seat kind = record { entry = record { seat = seat; kind = kind }; span = Some (record { from = from; to = to }) }

-- lines
without_times : event_line (untimed 0 kinds.Idle) ≡ codes "0 idle\n"
unfolding digits
without_times = refl

with_times : event_line (timed 120 180 2 (kinds.Take 3 0 5)) ≡ codes "[120 180] 2 take 3 0 5\n"
unfolding digits
with_times = refl

two_lines : events_text (timed 7 7 0 (kinds.Tick 10) ∷ untimed 64 (kinds.JobStep 1 2 3 4 None) ∷ []) ≡ codes "[7 7] 0 tick 10\n64 jobstep 1 2 3 4 -\n"
unfolding digits
two_lines = refl

-- words that are those of an event, and words that are not
abbrev read : List ℕ → Option Event
read text = event_of (spaced_words text)

reads_times : read (codes "[120 180] 2 take 3 0 5") ≡ Some (timed 120 180 2 (kinds.Take 3 0 5))
unfolding event_of timed_of untimed_of closing_of entry_of kind_of kind_with_three number_of digits
reads_times = refl

-- what is wrong: seat 3 where there are two workers; a span that ends before it begins; one that is over before an earlier one begins
no_seat : is_right 2 [] (untimed 3 kinds.Done) ≡ false
no_seat = refl

backwards : is_right 2 [] (timed 5 4 0 kinds.Idle) ≡ false
backwards = refl

abbrev three : List Event
three = timed 10 20 1 (kinds.Take 3 0 5) ∷ timed 0 5 2 (kinds.Take 4 0 5) ∷ untimed 1 (kinds.End 3 5) ∷ []

three_are_right : are_right 2 [] three ≡ true
three_are_right = refl

out_of_time : is_right 2 three (timed 5 9 1 kinds.Idle) ≡ false
out_of_time = refl

-- a span that touches an earlier one, and one before that of another seat
touches : is_right 2 three (timed 5 10 1 kinds.Idle) ≡ true
touches = refl

of_another_seat : is_right 2 three (timed 1 9 2 kinds.Idle) ≡ true
of_another_seat = refl
