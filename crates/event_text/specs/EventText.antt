-- Events as text, a line for each.
use Rattle.std.specs.Prelude.{◌<◌, ◌^◌, ℕ, Option, None, Some, List, [], ◌∷◌, ◌++◌, flat_map}
use Rattle.std.specs.Fmt.{decimal}
use Rattle.std.specs.List.{join_with_byte}
use Rattle.task_base.specs.declared.entry.Entry.{Entry}
use Rattle.log_model.specs.Fits.{Fits}
use Rattle.log_model.specs.LogText.{kind_words}
use Rattle.order_model.specs.declared.event.Event.{Event}
use Rattle.order_model.specs.declared.event.Span.{Span}

-- the times of a span as words: `[120` and `180]` (this project's own rule)
abbrev pub span_words : Option Span → List (List ℕ)
span_words None = []
span_words (Some span) = (91 ∷ decimal span.from) ∷ (decimal span.to ++ 93 ∷ []) ∷ []

-- the words of an entry: its seat, the word of its kind, and the arguments, as in a log (this project's own rule)
abbrev pub entry_words : Entry → List (List ℕ)
entry_words e = decimal e.seat ∷ kind_words e.kind

-- the words of an event: the times, where it has some, and then those of its entry (this project's own rule)
abbrev pub event_words : Event → List (List ℕ)
event_words e = span_words e.span ++ entry_words e.entry

-- the line of an event: its words, parted by single spaces, and a line feed (this project's own rule)
abbrev pub event_line : Event → List ℕ
event_line e = join_with_byte 32 (event_words e) ++ 10 ∷ []

-- the lines of events, in their order (this project's own rule)
abbrev pub events_text : List Event → List ℕ
events_text events = flat_map event_line events

-- the times in brackets, and a space (this project's own)
abbrev pub span_text : Option Span → List ℕ
span_text None = []
span_text (Some span) = (91 ∷ decimal span.from) ++ 32 ∷ (decimal span.to ++ 93 ∷ 32 ∷ [])

-- what stands before the words of the kind: the times, where it has some, and the seat (this project's own)
abbrev pub first_part : Event → List ℕ
first_part e = span_text e.span ++ decimal e.entry.seat

-- the times are of 64 bits (this project's own)
abbrev pub SpanFits : Option Span → Type 0
SpanFits None = Unit {0}
SpanFits (Some span) = (span.from < 2 ^ 64) × (span.to < 2 ^ 64)

-- each number of the event is in the range of its type (this project's own)
pub record EventFits (e : Event) : Type 0 where
  pub entry : Fits e.entry
  pub span : SpanFits e.span
