-- Events that are read from the lines of a text, and the first line that is wrong.
use Rattle.std.specs.Prelude.{◌≡◌, ◌≢◌, ℕ, ◌+◌, ◌-◌, ◌==◌, ◌&&◌, nat_lt, if◌then◌else◌, Option, Some, None, List, [], ◌∷◌, ◌++◌, All, get_or, length, take}
use Rattle.std.specs.List.{slice_split}
use Rattle.task_base.specs.declared.entry.Entry.{Entry}
use Rattle.numeral_text.specs.Number.{number_of}
use Rattle.entry_lines.specs.Kinds.{◌>>=◌, kind_of}
use Rattle.order_model.specs.declared.event.Event.{Event}
use Rattle.event_text.specs.EventText.{EventFits, event_line, events_text}

-- what a reader takes for this event: the event's line, letter for letter, each number in the range of its type (this project's own)
pub record IsEventLine (line : List ℕ) (e : Event) : Type 0 where
  pub same : line ≡ event_line e
  pub fits : EventFits e

-- what such a reader leaves: however a line is cut off its front, it is that of no event (this project's own)
abbrev pub BeginsWithNoEvent : List ℕ → Type 0
BeginsWithNoEvent text = (line after : List ℕ) → text ≡ line ++ after → (e : Event) → ¬ IsEventLine line e

-- the line of a text, counted from 1, at which it is no text of events: those before it are the lines of events, and what follows
-- them is something, and begins with the line of none (this project's own rule)
pub record IsBadLine (text : List ℕ) (line : ℕ) : Type 0 where
  pub events : List Event
  pub rest : List ℕ
  pub same : text ≡ events_text events ++ rest
  pub fit : All EventFits events
  pub some : rest ≢ []
  pub no_further : BeginsWithNoEvent rest
  pub number : line ≡ length events + 1

-- what stands between the spaces of a line, also where that is nothing (this project's own rule)
abbrev pub spaced_words : List ℕ → List (List ℕ)
spaced_words line = slice_split (λ byte. byte == 32) line

-- the time that a word ends a span with: its digits stand before a closing bracket (this project's own)
unfoldable pub closing_of : List ℕ → Option ℕ
closing_of word =
    if nat_lt 0 (length word) && get_or word (length word - 1) 0 == 93 then number_of 64 (take (length word - 1) word) else None

-- the entry that has these words, if there is one (this project's own)
unfoldable pub entry_of : List (List ℕ) → Option Entry
entry_of (seat ∷ words) = do
  number ← number_of 32 seat
  kind ← kind_of words
  Some (record { seat = number; kind = kind })
entry_of [] = None

-- the event that begins with the time of these digits, if there is one (this project's own)
unfoldable pub timed_of : List ℕ → List (List ℕ) → Option Event
timed_of digits (second ∷ words) = do
  from ← number_of 64 digits
  to ← closing_of second
  entry ← entry_of words
  Some (record { entry = entry; span = Some (record { from = from; to = to }) })
timed_of digits [] = None

-- the event without a span that has these words, if there is one (this project's own)
unfoldable pub untimed_of : List (List ℕ) → Option Event
untimed_of words = do
  entry ← entry_of words
  Some (record { entry = entry; span = None })

-- the event that has these words, if there is one: the first begins with an opening bracket where it has a span (this project's own)
unfoldable pub event_of : List (List ℕ) → Option Event
event_of [] = None
event_of ([] ∷ words) = None
event_of ((byte ∷ digits) ∷ words) = if byte == 91 then timed_of digits words else untimed_of ((byte ∷ digits) ∷ words)
