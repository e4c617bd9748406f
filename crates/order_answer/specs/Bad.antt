-- Why a text is that of no events which seats may have seen (this project's own rule).
use Rattle.std.specs.Prelude.{◌≡◌, ◌≢◌, ◌⊎◌, ℕ, All, List, ◌++◌, codes, decimal}
use Rattle.task_base.specs.Plan.{Plan}
use Rattle.event_text.specs.EventText.{EventFits, events_text}
use Rattle.event_text.specs.Mistakes.{IsFirstMistake}
use Rattle.event_text.specs.Reading.{IsBadLine}
use Rattle.event_text.specs.declared.mistakes.EventMistake.{EventMistake}
use Rattle.event_text.specs.declared.mistakes.EventMistake.TheVariants as mistakes
use Rattle.order_model.specs.declared.event.Event.{Event}
use Rattle.order_answer.specs.declared.bad.BadEvents.{BadEvents}
use Rattle.order_answer.specs.declared.bad.BadEvents.TheVariants.{NoEvent, NoSeat, Backwards, OutOfTime}

-- the text is that of these events, whose numbers fit
pub record IsTextOf (text : List ℕ) (seen : List Event) : Type 0 where
  pub same : events_text seen ≡ text
  pub fit : All EventFits seen

-- the text is that of no events, by this line
pub record IsNoText (text : List ℕ) (bad : BadEvents) : Type 0 where
  pub line : ℕ
  pub is : IsBadLine text line
  pub none : (seen : List Event) → All EventFits seen → events_text seen ≢ text
  pub bad_is : bad ≡ NoEvent line

-- events of which one has this mistake are bad for that
abbrev pub bad_of : EventMistake → BadEvents
bad_of (mistakes.NoSeat line) = NoSeat line
bad_of (mistakes.Backwards line) = Backwards line
bad_of (mistakes.OutOfTime line earlier) = OutOfTime line earlier

-- the text is that of events of which the first that has a mistake has this one
pub record IsMistaken (script : Plan) (text : List ℕ) (bad : BadEvents) : Type 0 where
  pub seen : List Event
  pub of : IsTextOf text seen
  pub mistake : EventMistake
  pub is : IsFirstMistake script.workers seen mistake
  pub bad_is : bad ≡ bad_of mistake

-- the text is bad for this
abbrev pub IsBad : Plan → List ℕ → BadEvents → Type 0
IsBad script text bad = IsNoText text bad ⊎ IsMistaken script text bad

-- the line that is bad
abbrev pub at_line : ℕ → List ℕ
at_line line = codes "bad events: line " ++ decimal line

-- what is told of it, without a line feed
abbrev pub bad_note : BadEvents → List ℕ
bad_note (NoEvent line) = at_line line
bad_note (NoSeat line) = at_line line ++ codes ": no such seat"
bad_note (Backwards line) = at_line line ++ codes ": FROM is after TO"
bad_note (OutOfTime line earlier) = ((at_line line ++ codes ": its times are before those of line ") ++ decimal earlier) ++ codes " of its seat"
