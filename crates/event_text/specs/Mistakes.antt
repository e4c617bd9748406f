-- What is wrong with events that are spelt well.
use Rattle.std.specs.Prelude.{◌≡◌, ◌<◌, ◌+◌, ◌==◌, ◌&&◌, ℕ, Bool, true, false, nat_lt, not, if◌then◌else◌, All, IfSome}
use Rattle.std.specs.Prelude.{Option, Some, None, option_map, List, [], ◌∷◌, ◌++◌, length, get_or}
use Rattle.std.specs.List.{list_any}
use Rattle.order_model.specs.declared.event.Event.{Event}
use Rattle.order_model.specs.declared.event.Span.{Span}
use Rattle.order_model.specs.Orders.{is_before}
use Rattle.event_text.specs.declared.mistakes.EventMistake.{EventMistake}
use Rattle.event_text.specs.declared.mistakes.Latest.{Latest}
use Rattle.event_text.specs.declared.mistakes.EventMistake.TheVariants.{NoSeat, Backwards, OutOfTime}

-- there is no such seat: the driver is seat 0, and the workers come after it
abbrev pub has_no_seat : ℕ → Event → Bool
has_no_seat workers e = nat_lt workers e.entry.seat

-- the span ends before it begins
abbrev pub is_backwards : Option Span → Bool
is_backwards None = false
is_backwards (Some span) = nat_lt span.to span.from

-- by the times the event came before this one, which is of its own seat
abbrev pub is_before_own : Event → Event → Bool
is_before_own e earlier = earlier.entry.seat == e.entry.seat && is_before e earlier

-- there is such a seat, the span ends no earlier than it begins, and by its times the event came before none of those of its own seat
-- that come before it (this project's own rule)
abbrev pub is_right : ℕ → List Event → Event → Bool
is_right workers before e = not (has_no_seat workers e) && not (is_backwards e.span) && not (list_any (is_before_own e) before)

-- each of these events is right after those before it
abbrev pub are_right : ℕ → List Event → List Event → Bool
are_right workers before [] = true
are_right workers before (e ∷ events) = is_right workers before e && are_right workers (before ++ e ∷ []) events

-- a span begins no later than what began last, and does begin then (this project's own)
abbrev pub begins_by : Option Latest → Option Span → Bool
begins_by latest None = true
begins_by None (Some span) = false
begins_by (Some latest) (Some span) = not (nat_lt latest.from span.from)

abbrev pub begins_at : ℕ → Option Span → Bool
begins_at from None = false
begins_at from (Some span) = span.from == from

-- this event of the seat stands at this line (this project's own)
pub record StandsAt (events : List Event) (seat : ℕ) (latest : Latest) : Type 0 where
  pub place : ℕ
  pub number : latest.line ≡ place + 1
  pub within : place < length events
  pub own : (d : Event) → (get_or events place d).entry.seat ≡ seat
  pub begins : (d : Event) → begins_at latest.from (get_or events place d).span ≡ true

-- it is one of those of a seat that begin last, and there is none where none has a span (this project's own)
pub record IsLatest (events : List Event) (seat : ℕ) (latest : Option Latest) : Type 0 where
  pub last : All (λ e. e.entry.seat ≡ seat → begins_by latest e.span ≡ true) events
  pub stands : IfSome latest (StandsAt events seat)

-- by the times the event came before the one at this line, which is of its own seat: of the seat's events so far one of those that begin
-- last
pub record IsOutOfTime (before : List Event) (e : Event) (earlier : ℕ) : Type 0 where
  pub place : ℕ
  pub line : earlier ≡ place + 1
  pub within : place < length before
  pub out : (d : Event) → is_before_own e (get_or before place d) ≡ true
  pub latest : Latest
  pub last : IsLatest before e.entry.seat (Some latest)
  pub there : latest.line ≡ earlier

-- the event after these has this mistake: the first that it has, in the order of the kinds. The lines are counted from 1 (this
-- project's own rule)
abbrev pub HasMistake : ℕ → List Event → Event → EventMistake → Type 0
HasMistake workers before e (NoSeat line) = (line ≡ length before + 1) × (has_no_seat workers e ≡ true)
HasMistake workers before e (Backwards line) = (line ≡ length before + 1) × (has_no_seat workers e ≡ false) × (is_backwards e.span ≡ true)
HasMistake workers before e (OutOfTime line earlier) =
    (line ≡ length before + 1) × (has_no_seat workers e ≡ false) × (is_backwards e.span ≡ false) × IsOutOfTime before e earlier

-- the first of the events that isn't right has this mistake (this project's own rule)
pub record IsFirstMistake (workers : ℕ) (events : List Event) (mistake : EventMistake) : Type 0 where
  pub before : List Event
  pub event : Event
  pub after : List Event
  pub parts : events ≡ before ++ event ∷ after
  pub right : are_right workers [] before ≡ true
  pub wrong : HasMistake workers before event mistake

-- which event of a seat begins last, once one more of it has come, at this line (this project's own)
abbrev pub latest_after : Option Latest → Option Span → ℕ → Option Latest
latest_after latest None line = latest
latest_after None (Some span) line = Some (record { from = span.from; line = line })
latest_after (Some latest) (Some span) line = if nat_lt latest.from span.from then Some (record { from = span.from; line = line }) else Some latest

-- the line of the event that begins last, if by its times one with this span came before it (this project's own)
abbrev pub line_barring : Option Latest → Option Span → Option ℕ
line_barring None span = None
line_barring (Some latest) None = None
line_barring (Some latest) (Some span) = if nat_lt span.to latest.from then Some latest.line else None

-- the mistake of an event at a line, by what began last of each seat (this project's own)
abbrev pub mistake_with : ℕ → ℕ → List (Option Latest) → Event → Option EventMistake
mistake_with workers line latest e =
    if has_no_seat workers e then Some (NoSeat line)
    else if is_backwards e.span then Some (Backwards line)
    else option_map (OutOfTime line) (line_barring (get_or latest e.entry.seat None) e.span)
