-- Where the events of each seat stand among all that are tried.
use Rattle.std.specs.Prelude.{◌≡◌, ℕ, ◌+◌, ◌-◌, ◌^◌, ◌<◌, ◌≤◌, List, [], ◌∷◌, length, drop, get_or, min, Option, Some, None}
use Rattle.order_model.specs.declared.event.Event.{Event}
use Rattle.order_model.specs.declared.event.Span.{Span}
use Rattle.order_model.specs.Orders.{own_events}
use Rattle.order_search.specs.Places.{IsAt}

-- from a place on, the first event of the seat is here, or past the end where it has none
pub record IsFirst (tries : List Event) (seat from place : ℕ) : Type 0 where
  pub later : from ≤ place
  pub same : own_events seat (drop place tries) ≡ own_events seat (drop from tries)
  pub own : (e : Event) → IsAt tries place e → e.entry.seat ≡ seat

-- the latest time that an event may have come, where its writer had a clock; else the last one that there is
abbrev pub latest : Option Span → ℕ
latest (Some span) = span.to
latest None = 2 ^ 64 - 1

-- the least of those of the events
abbrev pub least_latest : List Event → ℕ
least_latest [] = 2 ^ 64 - 1
least_latest (e ∷ events) = min (latest e.span) (least_latest events)

-- of the events from a place on: the first one of each of the seats, after each event the next one of its seat, and the least latest
-- time of it and those of its seat that come later
pub record AreLinked (seats : ℕ) (tries : List Event) (from : ℕ) (heads after least : List ℕ) : Type 0 where
  pub some_heads : length heads ≡ seats
  pub some_after : length after ≡ length tries
  pub some_least : length least ≡ length tries
  pub first : (seat : ℕ) → seat < seats → IsFirst tries seat from (get_or heads seat 0)
  pub next : (i : ℕ) (e : Event) → from ≤ i → IsAt tries i e → IsFirst tries e.entry.seat (i + 1) (get_or after i 0)
  pub soonest : (i : ℕ) (e : Event) → from ≤ i → IsAt tries i e → get_or least i (2 ^ 64 - 1) ≡ least_latest (own_events e.entry.seat (drop i tries))

-- the earliest time that an event may have come, where its writer had a clock; else the first one that there is
abbrev pub earliest : Option Span → ℕ
earliest (Some span) = span.from
earliest None = 0

-- the latest time that an event may have come, where its writer had a clock; else the first one that there is
abbrev pub known_time : Option Span → ℕ
known_time (Some span) = span.to
known_time None = 0
