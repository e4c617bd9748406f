-- What is said of an entry that may not come, besides why.
use Rattle.std.specs.Prelude.{◌≡◌, ℕ, List, [], ◌∷◌, ◌++◌, flat_map, length, slice_get, Option, Some}
use Rattle.std.specs.List.{range_with_len}
use Rattle.std.specs.Option.{option_to_list}
use Rattle.task_base.specs.Plan.{Plan}
use Rattle.task_base.specs.declared.entry.Entry.{Entry}
use Rattle.task_base.specs.declared.entry.Kind.{Kind}
use Rattle.log_context.specs.Posts.{posted, taken}
use Rattle.log_context.specs.Queues.{closed, fence, voted_off}
use Rattle.log_context.specs.Rooms.{first_room, second_room}
use Rattle.log_context.specs.Seats.{busy, elsewhere}
use Rattle.log_context.specs.Sought.{known_of}
use Rattle.log_context.specs.Sources.{behaves, due, held, left, only_seat, priorities, ripens, sequence, shut, stopped}
use Rattle.log_context.specs.declared.context.TheConstants.{SEATS_SHOWN}
use Rattle.log_context.specs.declared.context.Waits.{Waits}
use Rattle.log_context.specs.declared.context.Waits.TheVariants as waits
use Rattle.log_context.specs.declared.fact.Fact.{Fact}
use Rattle.log_context.specs.declared.fact.Fact.TheVariants as facts
use Rattle.log_context.specs.declared.fact.Role.TheVariants as roles
use Rattle.log_context.specs.declared.sought.Sought.{Sought}
use Rattle.log_context.specs.declared.sought.Sought.TheVariants as sorts

-- the entry itself, at its place
abbrev pub itself : List Entry → Entry → Fact
itself past e = facts.Stands roles.Itself (length past) e

-- how much work may run at once
abbrev pub limits : Plan → Fact
limits script = facts.Limits script.foreground script.foreground_best script.background

-- what a seat is at work with, if it is
abbrev pub works_on : List Entry → ℕ → List Fact
works_on past seat = option_to_list (busy roles.Works past seat)

-- who is at work, of the first seats
abbrev pub at_work : List Entry → List Fact
at_work past = flat_map (works_on past) (range_with_len 0 SEATS_SHOWN)

-- what there is to be said of an entry that may not come after the past, where this one may, if one may
abbrev pub told_of : Plan → List Entry → Entry → Option Kind → List Fact
told_of script past e named = flat_map option_to_list (
    Some (itself past e)
    ∷ taken past e.kind
    ∷ posted past e.kind
    ∷ sequence script past e.seat e.kind
    ∷ busy roles.Busy past e.seat
    ∷ elsewhere past e.seat e.kind
    ∷ due script past e.kind named
    ∷ left script past e.kind named
    ∷ priorities script past e.kind named
    ∷ only_seat script e.seat e.kind
    ∷ held script past e.kind
    ∷ ripens past e.kind
    ∷ shut script past e.kind named
    ∷ behaves script e.kind named
    ∷ stopped past e.kind
    ∷ closed past e.kind
    ∷ voted_off past e.kind
    ∷ fence past e.kind
    ∷ [])

-- how much work of the group of what an entry takes runs and may, the limits, and who is at work
abbrev pub rooms : Plan → List Entry → Kind → List Fact
rooms script past kind =
    flat_map option_to_list (first_room script past kind ∷ second_room script past kind ∷ Some (limits script) ∷ []) ++ at_work past

-- the first posts of the tasks that are waited for, and who is at work
abbrev pub tasks : Plan → List Entry → Sought → List Fact
tasks script past sought = known_of script past sought ++ at_work past

-- what an entry waits for
abbrev pub waited_for : Plan → List Entry → Kind → Waits → List Fact
waited_for script past kind waits.Nothing = []
waited_for script past kind waits.Room = rooms script past kind
waited_for script past kind waits.Work = at_work past
waited_for script past kind waits.Idle = tasks script past sorts.Waiting
waited_for script past kind waits.Shutdown = tasks script past sorts.Blocking

-- what there is to be said of it, and what it waits for
abbrev pub context_of : Plan → List Entry → Entry → Option Kind → Waits → List Fact
context_of script past e named waits = told_of script past e named ++ waited_for script past e.kind waits

-- an entry that a fact shows stands in the log at its place
abbrev pub StandsIn : List Entry → Fact → Type 0
StandsIn log (facts.Stands role place e) = slice_get log place ≡ Some e
StandsIn log fact = Unit {0}
