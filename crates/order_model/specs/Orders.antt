-- What an order of events is that each seat saw for itself, and a beginning of one (this project's own rule).
use Rattle.std.specs.Prelude.{◌≡◌, ℕ, ◌==◌, Bool, true, false, not, nat_lt, ◌&&◌, if◌then◌else◌, IsTrue, List, [], ◌∷◌, ◌++◌, filter, map, Option, Some}
use Rattle.std.specs.List.{list_any}
use Rattle.task_base.specs.Plan.{Plan}
use Rattle.task_base.specs.declared.entry.Entry.{Entry}
use Rattle.task_model.specs.Seats.{is_quiet}
use Rattle.hist_model.specs.Legal.{IsLegal}
use Rattle.hist_model.specs.Script.{is_whole}
use Rattle.order_model.specs.declared.event.Event.{Event}
use Rattle.order_model.specs.declared.event.Span.{Span}

-- the events of a seat, in their order
abbrev pub own_events : ℕ → List Event → List Event
own_events seat events = filter (λ e. e.entry.seat == seat) events

-- the entries of events
abbrev pub entries_of : List Event → List Entry
entries_of events = map (λ (e : Event). e.entry) events

-- the one time is over before the other begins
abbrev pub is_over : Option Span → Option Span → Bool
is_over (Some a) (Some b) = nat_lt a.to b.from
is_over a b = false

-- by their times the one event came before the other
abbrev pub is_before : Event → Event → Bool
is_before a b = is_over a.span b.span

-- by its times the event came before none of these
abbrev pub may_precede : Event → List Event → Bool
may_precede e others = not (list_any (λ (other : Event). is_before other e) others)

-- none of these events, and none of the rest, which come later, came before an earlier one by their times
abbrev pub in_time : List Event → List Event → Bool
in_time rest [] = true
in_time rest (e ∷ events) = may_precede e (events ++ rest) && in_time rest events

-- of the events that were seen these come first, in this order, and the rest later: each seat's in its own order, as their times
-- allow, and each entry may come after those before it
pub record IsBeginning (script : Plan) (seen events rest : List Event) : Type 0 where
  pub own : (seat : ℕ) → own_events seat events ++ own_events seat rest ≡ own_events seat seen
  pub times : in_time rest events ≡ true
  pub legal : IsLegal script (entries_of events)

-- the past may end here: nothing of the script is left to be done; or of an open plan, no seat runs a task, and none holds an item
abbrev pub is_ended : Plan → List Entry → Bool
is_ended script past = if script.is_open then is_quiet script past else is_whole script past

-- the events that were seen, in an order that their seats and times allow, and whose entries are those of a whole run, which may end
-- there; of a beginning of one where that will do
pub record IsOrder (script : Plan) (prefix : Bool) (seen events : List Event) : Type 0 where
  pub begins : IsBeginning script seen events []
  pub ended : prefix ≡ false → IsTrue (is_ended script (entries_of events))
