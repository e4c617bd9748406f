-- Where a search stands: the events that it has placed, what of each seat is left, and what was ruled out on the way.
use Rattle.std.specs.Prelude.{◌≡◌, ℕ, ◌+◌, ◌^◌, ◌<◌, ◌≤◌, ◌⊎◌, Bool, true, List, [], ◌∷◌, ◌++◌, length, drop, get_or, set, map, All}
use Rattle.task_base.specs.Plan.{Plan}
use Rattle.order_model.specs.declared.event.Event.{Event}
use Rattle.order_model.specs.Orders.{IsBeginning, IsOrder, in_time, own_events}
use Rattle.order_search.specs.Places.{IsAt}
use Rattle.order_search.specs.Seats.{AreLinked}
use Rattle.order_search.specs.declared.placed.Placed.{Placed}

-- what is searched, and the links of its events
pub record Task : Type 0 where
  pub script : Plan
  pub prefix : Bool
  pub tries : List Event
  pub heads : List ℕ
  pub after : List ℕ
  pub least : List ℕ

-- no beginning with these events is longer than this, and none is an order
pub record IsRuledOut (task : Task) (longest : ℕ) (others : List Event) : Type 0 where
  pub short : (left : List Event) → IsBeginning task.script task.tries others left → length others ≤ longest
  pub none : IsOrder task.script task.prefix task.tries others → ⊥

-- so it is of each list of events that goes on from these by an event of this seat
abbrev pub IsDead : Task → ℕ → List Event → ℕ → Type 0
IsDead task longest events seat = (e : Event) (more : List Event) → e.entry.seat ≡ seat → IsRuledOut task longest (events ++ e ∷ more)

-- and of each seat whose next event stands before this place
abbrev pub AreTried : Task → ℕ → List Event → List ℕ → ℕ → Type 0
AreTried task longest events heads start =
    (seat : ℕ) → seat < task.script.workers + 1 → get_or heads seat 0 < start → IsDead task longest events seat

-- each seat's next event was tried, or the seat has none
abbrev pub AllTried : Task → List ℕ → ℕ → Type 0
AllTried task heads start = (seat : ℕ) → seat < task.script.workers + 1 → (get_or heads seat 0 < start) ⊎ (length task.tries ≤ get_or heads seat 0)

-- this is what is left of the events
abbrev pub AreLeft : Task → List ℕ → List Event → Type 0
AreLeft task heads rest = (seat : ℕ) → own_events seat rest ≡ own_events seat (drop (get_or heads seat 0) task.tries)

-- the events that were placed
abbrev pub events_in : List Placed → List Event
events_in path = map (λ (p : Placed). p.event) path

-- the same where the last one comes first
abbrev pub events_under : List Placed → List Event
events_under [] = []
events_under (placed ∷ below) = events_under below ++ placed.event ∷ []

-- one event was placed on top of those below: the next one of its seat, after all that stand before it were ruled out
pub record IsPlaced (task : Task) (longest : ℕ) (placed : Placed) (below : List Placed) (heads : List ℕ) (stands : List ℕ → Type 0) : Type 0 where
  pub before : List ℕ
  pub stood : stands before
  pub at : IsAt task.tries placed.index placed.event
  pub within : placed.event.entry.seat < task.script.workers + 1
  pub head : get_or before placed.event.entry.seat 0 ≡ placed.index
  pub moved : heads ≡ set before placed.event.entry.seat (get_or task.after placed.index 0)
  pub times : (rest : List Event) → AreLeft task heads rest → in_time rest (events_under (placed ∷ below)) ≡ true
  pub tried : AreTried task longest (events_under below) before placed.index

-- the events that were placed, the last one first, and the next event of each seat after them
abbrev pub Stands : Task → ℕ → List Placed → List ℕ → Type 0
Stands task longest [] heads = heads ≡ task.heads
Stands task longest (placed ∷ below) heads = IsPlaced task longest placed below heads (Stands task longest below)

-- the links are those of all the events, each of which is of a seat of the script
pub record IsTask (task : Task) : Type 0 where
  pub linked : AreLinked (task.script.workers + 1) task.tries 0 task.heads task.after task.least
  pub few : length task.tries < 2 ^ 32
  pub seated : All (λ (e : Event). e.entry.seat < task.script.workers + 1) task.tries
