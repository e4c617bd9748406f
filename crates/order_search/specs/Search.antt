-- What holds of a search at each step.
use Rattle.std.specs.Prelude.{◌≡◌, ℕ, ◌<◌, ◌≤◌, Bool, true, false, List, length, drop, get_or, reverse}
use Rattle.task_base.specs.Plan.{Plan}
use Rattle.hist_model.specs.Legal.{IsLegal}
use Rattle.order_model.specs.declared.event.Event.{Event}
use Rattle.order_model.specs.Orders.{IsBeginning, IsOrder, entries_of, own_events}
use Rattle.order_search.specs.Arranged.{HasNoOrder, IsWithout}
use Rattle.order_search.specs.Following.{Follows}
use Rattle.order_search.specs.Walk.{AreTried, IsTask, Stands, Task, events_in}
use Rattle.order_search.specs.declared.best.Best.{Best}
use Rattle.order_search.specs.declared.follower.Follower.{Follower}
use Rattle.order_search.specs.declared.tries.Tries.{Tries}
use Rattle.order_search.specs.declared.placed.Placed.{Placed}
use Rattle.order_search.specs.declared.search.Step.{Step}
use Rattle.order_search.specs.declared.search.Step.TheVariants.{Goes, Order, NoOrder}
use Rattle.order_search.specs.declared.walk.Walk.{Walk}

-- what is searched
abbrev pub task_of : Plan → Bool → Tries → Task
task_of script prefix tries = record {
  script = script;
  prefix = prefix;
  tries = tries.events.items;
  heads = tries.heads.items;
  after = tries.after.items;
  least = tries.least.items;
}

-- what is searched, and how long the longest beginning is that was given up
pub record Known : Type 0 where
  pub task : Task
  pub longest : ℕ

-- what is searched, and what was found and given up
abbrev pub known_of : Task → Walk → Known
known_of task walk = record { task = task; longest = length walk.best.events.items }

-- the search stands at its path: all that it has passed by is ruled out, and what it has placed was followed
pub record IsWalkAt (known : Known) (heads : List ℕ) (path : List Placed) (start : ℕ) (follower : Follower) : Type 0 where
  pub is : IsTask known.task
  pub stands : Stands known.task known.longest (reverse path) heads
  pub tried : AreTried known.task known.longest (events_in path) heads start
  pub legal : IsLegal known.task.script (entries_of (events_in path))
  pub follows : Follows known.task.script (entries_of (events_in path)) follower

abbrev pub IsWalk : Known → Walk → Type 0
IsWalk known walk = IsWalkAt known walk.heads.items walk.path.items walk.start walk.follower

-- of the seats whose heads stand from the start on, and before the end, this is the one whose head comes first; the number of seats
-- where there is none
pub record IsNext (heads : List ℕ) (start end seat : ℕ) : Type 0 where
  pub found : seat < length heads → (start ≤ get_or heads seat 0) × (get_or heads seat 0 < end)
  pub first : (other : ℕ) → other < length heads → start ≤ get_or heads other 0 → get_or heads other 0 < end
      → (seat < length heads) × (get_or heads seat 0 ≤ get_or heads other 0)

-- the longer one is kept: the best beginning before, or what is placed, with what is left of the events
pub record Keeps (tries : List Event) (path : List Placed) (heads : List ℕ) (before after : Best) : Type 0 where
  pub longer : length path ≤ length after.events.items
  pub no_less : length before.events.items ≤ length after.events.items
  pub kept : length path ≤ length before.events.items → after ≡ before
  pub taken : length before.events.items < length path → after.events.items ≡ events_in path
  pub left : length before.events.items < length path → (seat : ℕ) → own_events seat after.rest.items ≡ own_events seat (drop (get_or heads seat 0) tries)

-- the search went back by an event, or there is none, so that it has ruled out all
pub record GoesBack (known : Known) (went : Bool) (before walk : Walk) : Type 0 where
  pub best : walk.best ≡ before.best
  pub goes_on : went ≡ true → IsWalk known walk
  pub none : went ≡ false → HasNoOrder known.task.script known.task.prefix known.task.tries
  pub longest : went ≡ false → (others left : List Event) → IsBeginning known.task.script known.task.tries others left → length others ≤ known.longest

-- the search stands, and its best beginning is one
pub record Stood (task : Task) (walk : Walk) : Type 0 where
  pub walk_is : IsWalk (known_of task walk) walk
  pub best_is : IsBeginning task.script task.tries walk.best.events.items walk.best.rest.items

-- what a step leaves: the search stands; what is placed is an order; or there is none
abbrev pub IsStep : Task → Walk → Step → Type 0
IsStep task walk Goes = Stood task walk
IsStep task walk Order = IsOrder task.script task.prefix task.tries (events_in walk.path.items)
IsStep task walk NoOrder = IsWithout task.script task.prefix task.tries walk.best.events.items walk.best.rest.items

-- this seat has a next event; or none has, and it is the number of seats
pub record IsSoonest (events : List Event) (heads : List ℕ) (seat : ℕ) : Type 0 where
  pub found : seat < length heads → get_or heads seat 0 < length events
  pub none : length heads ≤ seat → (other : ℕ) → other < length heads → length events ≤ get_or heads other 0
