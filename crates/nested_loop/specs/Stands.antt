-- What the machine stands for.
use Rattle.std.specs.Prelude.{◌≡◌, ℕ, ◌+◌, ◌≤◌, List, ◌∷◌, ◌++◌, [], length, Option, Some, None, slice_get}
use Rattle.std.specs.Option.{option_or}
use Rattle.nested_loop.specs.Keeping.{KeepsManager}
use Rattle.nested_loop.specs.Nest.{IsNestPast, deferred_tasks, depth_of, front_task, nesting_of, next_event}
use Rattle.nested_loop.specs.Plan.{NestPlan}
use Rattle.nested_loop.specs.Room.{events_bound}
use Rattle.nested_loop.specs.Sound.{IsSoundNest}
use Rattle.nested_loop.specs.declared.event.Event.{Event}
use Rattle.nested_loop.specs.declared.event.Event.TheVariants as events
use Rattle.nested_loop.specs.declared.machine.Machine.{Machine}

-- the machine stands for the past, part by part
pub record Stands (nest : NestPlan) (past : List Event) (machine : Machine) : Type 0 where
  pub sound : IsSoundNest nest
  pub is_past : IsNestPast nest past
  -- the tasks that wait
  pub waiting : KeepsManager nest past machine.waiting
  -- those that were deferred
  pub deferred : machine.deferred.items ≡ deferred_tasks past
  -- the actions that were begun, and what is open
  pub begun : machine.begun ≡ (nesting_of nest past).begun
  pub frames : machine.frames.items ≡ (nesting_of nest past).frames
  -- how many loops are open
  pub depth : machine.depth ≡ depth_of past
  -- there is room for all events to come
  pub frames_room : events_bound nest ≤ machine.frames.spare + length past
  pub deferred_room : events_bound nest ≤ machine.deferred.spare + length past

-- the event is the one that comes next, and the machine has made it
pub record Made (nest : NestPlan) (past : List Event) (event : Event) (machine : Machine) : Type 0 where
  pub next : next_event nest past ≡ Some event
  pub stands : Stands nest (past ++ event ∷ []) machine

-- the machine has made the event that comes next, or none does
abbrev pub Moves : NestPlan → List Event → Option Event → Machine → Type 0
Moves nest past (Some event) machine = Made nest past event machine
Moves nest past None machine = next_event nest past ≡ None

-- the outermost loop's next task was taken, if there is one: nothing else has changed
pub record IsTakenNext (nest : NestPlan) (past : List Event) (task : Option ℕ) (before after : Machine) : Type 0 where
  pub is : task ≡ option_or (slice_get (deferred_tasks past) 0) (front_task nest past)
  pub others : after ≡ record before { waiting = after.waiting; deferred = after.deferred }
  pub spare : after.deferred.spare ≡ before.deferred.spare
  -- where it starts, the machine keeps what waits, and what is deferred
  pub waiting : (t : ℕ) → task ≡ Some t → KeepsManager nest (past ++ events.Start t 1 ∷ []) after.waiting
  pub deferred : (t : ℕ) → task ≡ Some t → after.deferred.items ≡ deferred_tasks (past ++ events.Start t 1 ∷ [])
  -- where there is none, nothing has changed
  pub none : task ≡ None → KeepsManager nest past after.waiting × (after.deferred.items ≡ deferred_tasks past)
