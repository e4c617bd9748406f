-- What the tasks that wait ask of the manager of the main queues, and give.
use Rattle.std.specs.Prelude.{◌≡◌, ℕ, ◌<◌, ◌||◌, Bool, true, List, ◌∷◌, ◌++◌, [], length, Option, Some, None}
use Rattle.task_base.specs.declared.entry.Entry.{Entry}
use Rattle.sequence_manager.specs.StandsFor.{StandsFor}
use Rattle.nested_loop.specs.Nest.{IsNestPast, defers, next_event, starts}
use Rattle.nested_loop.specs.Plan.{NestPlan}
use Rattle.nested_loop.specs.Room.{events_bound}
use Rattle.nested_loop.specs.Sound.{IsSoundNest}
use Rattle.nested_loop.specs.Waiting.{TellsEntries, nest_script}
use Rattle.nested_loop.specs.declared.event.Event.{Event}
use Rattle.nested_loop.specs.declared.event.Event.TheVariants as events
use Rattle.nested_loop.specs.declared.waiting.Waiting.{Waiting}

-- the manager stands for entries that tell what the events do
pub record KeepsManager (nest : NestPlan) (past : List Event) (waiting : Waiting) : Type 0 where
  pub entries : List Entry
  pub stands : StandsFor (nest_script nest) entries waiting.queues
  pub tells : TellsEntries past entries
  pub place_is : waiting.place ≡ length entries

-- the post is the event that comes next
pub record CanPostNext (nest : NestPlan) (past : List Event) (waiting : Waiting) (task queue : ℕ) : Type 0 where
  pub sound : IsSoundNest nest
  pub is_past : IsNestPast nest past
  pub keeps : KeepsManager nest past waiting
  pub next : next_event nest past ≡ Some (events.Post task queue)

-- there is room for the event that takes a task
pub record CanTakeNext (nest : NestPlan) (past : List Event) (waiting : Waiting) : Type 0 where
  pub sound : IsSoundNest nest
  pub is_past : IsNestPast nest past
  pub keeps : KeepsManager nest past waiting
  pub room : length past < events_bound nest

-- the event starts or defers the task
abbrev pub takes : ℕ → Event → Bool
takes t event = defers t event || starts t event

-- the task that is taken starts next, or is deferred; where none waits, nothing has changed
abbrev pub IsTakenFrom : NestPlan → List Event → Option ℕ → Waiting → Type 0
IsTakenFrom nest past (Some task) waiting = (event : Event) → takes task event ≡ true → KeepsManager nest (past ++ event ∷ []) waiting
IsTakenFrom nest past None waiting = KeepsManager nest past waiting
