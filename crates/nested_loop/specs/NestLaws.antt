-- What every legal log of a nest is like.
use Rattle.std.specs.Prelude.{◌≡◌, ℕ, ◌<◌, ◌≤◌, ◌==◌, Bool, true, false, ◌&&◌, List, [], ◌∷◌, ◌++◌, Some, slice_get}
use Rattle.std.specs.List.{list_any}
use Rattle.list_laws.specs.Lists.{count}
use Rattle.nested_loop.specs.Plan.{NestPlan}
use Rattle.nested_loop.specs.Nest.{deferred_tasks, is_nestable, posted_tasks, starts, was_deferred}
use Rattle.nested_loop.specs.declared.event.Event.{Event}
use Rattle.nested_loop.specs.declared.event.Event.TheVariants as events

-- the task was posted
abbrev pub was_posted : List Event → ℕ → Bool
was_posted past t = list_any (λ p. p.task == t) (posted_tasks past)

-- at this place of the log, behind this past, the task starts at this depth
pub record StartsBehind (log past : List Event) (task depth : ℕ) : Type 0 where
  pub rest : List Event
  pub parts : log ≡ past ++ events.Start task depth ∷ rest

-- the tasks that are open are closed by the events in the reverse of the order in which they started, and none stays open
abbrev pub close_in_order : List ℕ → List Event → Bool
close_in_order [] [] = true
close_in_order (task ∷ outer) [] = false
close_in_order open_tasks (events.Start task depth ∷ rest) = close_in_order (task ∷ open_tasks) rest
close_in_order [] (events.End task ∷ rest) = false
close_in_order (task ∷ outer) (events.End ended ∷ rest) = task == ended && close_in_order outer rest
close_in_order open_tasks (event ∷ rest) = close_in_order open_tasks rest

-- no task starts twice, and each starts after its post
pub record TasksStartOnce (log : List Event) : Type 0 where
  pub once : (task : ℕ) → count (starts task) log ≤ 1
  pub posted_before : (past : List Event) (task depth : ℕ) → StartsBehind log past task depth → was_posted past task ≡ true

-- starts and ends are nested like brackets
abbrev pub TasksAreNested : List Event → Type 0
TasksAreNested log = close_in_order [] log ≡ true

-- a task that starts in a nested loop is one that is declared nestable
pub record NestedTasksAreNestable (nest : NestPlan) (log : List Event) : Type 0 where
  pub nestable : (past : List Event) (task depth : ℕ) → StartsBehind log past task depth → 1 < depth → is_nestable nest task ≡ true

-- tasks that were deferred start in the order in which they were, in the outermost loop, and before all tasks that wait
pub record DeferredTasksStartInOrder (log : List Event) : Type 0 where
  -- a deferred task that starts is the first of those that are left
  pub first : (past : List Event) (task depth : ℕ) → StartsBehind log past task depth → was_deferred past task ≡ true
      → slice_get (deferred_tasks past) 0 ≡ Some task
  -- a task that waits starts in the outermost loop only where no task is deferred
  pub before_waiting : (past : List Event) (task : ℕ) → StartsBehind log past task 1 → was_deferred past task ≡ false → deferred_tasks past ≡ []
