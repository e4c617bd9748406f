-- What the main queues need to know of a script and of a past.
use Rattle.std.specs.Prelude.{◌≡◌, ℕ, ◌<◌, ◌≤◌, ◌^◌, ◌⊎◌, true, false, List, length, Option, Some, Contains}
use Rattle.std.specs.List.{AllByRecursion}
use Rattle.task_base.specs.Plan.{Plan}
use Rattle.task_base.specs.declared.entry.Entry.{Entry}
use Rattle.task_base.specs.declared.limits.TheConstants.{MOST_QUEUES, LAST_MOMENT}
use Rattle.task_base.specs.declared.script.MainQueue.{MainQueue}
use Rattle.list_laws.specs.Lists.{keep}
use Rattle.list_laws.specs.Sorts.{SameMembers}
use Rattle.queue_fence.specs.declared.voters.TheConstants.{MOST_VOTERS}
use Rattle.queue_selector.specs.declared.selector.TheConstants.{LAST_CLASS}
use Rattle.task_model.specs.Posts.{Posted, main_posts, is_main_taken}
use Rattle.pool_laws.specs.Posts.{IsDelayed, main_post_of, InOrder}
use Rattle.task_model.specs.Time.{now_of}
use Rattle.queue_laws.specs.Orders.{main_arrivals, ordered}
use Rattle.task_model.specs.Seats.{Running, running}
use Rattle.pool_laws.specs.Keys.{NoTickAhead}
use Rattle.sequence_manager.specs.Postings.{main_postings}

-- its class and its voters are in their ranges
pub record IsQueueWithin (queue : MainQueue) : Type 0 where
  pub class_fits : queue.class ≤ LAST_CLASS
  pub voters_fit : queue.voters ≤ MOST_VOTERS

-- within the limits of scripts; what is posted to a main queue is posted to one that is declared; the tasks of an open plan
-- can be counted
pub record IsMainScript (script : Plan) : Type 0 where
  pub queues_fit : length script.queues ≤ MOST_QUEUES
  pub queues_within : AllByRecursion IsQueueWithin script.queues
  pub postings_fit : length (main_postings script) < 2 ^ 31
  pub homes_there : AllByRecursion (λ p. p.queue < length script.queues) (main_postings script)
  pub tasks_fit : script.is_open ≡ true → length script.tasks < 2 ^ 31

-- the plan is closed, and the script posts the task to the queue
pub record IsClosedPosting (script : Plan) (task queue : ℕ) : Type 0 where
  pub closed : script.is_open ≡ false
  pub among : Contains (main_postings script) (record { task = task; queue = queue })

-- the plan is open, and the task and the queue are declared
pub record IsOpenPosting (script : Plan) (task queue : ℕ) : Type 0 where
  pub opened : script.is_open ≡ true
  pub task_declared : task < length script.tasks
  pub queue_declared : queue < length script.queues

-- the task may be posted to the queue: the script does so, or its plan is open
abbrev pub IsPostedTo : Plan → ℕ → ℕ → Type 0
IsPostedTo script task queue = IsClosedPosting script task queue ⊎ IsOpenPosting script task queue

-- the task is an immediate one, or its moment has come
abbrev pub IsDue : List Entry → Posted → Type 0
IsDue past p = IsDelayed p → p.ripe ≤ now_of past

-- the task was accepted, and is due
pub record WasDue (past : List Entry) (t : ℕ) : Type 0 where
  pub post : Posted
  pub accepted : main_post_of past t ≡ Some post
  pub due : IsDue past post

-- each accepted main task is one that may be posted to this queue, and was posted once; a main task that was taken was
-- accepted, and was due; orders come as ticks reach ripe moments
pub record IsMainPast (script : Plan) (past : List Entry) : Type 0 where
  pub in_order : InOrder (main_posts past)
  pub posted : AllByRecursion (λ p. IsPostedTo script p.task p.home) (main_posts past)
  pub taken_was_due : (t : ℕ) → is_main_taken past t ≡ true → WasDue past t
  pub moment_fits : now_of past ≤ LAST_MOMENT
  pub no_tick_ahead : NoTickAhead past
  pub arrivals_are_ordered : SameMembers (main_arrivals past) (ordered past)

-- the main task that the driver runs
abbrev pub main_running : List Entry → Option Running
main_running past = keep (λ w. w.is_main) (running past 0)
