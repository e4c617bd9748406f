-- What the pool needs to know of a script and of a past.
use Rattle.std.specs.Prelude.{◌≡◌, ℕ, ◌<◌, ◌≤◌, true, false, List, length, Option, Some, None, is_some, not, Contains}
use Rattle.std.specs.List.{AllByRecursion}
use Rattle.task_base.specs.Plan.{Plan}
use Rattle.task_base.specs.Runners.{seat_of_kind}
use Rattle.task_base.specs.declared.entry.Entry.{Entry}
use Rattle.task_base.specs.declared.limits.TheConstants.{MOST_WORKERS, MOST_RUNNERS, MOST_TASKS, MOST_JOBS, LAST_MOMENT}
use Rattle.list_laws.specs.Lists.{keep}
use Rattle.list_laws.specs.Sorts.{SameMembers}
use Rattle.task_model.specs.Posts.{Posted, posts, is_taken}
use Rattle.pool_laws.specs.Posts.{post_of, InOrder}
use Rattle.task_model.specs.Time.{now_of}
use Rattle.task_model.specs.Keys.{key_of, ready}
use Rattle.pool_laws.specs.Keys.{arrivals, NoTickAhead}
use Rattle.task_model.specs.Seats.{Running, running}
use Rattle.task_model.specs.Capacity.{open_scope}
use Rattle.pool_laws.specs.Runs.{RunsSingly}
use Rattle.pool_core.specs.Holdings.{AreInside}

-- within the limits of scripts; a single-thread runner states the seat of a worker
pub record IsPoolScript (script : Plan) : Type 0 where
  pub workers_fit : script.workers ≤ MOST_WORKERS
  pub runners_fit : length script.runners ≤ MOST_RUNNERS
  pub tasks_fit : length script.tasks ≤ MOST_TASKS
  pub jobs_fit : length script.jobs ≤ MOST_JOBS
  pub seats_fit : AllByRecursion (λ r. (seat : ℕ) → seat_of_kind r.kind ≡ Some seat → (1 ≤ seat) × (seat ≤ script.workers)) script.runners

-- the runner and the task of an accepted post are declared
abbrev pub IsDeclared : Plan → Posted → Type 0
IsDeclared script p = (p.home < length script.runners) × (p.task < length script.tasks)

-- an accepted task that was taken has a key
abbrev pub TakenHaveKeys : List Entry → Type 0
TakenHaveKeys past = (p : Posted) → Contains (posts past) p → is_taken past p.task ≡ true → is_some (key_of past p) ≡ true

-- each accepted task is declared and was posted once, and a task that was taken was accepted and has a key; what ended was
-- taken, and workers run such tasks, one of a sequence at a time; keys come as ticks reach ripe moments; only a task that was
-- taken has an open scope; and who is inside a job is a seat of the script, under a number of its own, and as a worker runs no
-- task. Every legal past is such a past
pub record IsPoolPast (script : Plan) (past : List Entry) : Type 0 where
  pub in_order : InOrder (posts past)
  pub declared : AllByRecursion (IsDeclared script) (posts past)
  pub taken_was_accepted : (t : ℕ) → is_taken past t ≡ true → (p : Posted) × (post_of past t ≡ Some p)
  pub singly : RunsSingly script past false
  pub moment_fits : now_of past ≤ LAST_MOMENT
  pub no_tick_ahead : NoTickAhead past
  pub arrivals_are_ready : SameMembers (arrivals past) (ready past)
  pub scopes_of_taken : (t : ℕ) → is_taken past t ≡ false → open_scope past t ≡ None
  pub inside : AreInside script past
  pub taken_have_keys : TakenHaveKeys past

-- the task of the pool that the seat runs
abbrev pub pool_running : List Entry → ℕ → Option Running
pool_running past seat = keep (λ w. not w.is_main) (running past seat)
