-- What each call of the pool asks of its caller, and answers.
use Rattle.std.specs.Prelude.{◌≡◌, ℕ, ◌<◌, ◌≤◌, Bool, false, List, length, Option, Some, None, is_some, ◌||◌}
use Rattle.std.specs.List.{list_any}
use Rattle.task_base.specs.Plan.{Plan}
use Rattle.task_base.specs.Runners.{sequence_of, sequence_count}
use Rattle.task_base.specs.declared.entry.Entry.{Entry}
use Rattle.task_base.specs.declared.entry.Kind.TheVariants as kinds
use Rattle.task_base.specs.declared.policy.Policy.{Policy}
use Rattle.task_base.specs.declared.step.Scope.{Scope}
use Rattle.task_traits.specs.declared.phase.Phase.{Phase}
use Rattle.task_traits.specs.declared.traits.Priority.{Priority}
use Rattle.task_base.specs.declared.limits.TheConstants.{LAST_MOMENT, MOST_MICROSECONDS}
use Rattle.list_laws.specs.Lists.{count, holds_of}
use Rattle.task_base.specs.Entries.{next}
use Rattle.task_model.specs.Phase.{phase_of}
use Rattle.pool_laws.specs.Posts.{post_of}
use Rattle.task_model.specs.Time.{now_of}
use Rattle.task_model.specs.Keys.{Ready}
use Rattle.task_model.specs.Sequences.{head_of}
use Rattle.task_model.specs.Cells.{cell_of}
use Rattle.task_model.specs.Seats.{Running, running, holding, worker_seats, runs_sequence}
use Rattle.task_model.specs.Capacity.{OpenScope, open_scope}
use Rattle.task_model.specs.Sources.{Candidate, best_of, sequence_candidate, job_candidate}
use Rattle.task_model.specs.Jobs.{JobPosted, claimed, free_id, job_post_of}
use Rattle.pool_laws.specs.Seats.{runs_pool_task}
use Rattle.pool_core.specs.StandsFor.{StandsFor}
use Rattle.pool_core.specs.declared.pool.Pool.{Pool}
use Rattle.pool_core.specs.declared.pool_take.PoolTake.{PoolTake}
use Rattle.pool_core.specs.declared.pool_take.PoolTake.TheVariants.{Task, Item, Nothing}

-- the past with an entry of each kind of the pool
abbrev pub after_post : List Entry → ℕ → ℕ → ℕ → ℕ → Bool → List Entry
after_post past seat task runner delay ok = next past seat (kinds.Post task runner delay ok)

abbrev pub after_tick : List Entry → ℕ → ℕ → List Entry
after_tick past seat moment = next past seat (kinds.Tick moment)

abbrev pub after_take : List Entry → ℕ → PoolTake → List Entry
after_take past seat (Task task runner cell) = next past seat (kinds.Take task runner cell)
after_take past seat (Item job id item) = next past seat (kinds.JobTake job id item)
after_take past seat Nothing = past

abbrev pub after_end : List Entry → ℕ → ℕ → ℕ → List Entry
after_end past seat task left = next past seat (kinds.End task left)

abbrev pub after_enter : List Entry → ℕ → ℕ → Scope → List Entry
after_enter past seat task scope = next past seat (kinds.Enter task scope)

abbrev pub after_leave : List Entry → ℕ → ℕ → List Entry
after_leave past seat task = next past seat (kinds.Leave task)

abbrev pub after_policy : List Entry → ℕ → Policy → List Entry
after_policy past seat policy = next past seat (kinds.Policy policy)

abbrev pub after_reprio : List Entry → ℕ → ℕ → Priority → List Entry
after_reprio past seat runner priority = next past seat (kinds.Reprio runner priority)

abbrev pub after_shutdown : List Entry → ℕ → List Entry
after_shutdown past seat = next past seat kinds.Shutdown

abbrev pub after_done : List Entry → ℕ → List Entry
after_done past seat = next past seat kinds.Done

-- the entry's place is the next one; the runner and the task are declared, and the task was not accepted before
pub record CanPost (script : Plan) (past : List Entry) (pool : Pool) (place task runner delay : ℕ) : Type 0 where
  pub stands : StandsFor script past pool
  pub place_is : place ≡ length past
  pub runner_declared : runner < length script.runners
  pub task_declared : task < length script.tasks
  pub is_new : post_of past task ≡ None
  pub delay_fits : delay ≤ MOST_MICROSECONDS

-- the entry's place is the next one; the moment is at least the last one
pub record CanTick (script : Plan) (past : List Entry) (pool : Pool) (place moment : ℕ) : Type 0 where
  pub stands : StandsFor script past pool
  pub place_is : place ≡ length past
  pub later : now_of past ≤ moment
  pub fits : moment ≤ LAST_MOMENT

-- the seat is a worker's, runs nothing, and is inside no job
pub record CanTake (script : Plan) (past : List Entry) (pool : Pool) (seat : ℕ) : Type 0 where
  pub stands : StandsFor script past pool
  pub worker : 1 ≤ seat
  pub known : seat ≤ script.workers
  pub free : running past seat ≡ None
  pub holds_nothing : holding past seat ≡ None

-- the seat's best source is this sequence, with its head
pub record IsChosen (script : Plan) (past : List Entry) (pool : Pool) (seat s : ℕ) : Type 0 where
  pub can : CanTake script past pool seat
  pub there : s < sequence_count script
  pub idle : runs_sequence script past s ≡ false
  pub head : Ready
  pub is_head : head_of script past s ≡ Some head
  pub is_best : best_of script past seat ≡ Some (sequence_candidate script past s head)

-- the seat runs this task of the pool, which has no scope open
pub record RunsClosed (script : Plan) (past : List Entry) (pool : Pool) (seat : ℕ) (w : Running) : Type 0 where
  pub stands : StandsFor script past pool
  pub runs : running past seat ≡ Some w
  pub is_pool : w.is_main ≡ false
  pub closed : open_scope past w.task ≡ None

-- the seat runs this task of the pool, which has this scope open
pub record RunsOpen (script : Plan) (past : List Entry) (pool : Pool) (seat : ℕ) (w : Running) (opened : OpenScope) : Type 0 where
  pub stands : StandsFor script past pool
  pub runs : running past seat ≡ Some w
  pub is_pool : w.is_main ≡ false
  pub opens : open_scope past w.task ≡ Some opened

-- the runner is declared
pub record KnowsRunner (script : Plan) (past : List Entry) (pool : Pool) (runner : ℕ) : Type 0 where
  pub stands : StandsFor script past pool
  pub declared : runner < length script.runners

-- the runner and the task are declared
pub record KnowsTask (script : Plan) (past : List Entry) (pool : Pool) (runner task : ℕ) : Type 0 where
  pub runner_known : KnowsRunner script past pool runner
  pub task_declared : task < length script.tasks

-- the seat is one of the script's
pub record KnowsSeat (script : Plan) (past : List Entry) (pool : Pool) (seat : ℕ) : Type 0 where
  pub stands : StandsFor script past pool
  pub known : seat ≤ script.workers

-- shutdown has come to this phase
pub record IsInPhase (script : Plan) (past : List Entry) (pool : Pool) (phase : Phase) : Type 0 where
  pub stands : StandsFor script past pool
  pub phase_is : phase_of past ≡ phase

-- the seat's best source is the sequence of this head, which is this task on this runner, and its cell has this value
pub record IsTaken (script : Plan) (past : List Entry) (seat task runner found : ℕ) : Type 0 where
  pub head : Ready
  pub is_head : head_of script past (sequence_of script runner task) ≡ Some head
  pub is_best : best_of script past seat ≡ Some (sequence_candidate script past (sequence_of script runner task) head)
  pub task_is : head.posted.task ≡ task
  pub runner_is : head.posted.home ≡ runner
  pub found_is : found ≡ cell_of script past (sequence_of script runner task)

-- the seat's best source is this job, and these are the least number that nobody inside has and the least unclaimed item
pub record IsEntered (script : Plan) (past : List Entry) (seat job id item : ℕ) : Type 0 where
  pub post : JobPosted
  pub is_post : job_post_of past job ≡ Some post
  pub is_best : best_of script past seat ≡ Some (job_candidate script past job post)
  pub id_is : free_id script past job ≡ Some id
  pub item_is : item ≡ claimed past job

-- what a take answers: the head of the best source, with its cell, or the number and the item where that is a job, or nothing
-- where the seat may take nothing
abbrev pub TakeAnswers : Plan → List Entry → ℕ → PoolTake → Type 0
TakeAnswers script past seat (Task task runner cell) = IsTaken script past seat task runner cell
TakeAnswers script past seat (Item job id item) = IsEntered script past seat job id item
TakeAnswers script past seat Nothing = best_of script past seat ≡ None

-- the seat runs a task of the pool, or is inside a job
abbrev pub is_working : List Entry → ℕ → Bool
is_working past seat = runs_pool_task past seat || is_some (holding past seat)

-- how many workers run tasks of the pool, or are inside jobs
abbrev pub running_tasks : Plan → List Entry → ℕ
running_tasks script past = count (is_working past) (worker_seats script)

-- some worker may take a source
abbrev pub is_any_ready : Plan → List Entry → Bool
is_any_ready script past = list_any (λ worker. is_some (best_of script past worker)) (worker_seats script)

-- there is a source, and one seat alone may take it
abbrev pub is_own : Option Candidate → Bool
is_own best = holds_of (λ c. is_some c.seat) best
