-- What each call of the pool on a job asks of its caller, and answers.
use Rattle.std.specs.Prelude.{◌≡◌, ℕ, ◌<◌, ◌≤◌, Bool, true, nat_lt, ◌&&◌, ◌||◌, if◌then◌else◌, List, length, Option, Some, None, is_some}
use Rattle.std.specs.Option.{option_map}
use Rattle.task_base.specs.Plan.{Plan}
use Rattle.task_base.specs.declared.entry.Entry.{Entry}
use Rattle.task_base.specs.declared.entry.JobReply.{JobReply}
use Rattle.task_base.specs.declared.entry.Kind.TheVariants as kinds
use Rattle.task_base.specs.Entries.{next}
use Rattle.task_model.specs.Seats.{Holding, holding, running}
use Rattle.task_model.specs.Jobs.{JobPosted, cap_of, claimed, free_id, is_empty, job_post_of, may_enter, reply_of}
use Rattle.task_model.specs.Capacity.{priority_of_job}
use Rattle.task_model.specs.Refusal.{is_job_forbidden}
use Rattle.task_model.specs.Sources.{best_of, job_candidate, makes_way}
use Rattle.pool_core.specs.Calls.{CanTake}
use Rattle.pool_core.specs.StandsFor.{StandsFor}
use Rattle.pool_core.specs.declared.pool.Pool.{Pool}

-- the past with an entry of each kind of a job's
abbrev pub after_job_post : List Entry → ℕ → ℕ → Bool → List Entry
after_job_post past seat job ok = next past seat (kinds.JobPost job ok)

abbrev pub after_job_cancel : List Entry → ℕ → ℕ → List Entry
after_job_cancel past seat job = next past seat (kinds.JobCancel job)

-- what a seat has got that asked to enter: a number and an item, or nothing
abbrev pub after_entering : List Entry → ℕ → ℕ → Option (ℕ × ℕ) → List Entry
after_entering past seat job None = past
after_entering past seat job (Some got) = next past seat (kinds.JobTake job got.0 got.1)

abbrev pub after_step : List Entry → ℕ → Holding → ℕ → Option ℕ → List Entry
after_step past seat h value goes_on = next past seat (kinds.JobStep h.job h.id h.item value goes_on)

-- the job is declared
pub record KnowsJob (script : Plan) (past : List Entry) (pool : Pool) (job : ℕ) : Type 0 where
  pub stands : StandsFor script past pool
  pub declared : job < length script.jobs

-- the entry's place is the next one; the job is declared, and was not posted before
pub record CanPostJob (script : Plan) (past : List Entry) (pool : Pool) (place job : ℕ) : Type 0 where
  pub knows : KnowsJob script past pool job
  pub place_is : place ≡ length past
  pub is_new : job_post_of past job ≡ None

-- the job is declared; the seat is one of the script's and inside no job, and as a worker it runs no task
pub record CanEnter (script : Plan) (past : List Entry) (pool : Pool) (seat job : ℕ) : Type 0 where
  pub knows : KnowsJob script past pool job
  pub known : seat ≤ script.workers
  pub holds_nothing : holding past seat ≡ None
  pub free : 1 ≤ seat → running past seat ≡ None

-- the job is declared, and the driver is inside no job
pub record CanJoin (script : Plan) (past : List Entry) (pool : Pool) (job : ℕ) : Type 0 where
  pub knows : KnowsJob script past pool job
  pub holds_nothing : holding past 0 ≡ None

-- the seat holds this item
pub record CanStep (script : Plan) (past : List Entry) (pool : Pool) (seat : ℕ) (h : Holding) : Type 0 where
  pub stands : StandsFor script past pool
  pub holds : holding past seat ≡ Some h

-- what a seat that asks to enter a job gets: where one may enter, the least free number and the least unclaimed item
abbrev pub entering : Plan → List Entry → ℕ → Option (ℕ × ℕ)
entering script past job = if may_enter script past job then option_map (λ id. (id, claimed past job)) (free_id script past job) else None

-- the phase forbids the job, or the seat is a worker's that makes way
abbrev pub has_to_leave : Plan → List Entry → ℕ → ℕ → Bool
has_to_leave script past seat job = is_job_forbidden script past job || (nat_lt 0 seat && makes_way script past (priority_of_job script job))

-- what a join of a job is told: its reply, where nobody is inside and there is one
abbrev pub joined_of : Plan → List Entry → ℕ → Option JobReply
joined_of script past job = if is_empty script past job then reply_of script past job else None

-- the job was posted, and by its own word somebody may be inside
abbrev pub lets_in : Plan → List Entry → ℕ → Bool
lets_in script past job = is_some (job_post_of past job) && nat_lt 0 (cap_of script job)

-- the seat's best source is this job, which is declared
pub record IsJobChosen (script : Plan) (past : List Entry) (pool : Pool) (seat job : ℕ) : Type 0 where
  pub can : CanTake script past pool seat
  pub declared : job < length script.jobs
  pub enters : may_enter script past job ≡ true
  pub post : JobPosted
  pub is_post : job_post_of past job ≡ Some post
  pub is_best : best_of script past seat ≡ Some (job_candidate script past job post)
