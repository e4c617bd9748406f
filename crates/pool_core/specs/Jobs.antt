-- What the tables of jobs stand for.
use Rattle.std.specs.Prelude.{◌≡◌, ℕ, ◌+◌, ◌<◌, List, length, Option, Some, slice_get}
use Rattle.std.specs.Option.{option_map}
use Rattle.task_base.specs.Plan.{Plan}
use Rattle.task_base.specs.declared.entry.Entry.{Entry}
use Rattle.task_model.specs.Seats.{Holding, holding}
use Rattle.task_model.specs.Capacity.{priority_of_job}
use Rattle.task_model.specs.Refusal.{behaviour_of_job}
use Rattle.task_model.specs.Jobs.{JobPosted, job_post_of, is_cancelled, claimed, done, job_sum, items_of, cap_of}
use Rattle.job_source.specs.Job.{JobView}
use Rattle.pool_core.specs.Holdings.{held_in}
use Rattle.pool_core.specs.declared.pool_job.PoolJob.{PoolJob}
use Rattle.pool_core.specs.declared.pool_job.JobPost.{JobPost}
use Rattle.pool_core.specs.declared.pool_job.Holder.{Holder}

-- the items of a job: how many are claimed and done, who holds which, whether it is cancelled, and what they add up to
abbrev pub view_of : Plan → List Entry → ℕ → JobView
view_of script past j = record {
  items = items_of script j;
  cap = cap_of script j;
  claimed = claimed past j;
  done = done past j;
  held = held_in script past j;
  cancelled = is_cancelled past j;
  sum = job_sum past j;
}

-- a post as it is kept
abbrev pub post_as : JobPosted → JobPost
post_as p = record { place = p.place; ok = p.ok }

-- a job as it is kept
abbrev pub job_as : Plan → List Entry → ℕ → PoolJob
job_as script past j = record {
  source = view_of script past j;
  priority = priority_of_job script j;
  behaviour = behaviour_of_job script j;
  post = option_map post_as (job_post_of past j);
}

-- there is a place for each job, with its items and its post
pub record AreJobs (script : Plan) (past : List Entry) (jobs : List PoolJob) : Type 0 where
  pub all : length jobs ≡ length script.jobs
  pub each : (j : ℕ) → j < length script.jobs → slice_get jobs j ≡ Some (job_as script past j)

-- the job and the number of an item that is held
abbrev pub holder_as : Holding → Holder
holder_as h = record { job = h.job; id = h.id }

-- there is a place for the driver and for each worker, with the job that the seat is inside
pub record AreHolders (script : Plan) (past : List Entry) (holders : List (Option Holder)) : Type 0 where
  pub all : length holders ≡ script.workers + 1
  pub holds : (seat : ℕ) → seat < script.workers + 1 → slice_get holders seat ≡ Some (option_map holder_as (holding past seat))
