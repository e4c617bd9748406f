-- How the parts of the pool follow the jobs: each job is in the queue of its priority, with the rank that its items and its
-- post give.
use Rattle.std.specs.Prelude.{ℕ, zero, suc, ◌-◌, ◌<◌, Bool, true, ◌&&◌, not, nat_lt, if◌then◌else◌, List, length, Some, None, is_some, slice_index_or}
use Rattle.std.specs.Vec.{with_item}
use Rattle.task_base.specs.Groups.{importance}
use Rattle.task_base.specs.declared.source.TaskSource.TheVariants.{Job}
use Rattle.task_traits.specs.declared.phase.Phase.{Phase}
use Rattle.task_traits.specs.declared.traits.Behaviour.TheVariants.{ContinueOnShutdown}
use Rattle.task_traits.specs.declared.traits.Priority.{Priority}
use Rattle.task_traits.specs.declared.traits.Priority.TheVariants.{BestEffort}
use Rattle.task_tracker.specs.Tracked.{block_share, skip_share}
use Rattle.task_model.specs.Sources.{Candidate}
use Rattle.thread_group.specs.Group.{with_work}
use Rattle.sequence_queue.specs.Ranked.{IsMadeFor}
use Rattle.pool_core.specs.Groups.{group_at, group_in, in_background, with_group, with_group_at, work_of}
use Rattle.pool_core.specs.PoolJobs.{fresh_view, is_open, rank_in}
use Rattle.pool_core.specs.Queues.{queue_of, with_source}
use Rattle.pool_core.specs.declared.groups.Groups.{Groups}
use Rattle.pool_core.specs.declared.lanes.Lane.{Lane}
use Rattle.pool_core.specs.declared.pool.Pool.{Pool}
use Rattle.pool_core.specs.declared.pool_job.PoolJob.{PoolJob}

-- a job without items
abbrev pub no_job : PoolJob
no_job = record { source = fresh_view 0 0; priority = BestEffort; behaviour = ContinueOnShutdown; post = None }

-- the job of a number
abbrev pub job_at : List PoolJob → ℕ → PoolJob
job_at jobs j = slice_index_or jobs j no_job

-- the pool's job of a number
abbrev pub job_of : Pool → ℕ → PoolJob
job_of pool j = job_at pool.jobs.items j

-- the queues of the lane for all seats have room for the job
pub record HasJobPlace (pool : Pool) (j : ℕ) : Type 0 where
  pub there : j < length pool.jobs.items
  pub lane_there : 0 < length pool.lanes
  pub made : (best : Bool) → IsMadeFor (queue_of pool.lanes 0 best) (Job j)

-- and so for each job
abbrev pub HaveJobPlaces : Pool → Type 0
HaveJobPlaces pool = (j : ℕ) → j < length pool.jobs.items → HasJobPlace pool j

-- the lanes with a job in its place, by its items and its post
abbrev pub with_job_place : Phase → List Lane → ℕ → PoolJob → List Lane
with_job_place phase lanes j job = with_source lanes 0 (Job j) (rank_in phase job)

-- the lanes with so many jobs in their places
abbrev pub jobs_placed : Phase → List PoolJob → List Lane → ℕ → List Lane
jobs_placed phase jobs lanes zero = lanes
jobs_placed phase jobs lanes (suc n) = with_job_place phase (jobs_placed phase jobs lanes n) n (job_at jobs n)

-- the pool with a job in its place
abbrev pub job_refreshed : Pool → ℕ → Pool
job_refreshed pool j = record pool { lanes = with_job_place pool.tracker.phase pool.lanes j (job_of pool j) }

-- the pool with so many jobs in their places
abbrev pub jobs_refreshed_below : Pool → ℕ → Pool
jobs_refreshed_below pool n = record pool { lanes = jobs_placed pool.tracker.phase pool.jobs.items pool.lanes n }

-- what shutdown waits for less once the job was open and is not
abbrev pub settled_share : PoolJob → Bool → ℕ
settled_share job was_open = if was_open && not (is_open job) then block_share job.behaviour else 0

-- the pool where shutdown waits no more for the job, if it was open and is not
abbrev pub settled : Pool → ℕ → Bool → Pool
settled pool j was_open =
    record pool { tracker = record pool.tracker { block_items = pool.tracker.block_items - settled_share (job_of pool j) was_open } }

-- the groups where a worker at a job of this priority has started on an item; the driver's item is no work of theirs
abbrev pub with_item_started : Pool → ℕ → Priority → Groups
with_item_started pool seat priority =
    if nat_lt 0 seat
    then with_group pool.groups (in_background pool.runners priority)
    (with_work (group_in pool.groups (in_background pool.runners priority)) seat (Some (work_of None priority)))
    else pool.groups

-- the groups where it has ended its last one
abbrev pub with_item_ended : Pool → ℕ → Groups
with_item_ended pool seat =
    if nat_lt 0 seat then with_group_at pool.groups seat (with_work (group_at pool.groups seat) seat None) else pool.groups

-- the pool where a seat has left a job
abbrev pub job_left : Pool → ℕ → ℕ → Pool
job_left pool seat j = settled (record pool {
  holders = with_item pool.holders seat None;
  groups = with_item_ended pool seat;
  tracker = record pool.tracker { skip_items = pool.tracker.skip_items - skip_share (job_of pool j).behaviour };
}) j true

-- the source is of higher priority, and any worker may take it
abbrev pub is_better : Priority → Candidate → Bool
is_better priority c = not (is_some c.seat) && nat_lt (importance priority) (importance c.priority)
