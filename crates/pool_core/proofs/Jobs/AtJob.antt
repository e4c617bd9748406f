-- What the pool's tables say of an item that a seat holds.
-- Cited by `Pool::job_step`.
use Rattle.job_source.specs.Job.{held_by}
use Rattle.list_laws.proofs.Values.{some-injective}
use Rattle.pool_core.proofs.Works.GroupWorks.{seat_there as place_there, work_of_item, works_here}
use Rattle.pool_core.proofs.Jobs.HeldItems.{held_at, under_here}
use Rattle.pool_core.proofs.Jobs.JobQueues.{job_made}
use Rattle.pool_core.proofs.Jobs.JobStands.{held_is, job_is}
use Rattle.pool_core.proofs.Jobs.JobSteps.{left_share_is, stepped_job}
use Rattle.pool_core.proofs.Tracking.{counts_at_left}
use Rattle.pool_core.specs.Groups.{group_at}
use Rattle.pool_core.specs.Holdings.{HoldsItem}
use Rattle.pool_core.specs.JobCalls.{CanStep, KnowsJob}
use Rattle.pool_core.specs.JobState.{HasJobPlace, job_at, job_of, no_job, settled_share}
use Rattle.pool_core.specs.Jobs.{holder_as}
use Rattle.pool_core.specs.declared.pool.Pool.{Pool}
use Rattle.pool_core.specs.declared.pool_job.Holder.{Holder}
use Rattle.pool_core.specs.declared.pool_job.PoolJob.{PoolJob}
use Rattle.std.proofs.Common.{List, None, Option, Some, ap, arith, length, refl, subst, sym, true, ℕ, ◌<◌, ◌∙◌, ◌≡◌, ◌≤◌}
use Rattle.std.proofs.lemmas.List.{get_or-set_same, length-set}
use Rattle.std.specs.Option.{option_map}
use Rattle.std.specs.Prelude.{IsSome, IsSomeAnd, slice_get, slice_index_or, slice_set}
use Rattle.std.specs.Vec.{with_item}
use Rattle.task_base.specs.Plan.{Plan}
use Rattle.task_base.specs.declared.entry.Entry.{Entry}
use Rattle.task_base.specs.declared.limits.TheConstants.{MOST_WORKERS}
use Rattle.task_model.specs.Seats.{Holding}
use Rattle.task_tracker.specs.Tracked.{skip_share}
use Rattle.thread_group.specs.Group.{work_at}

-- what is known of who holds it
pub known_item : {script : Plan} {past : List Entry} {pool : Pool} {seat : ℕ} {h : Holding} → CanStep script past pool seat h → HoldsItem script past seat h
known_item {seat = seat} {h = h} can = can.stands.past_fits.inside.holds seat h can.holds

-- its job is declared
pub knows_job : {script : Plan} {past : List Entry} {pool : Pool} {seat : ℕ} {h : Holding} → CanStep script past pool seat h
    → KnowsJob script past pool h.job
knows_job can = record { stands = can.stands; declared = (known_item can).declared }

-- the table of the seats has its job and number
holder_there : {script : Plan} {past : List Entry} {pool : Pool} {seat : ℕ} {h : Holding} → CanStep script past pool seat h
    → slice_get pool.holders.items seat ≡ Some (Some (holder_as h))
holder_there {seat = seat} can =
    can.stands.holders.holds seat (omega (arith, (known_item can).known)) ∙ ap (λ (o : Option Holding). Some (option_map holder_as o)) can.holds

pub has_holder : {script : Plan} {past : List Entry} {pool : Pool} {seat : ℕ} {h : Holding} → CanStep script past pool seat h
    → (holder : Holder) × (slice_get pool.holders.items seat ≡ Some (Some holder))
has_holder {h = h} can = (holder_as h, holder_there can)

pub holder_is : {script : Plan} {past : List Entry} {pool : Pool} {seat : ℕ} {h : Holding} {holder : Holder} → CanStep script past pool seat h
    → slice_get pool.holders.items seat ≡ Some (Some holder) → holder ≡ holder_as h
holder_is can read = some-injective (some-injective (sym read ∙ holder_there can))

-- it is held under its number
pub item_is_held : {script : Plan} {past : List Entry} {pool : Pool} {seat : ℕ} {h : Holding} (held : PoolJob) → CanStep script past pool seat h
    → held ≡ slice_index_or pool.jobs.items h.job held → IsSome (held_by held.source h.id)
item_is_held {script = script} {past = past} {seat = seat} {h = h} held can read =
    subst IsSome (sym (ap (λ (job : PoolJob). held_by job.source h.id) (held_is h.job held (knows_job can) read)
    ∙ held_at script past h.job h.id can.stands.past_fits.inside ∙ under_here script past seat h can.stands.past_fits.inside can.holds)) refl

pub seat_fits : {script : Plan} {past : List Entry} {pool : Pool} {seat : ℕ} {h : Holding} → CanStep script past pool seat h → seat ≤ MOST_WORKERS
seat_fits can = omega (arith, (known_item can).known, can.stands.script_fits.workers_fit)

pub seat_there : {script : Plan} {past : List Entry} {pool : Pool} {seat : ℕ} {h : Holding} → CanStep script past pool seat h
    → seat < length pool.holders.items
seat_there can = omega (arith, (known_item can).known, can.stands.holders.all)

pub job_there : {script : Plan} {past : List Entry} {pool : Pool} {seat : ℕ} {h : Holding} → CanStep script past pool seat h
    → h.job < length pool.jobs.items
job_there can = omega (arith, (known_item can).declared, can.stands.jobs.all)

-- a worker's group keeps its item, in which no scope is open
pub item_work : {script : Plan} {past : List Entry} {pool : Pool} {seat : ℕ} {h : Holding} → CanStep script past pool seat h → 1 ≤ seat
    → IsSomeAnd (work_at (group_at pool.groups seat) seat) (λ work. work.scope ≡ None)
item_work {script = script} {past = past} {pool = pool} {seat = seat} {h = h} can worker =
    let inside = can.stands.past_fits.inside in
    rw (works_here script past pool.groups seat _ can.stands.groups (place_there script seat can.stands.script_fits (known_item can).known)
    (work_of_item script past seat h worker (inside.one_thing seat h worker can.holds) can.holds)) refl

-- the counts have its share
pub item_counted : {script : Plan} {past : List Entry} {pool : Pool} {seat : ℕ} {h : Holding} (new : PoolJob) → CanStep script past pool seat h
    → new.behaviour ≡ (job_of pool h.job).behaviour
    → skip_share (job_at (slice_set pool.jobs.items h.job new) h.job).behaviour ≤ pool.tracker.skip_items
item_counted {script = script} {past = past} {pool = pool} {seat = seat} {h = h} new can same = rw (
  get_or-set_same pool.jobs.items h.job new no_job (job_there can),
  same,
  ap (λ (j : PoolJob). j.behaviour) (job_is h.job can.stands (known_item can).declared),
  can.stands.tracker,
) (counts_at_left script past seat 0 h (known_item can).known can.holds (known_item can).declared (known_item can).accepted).1

pub job_counted : {script : Plan} {past : List Entry} {pool : Pool} {seat : ℕ} {h : Holding} (value : ℕ) → CanStep script past pool seat h
    → settled_share (job_at (slice_set pool.jobs.items h.job (stepped_job (job_of pool h.job) h.id value None)) h.job) true ≤ pool.tracker.block_items
job_counted {script = script} {past = past} {pool = pool} {seat = seat} {h = h} value can = rw (
  get_or-set_same pool.jobs.items h.job (stepped_job (job_of pool h.job) h.id value None) no_job (job_there can),
  left_share_is value can,
  can.stands.tracker,
) (counts_at_left script past seat value h (known_item can).known can.holds (known_item can).declared (known_item can).accepted).0

-- its job has its place among the sources, whatever else changes
pub job_place : {script : Plan} {past : List Entry} {pool : Pool} {seat : ℕ} {h : Holding} (later : Pool) (new : PoolJob) → CanStep script past pool seat h
    → later.lanes ≡ pool.lanes → later.jobs ≡ with_item pool.jobs h.job new → HasJobPlace later h.job
job_place {script = script} {pool = pool} {h = h} later new can lanes jobs = rw (lanes, jobs) (record {
  there = rw length-set (job_there can);
  lane_there = rw (can.stands.queues.roomy.all) (omega arith);
  made = λ best. job_made script pool.lanes best h.job can.stands.queues.roomy (known_item can).declared;
})
