-- The post of a job, and a seat that enters it, keep what the pool stands for.
-- Cited by 7 functions of `Pool`, `Jobs/AtJob`, `Jobs/JobSteps`.
use Rattle.pool_core.proofs.Works.GroupGrowth.{groups_at_driver, groups_at_item, groups_kept}
use Rattle.pool_core.proofs.Jobs.Insides.{inside_at_take}
use Rattle.pool_core.proofs.Jobs.JobViews.{enters_parts, inside_is, over_is, rank_is}
use Rattle.pool_core.proofs.Tracking.{tracked_at_job_post, tracked_at_job_refusal, tracked_at_job_take}
use Rattle.pool_core.specs.Holdings.{AreInside}
use Rattle.pool_core.specs.JobCalls.{CanEnter, CanPostJob, KnowsJob, after_job_post}
use Rattle.pool_core.specs.JobState.{job_at, job_of, job_refreshed, no_job, settled, settled_share, with_item_started}
use Rattle.pool_core.specs.PoolJobs.{is_open, rank_in, with_entered_in}
use Rattle.pool_laws.proofs.Jobs.Answers.{job_at_other_post, job_at_other_take}
use Rattle.std.specs.Prelude.{if◌then◌else◌, nat_lt, not, slice_index_or, slice_set, ◌&&◌, ◌==◌}
use Rattle.task_model.proofs.Growth.{now_of_push}
use Rattle.task_model.specs.Blockers.{block_part}
use Rattle.task_model.specs.Jobs.{claimed, free_id, is_free_id, is_job_accepted, is_over, may_enter}
use Rattle.task_tracker.specs.Tracked.{Tracked, block_share, skip_share}
use Rattle.task_traits.specs.declared.traits.Behaviour.{Behaviour}
use Rattle.job_source.specs.Job as source
use Rattle.job_source.specs.declared.source.TheConstants.{MOST_INSIDE}
use Rattle.list_laws.proofs.Values.{some-injective}
use Rattle.pool_core.proofs.Delays.{unripe_kept}
use Rattle.pool_core.proofs.Works.GroupWorks.{with_seat}
use Rattle.pool_core.proofs.Jobs.JobQueues.{hold_at_job, others_wait}
use Rattle.pool_core.proofs.Jobs.JobTables.{as_at_post, as_at_take, holders_at_take, holders_kept, jobs_at_post, jobs_at_take}
use Rattle.pool_core.proofs.LineGrowth.{lines_kept}
use Rattle.pool_core.proofs.Pasts.{past_at_job_post, past_at_job_take}
use Rattle.pool_core.proofs.Tables.{postings_kept, priorities_kept, seats_kept}
use Rattle.pool_core.specs.Groups.{AreGroups, work_of}
use Rattle.pool_core.specs.Jobs.{AreHolders, AreJobs, job_as}
use Rattle.pool_core.specs.Pasts.{IsPoolPast}
use Rattle.pool_core.specs.StandsFor.{StandsFor}
use Rattle.pool_core.specs.Tables.{tracked}
use Rattle.pool_core.specs.declared.groups.Groups.{Groups}
use Rattle.pool_core.specs.declared.pool.Pool.{Pool}
use Rattle.pool_core.specs.declared.pool_job.Holder.{Holder}
use Rattle.pool_core.specs.declared.pool_job.PoolJob.{PoolJob}
use Rattle.pool_laws.proofs.Jobs.Numbers.{free_id_is_first}
use Rattle.pool_laws.proofs.Keys.Arrivals.{arrivals_same}
use Rattle.pool_laws.proofs.Keys.Posts.{posts_same}
use Rattle.pool_laws.specs.Choice.{moves_sequence_waiting, sequence_waiting_parts}
use Rattle.pool_laws.specs.Jobs.{JobKept}
use Rattle.pool_laws.specs.Keys.{moves_posts, moves_ready, ready_parts, arrivals}
use Rattle.pool_laws.specs.Seats.{main_parts, running_parts}
use Rattle.std.proofs.Common.{Bool, List, None, Option, Some, [], ap, arith, cond, false, length, refl, subst, sym, true, ℕ, ◌++◌, ◌+◌, ◌-◌, ◌<◌, ◌∙◌, ◌∷◌, ◌≡◌}
use Rattle.std.proofs.lemmas.List.{get_or-set_same}
use Rattle.std.proofs.lemmas.Option.{get_or_from_slice_get}
use Rattle.std.specs.Option.{option_map}
use Rattle.std.proofs.lemmas.Bool.{ltb-false, ltb-true}
use Rattle.std.specs.Vec.{with_item}
use Rattle.std.specs.declared.vec.Vec.{Vec}
use Rattle.std.specs.declared.alloc.Global.{Global}
use Rattle.task_base.specs.Plan.{Plan}
use Rattle.task_base.specs.declared.entry.Entry.{Entry}
use Rattle.task_base.specs.declared.entry.Kind.TheVariants as kinds
use Rattle.task_base.specs.Entries.{next}
use Rattle.task_model.specs.Capacity.{priority_of_job}
use Rattle.task_model.specs.Refusal.{behaviour_of_job, is_job_forbidden}
use Rattle.task_model.specs.Seats.{inside, running}
use Rattle.task_model.specs.Sources.{job_waiting}
use Rattle.task_model.specs.Time.{now_of}
use Rattle.pool_core.specs.Queues.{rank_as}
use Rattle.pool_laws.specs.Moves.{Posts, Priorities}
use Rattle.pool_laws.proofs.Moves.{moves_fewer, same_moment}
use Rattle.pool_core.specs.Others.{line_parts}

-- the pool's job of a number is the one that the rules tell of
pub job_is : {script : Plan} {past : List Entry} {pool : Pool} (j : ℕ) → StandsFor script past pool → j < length script.jobs
    → job_of pool j ≡ job_as script past j
job_is {script = script} {past = past} {pool = pool} j stands declared =
    get_or_from_slice_get pool.jobs.items j (job_as script past j) no_job (stands.jobs.each j declared)

-- so is the one that is read from the table
pub held_is : {script : Plan} {past : List Entry} {pool : Pool} (j : ℕ) (held : PoolJob) → KnowsJob script past pool j
    → held ≡ slice_index_or pool.jobs.items j held → held ≡ job_as script past j
held_is {script = script} {past = past} {pool = pool} j held can read =
    read ∙ get_or_from_slice_get pool.jobs.items j (job_as script past j) held (can.stands.jobs.each j can.declared)

-- as many are inside as it counts
pub inside_held : {script : Plan} {past : List Entry} {pool : Pool} (j running : ℕ) (held : PoolJob) → KnowsJob script past pool j
    → held ≡ slice_index_or pool.jobs.items j held → running ≡ source.inside held.source → running ≡ length (inside script past j)
inside_held {script = script} {past = past} j running held can read counts =
    counts ∙ ap (λ (h : PoolJob). source.inside h.source) (held_is j held can read) ∙ inside_is script past j can.stands.past_fits.inside

-- and that is the pool's job of its number
pub held_of : {script : Plan} {past : List Entry} {pool : Pool} (j : ℕ) (held : PoolJob) → KnowsJob script past pool j
    → held ≡ slice_index_or pool.jobs.items j held → held ≡ job_of pool j
held_of j held can read = held_is j held can read ∙ sym (job_is j can.stands can.declared)

-- a job that is put into the table is read from there
pub job_set : {script : Plan} {past : List Entry} {pool : Pool} (j : ℕ) (new : PoolJob) → KnowsJob script past pool j
    → job_at (slice_set pool.jobs.items j new) j ≡ new
job_set {pool = pool} j new can = get_or-set_same pool.jobs.items j new no_job (omega (arith, can.declared, can.stands.jobs.all))

-- one job changes and is given its place, with what else the entry changes; no sequence waits otherwise
pub stands_with_job : (script : Plan) (past : List Entry) (pool : Pool) (e : Entry) (job : ℕ) (new : PoolJob) (groups : Groups) (tracker : Tracked)
    (holders : Vec (Option Holder) Global) → StandsFor script past pool → job < length script.jobs → moves_sequence_waiting e.kind ≡ false
    → IsPoolPast script (past ++ e ∷ [])
    → ((x : ℕ) → (job == x) ≡ false → JobKept script past (past ++ e ∷ []) x) → job_as script (past ++ e ∷ []) job ≡ new
    → AreJobs script (past ++ e ∷ []) (slice_set pool.jobs.items job new) → AreGroups script (past ++ e ∷ []) groups
    → tracker ≡ tracked script (past ++ e ∷ []) → AreHolders script (past ++ e ∷ []) holders.items
    → StandsFor script (past ++ e ∷ [])
    (job_refreshed (record pool { jobs = with_item pool.jobs job new; groups = groups; tracker = tracker; holders = holders }) job)
stands_with_job script past pool e job new groups tracker holders stands declared still fits others is jobs are tracks holds = record {
  script_fits = stands.script_fits;
  past_fits = fits;
  runners = stands.runners;
  priorities = priorities_kept script past e pool.priorities.items (moves_fewer (Priorities ∷ []) sequence_waiting_parts e.kind refl still) stands.priorities;
  lines = rw (arrivals_same past e ready) (lines_kept script past e (arrivals past) pool.sequences
      (moves_fewer (main_parts ++ line_parts) sequence_waiting_parts e.kind refl still) stands.lines);
  queues = hold_at_job script past (past ++ e ∷ []) pool.lanes job (job_at (slice_set pool.jobs.items job new) job) tracker.phase stands.queues declared
      (others_wait script past e job still others) rank;
  listed = stands.listed;
  representatives = stands.representatives;
  groups = are;
  delayed = rw (unripe_kept past e ready) stands.delayed;
  tracker = tracks;
  postings = postings_kept script past e pool.postings.items no_post stands.postings;
  seats = seats_kept script past e pool.seats.items (moves_fewer running_parts sequence_waiting_parts e.kind refl still) stands.seats;
  jobs = jobs;
  holders = holds;
  moment = stands.moment ∙ sym (same_moment sequence_waiting_parts e.kind refl still (now_of past)) ∙ sym (now_of_push past e);
  room = rw (posts_same past e no_post) stands.room;
}
  where
    ready : moves_ready e.kind ≡ false
    ready = moves_fewer ready_parts sequence_waiting_parts e.kind refl still

    no_post : moves_posts e.kind ≡ false
    no_post = moves_fewer (Posts ∷ []) sequence_waiting_parts e.kind refl still

    here : job_at (slice_set pool.jobs.items job new) job ≡ job_as script (past ++ e ∷ []) job
    here = get_or-set_same pool.jobs.items job new no_job (omega (arith, declared, stands.jobs.all)) ∙ sym is

    rank : rank_in tracker.phase (job_at (slice_set pool.jobs.items job new) job) ≡ option_map rank_as (job_waiting script (past ++ e ∷ []) job)
    rank = ap (rank_in tracker.phase) here ∙ ap (λ phase. rank_in phase (job_as script (past ++ e ∷ []) job)) (ap (λ (t : Tracked). t.phase) tracks)
        ∙ rank_is script (past ++ e ∷ []) job fits.inside

-- A seat enters a job.

pub stands_at_job_take : (script : Plan) (past : List Entry) (pool : Pool) (seat job id : ℕ) → CanEnter script past pool seat job
    → may_enter script past job ≡ true → free_id script past job ≡ Some id → id < MOST_INSIDE
    → StandsFor script (next past seat (kinds.JobTake job id (claimed past job)))
    (job_refreshed (record pool {
      jobs = with_item pool.jobs job (with_entered_in (job_of pool job) (Some (id, claimed past job)));
      groups = with_item_started pool seat (priority_of_job script job);
      tracker = record pool.tracker { skip_items = pool.tracker.skip_items + skip_share (behaviour_of_job script job) };
      holders = with_item pool.holders seat (Some (record { job = job; id = id }));
    }) job)
stands_at_job_take script past pool seat job id can may free fits = stands_with_job script past pool e job
    (with_entered_in (job_of pool job) (Some (id, claimed past job)))
    (with_item_started pool seat (priority_of_job script job))
    (record pool.tracker { skip_items = pool.tracker.skip_items + skip_share (behaviour_of_job script job) })
    (with_item pool.holders seat (Some (record { job = job; id = id }))) stands declared
    refl (past_at_job_take script past seat job id (claimed past job) inside_later stands.past_fits)
    (λ x other. job_at_other_take script past e x job id (claimed past job) refl other can.holds_nothing)
    is (jobs_at_take script past seat job id (claimed past job) pool.jobs.items _ stands.jobs declared can.holds_nothing is)
    (rw stands.runners (groups (nat_lt 0 seat) refl))
    (rw (tracked_at_job_take script past seat job id (claimed past job) can.known can.holds_nothing parts.2, stands.tracker) refl)
    (holders_at_take script past seat job id (claimed past job) pool.holders.items stands.holders can.known)
  where
    stands : StandsFor script past pool
    stands = can.knows.stands

    declared : job < length script.jobs
    declared = can.knows.declared

    e : Entry
    e = record { seat = seat; kind = kinds.JobTake job id (claimed past job) }

    parts : (is_job_accepted past job ≡ true) × (is_job_forbidden script past job ≡ false) × (is_over script past job ≡ false)
    parts = enters_parts script past job may

    is_free : is_free_id script past job id ≡ true
    is_free =
        let first = free_id_is_first script past job in
        subst (λ n. is_free_id script past job n ≡ true) (some-injective (sym first.1 ∙ free)) first.2.passes

    inside_later : AreInside script (past ++ e ∷ [])
    inside_later = inside_at_take script past seat job id (claimed past job) can.known declared fits parts.0 is_free can.free stands.past_fits.inside

    is : job_as script (past ++ e ∷ []) job ≡ with_entered_in (job_of pool job) (Some (id, claimed past job))
    is = as_at_take script past seat job id fits can.holds_nothing inside_later
        ∙ ap (λ held. with_entered_in held (Some (id, claimed past job))) (sym (job_is job stands declared))

    groups : (b : Bool) → nat_lt 0 seat ≡ b → AreGroups script (past ++ e ∷ [])
        (cond b (with_seat script pool.groups seat (priority_of_job script job) (Some (work_of None (priority_of_job script job)))) pool.groups)
    groups true worker = groups_at_item script past pool.groups seat job id (claimed past job) stands.script_fits stands.groups (ltb-true 0 seat worker)
        can.known (can.free (ltb-true 0 seat worker)) can.holds_nothing
    groups false driver = groups_at_driver script past e pool.groups refl (omega (arith, ltb-false 0 seat driver)) stands.groups

-- A job is posted.

-- what is left of the count of a job that was accepted
counted_post : (n share : ℕ) (over : Bool) → n + share - cond (true && not (true && not over)) share 0 ≡ n + cond (not over) share 0
counted_post n share true = omega arith
counted_post n share false = omega arith

-- the job behind its post
abbrev pub posted_job : PoolJob → ℕ → Bool → PoolJob
posted_job job place ok = record job { post = Some (record { place = place; ok = ok }) }

-- what the tracker counts where the job was let in, or was not
abbrev pub let_in : Tracked → Behaviour → Bool → Tracked
let_in tracker behaviour ok = if ok then record tracker { block_items = tracker.block_items + block_share behaviour } else tracker

pub stands_at_job_post : (script : Plan) (past : List Entry) (pool : Pool) (seat place job : ℕ) (ok : Bool) → CanPostJob script past pool place job
    → StandsFor script (after_job_post past seat job ok)
    (job_refreshed (settled (record pool {
      jobs = with_item pool.jobs job (posted_job (job_of pool job) place ok);
      tracker = let_in pool.tracker (behaviour_of_job script job) ok;
    }) job ok) job)
stands_at_job_post script past pool seat place job ok can = stands_with_job script past pool e job new pool.groups
    (record tracker { block_items = tracker.block_items - settled_share (job_at (slice_set pool.jobs.items job new) job) ok }) pool.holders stands declared
    refl fits
    (λ x other. job_at_other_post script past e x job ok refl other)
    is (jobs_at_post script past seat job ok pool.jobs.items new stands.jobs declared is)
    (groups_kept script past e pool.groups refl stands.groups)
    (rw (get_or-set_same pool.jobs.items job new no_job (omega (arith, declared, stands.jobs.all))) (tracks ok refl))
    (holders_kept script past e pool.holders.items refl stands.holders)
  where
    stands : StandsFor script past pool
    stands = can.knows.stands

    declared : job < length script.jobs
    declared = can.knows.declared

    e : Entry
    e = record { seat = seat; kind = kinds.JobPost job ok }

    fits : IsPoolPast script (past ++ e ∷ [])
    fits = past_at_job_post script past seat job ok stands.past_fits

    new : PoolJob
    new = posted_job (job_of pool job) place ok

    tracker : Tracked
    tracker = let_in pool.tracker (behaviour_of_job script job) ok

    is : job_as script (past ++ e ∷ []) job ≡ new
    is = as_at_post script past seat job ok can.is_new
        ∙ ap (λ held. posted_job held (length past) ok) (sym (job_is job stands declared)) ∙ ap (λ n. posted_job (job_of pool job) n ok) (sym can.place_is)

    over : is_open (posted_job (job_of pool job) place true) ≡ (true && not (is_over script past job))
    over = ap (λ held. is_open (posted_job held place true)) (job_is job stands declared)
        ∙ ap (λ b. true && not b) (over_is script past job stands.past_fits.inside)

    tracks : (b : Bool) → ok ≡ b
        → record (let_in pool.tracker (behaviour_of_job script job) b) {
          block_items = (let_in pool.tracker (behaviour_of_job script job) b).block_items - settled_share (posted_job (job_of pool job) place b) b;
        } ≡ tracked script (next past seat (kinds.JobPost job b))
    tracks true is_ok = rw (tracked_at_job_post script past seat job declared can.is_new, stands.tracker, over, job_is job stands declared)
        (ap (λ n. record (tracked script past) { block_items = n })
        (counted_post (block_part script past) (block_share (behaviour_of_job script job)) (is_over script past job)))
    tracks false is_ok = rw (tracked_at_job_refusal script past seat job declared can.is_new, stands.tracker)
        (ap (λ n. record (tracked script past) { block_items = n })
        (omega arith))
