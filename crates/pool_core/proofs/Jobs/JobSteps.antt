-- The end of an item, and the cancel of a job, keep what the pool stands for.
-- Cited by `Pool::job_cancel`, `Pool::job_step`, `Jobs/AtJob`.
use Rattle.list_laws.specs.Lists.{holds_of}
use Rattle.pool_core.proofs.Works.GroupGrowth.{groups_at_driver, groups_at_goes_on, groups_at_item_left, groups_kept}
use Rattle.pool_core.proofs.Jobs.Insides.{accepted_grows, inside_at_step}
use Rattle.pool_core.proofs.Jobs.JobViews.{open_is}
use Rattle.pool_core.proofs.Tracking.{cancel_share, left_share, tracked_at_cancel, tracked_at_goes_on, tracked_at_left}
use Rattle.pool_core.specs.Holdings.{HoldsItem}
use Rattle.pool_core.specs.JobCalls.{CanStep, KnowsJob, after_job_cancel, after_step}
use Rattle.pool_core.specs.JobState.{job_left, job_of, job_refreshed, no_job, settled_share, with_item_ended}
use Rattle.thread_group.specs.Group.{with_work}
use Rattle.pool_core.specs.PoolJobs.{is_open}
use Rattle.pool_laws.proofs.Jobs.Answers.{job_at_other_cancel, job_at_other_step, post_stays}
use Rattle.pool_laws.proofs.Seats.Running.{inside_same}
use Rattle.std.proofs.Math.Bool.{and-true, or-true}
use Rattle.std.specs.Prelude.{nat_lt, not, ◌&&◌}
use Rattle.task_model.proofs.Growth.{is_cancelled_push, job_post_of_push}
use Rattle.task_model.specs.Jobs.{is_empty, is_job_accepted, is_over, job_post_of}
use Rattle.task_tracker.specs.Tracked.{block_share, skip_share}
use Rattle.task_traits.specs.declared.traits.Behaviour.{Behaviour}
use Rattle.job_source.specs.Job.{with_done}
use Rattle.list_laws.proofs.Values.{eqb-same}
use Rattle.pool_core.proofs.Jobs.JobTables.{as_at_cancel, as_at_step, holders_at_goes_on, holders_at_left, holders_kept, jobs_at_cancel, jobs_at_step}
use Rattle.pool_core.proofs.Pasts.{past_at_job_cancel, past_at_step}
use Rattle.pool_core.specs.Groups.{AreGroups, group_at, with_group_at}
use Rattle.pool_core.specs.Jobs.{job_as}
use Rattle.pool_core.specs.StandsFor.{StandsFor}
use Rattle.pool_core.specs.declared.pool.Pool.{Pool}
use Rattle.pool_core.specs.declared.pool_job.PoolJob.{PoolJob}
use Rattle.std.proofs.Common.{Bool, List, None, Option, Some, [], ap, arith, cond, false, length, refl, subst, sym, true, ℕ, ◌++◌, ◌-◌, ◌<◌, ◌∙◌, ◌∷◌, ◌≡◌}
use Rattle.std.proofs.lemmas.List.{get_or-set_same}
use Rattle.std.proofs.lemmas.Bool.{ltb-false, ltb-true}
use Rattle.std.specs.Vec.{with_item}
use Rattle.task_base.specs.Plan.{Plan}
use Rattle.task_base.specs.declared.entry.Entry.{Entry}
use Rattle.task_base.specs.declared.entry.Kind.TheVariants as kinds
use Rattle.task_model.specs.Refusal.{behaviour_of_job}
use Rattle.task_model.specs.Seats.{Holding}
use Rattle.pool_core.proofs.Jobs.JobStands.{job_is, stands_with_job}

-- the job behind the end of an item
abbrev pub stepped_job : PoolJob → ℕ → ℕ → Option ℕ → PoolJob
stepped_job job id value goes_on = record job { source = with_done job.source id value goes_on }

step_is : {script : Plan} {past : List Entry} {pool : Pool} {seat : ℕ} {h : Holding} (value : ℕ) (goes_on : Option ℕ) → CanStep script past pool seat h
    → job_as script (after_step past seat h value goes_on) h.job ≡ stepped_job (job_of pool h.job) h.id value goes_on
step_is {script = script} {past = past} {seat = seat} {h = h} value goes_on can =
    as_at_step script past seat value h goes_on can.stands.past_fits.inside can.holds
    (inside_at_step script past seat value h goes_on can.holds can.stands.past_fits.inside)
    ∙ ap (λ held. stepped_job held h.id value goes_on)
    (sym (job_is h.job can.stands (can.stands.past_fits.inside.holds seat h can.holds).declared))

-- it goes on
pub stands_at_goes_on : (script : Plan) (past : List Entry) (pool : Pool) (seat value goes_on : ℕ) (h : Holding) → CanStep script past pool seat h
    → StandsFor script (after_step past seat h value (Some goes_on))
    (job_refreshed (record pool { jobs = with_item pool.jobs h.job (stepped_job (job_of pool h.job) h.id value (Some goes_on)) }) h.job)
stands_at_goes_on script past pool seat value goes_on h can = stands_with_job script past pool e h.job new pool.groups pool.tracker pool.holders
    stands known.declared refl
    (past_at_step script past seat h.job h.id h.item value (Some goes_on)
    (inside_at_step script past seat value h (Some goes_on) can.holds stands.past_fits.inside) stands.past_fits)
    (λ x other. job_at_other_step script past e x h.job h.id h.item value (Some goes_on) refl other (rw can.holds (eqb-same h.job)))
    is (jobs_at_step script past seat value h (Some goes_on) pool.jobs.items new stands.jobs known.declared can.holds is)
    (groups (nat_lt 0 seat) refl)
    (stands.tracker ∙ sym (tracked_at_goes_on script past seat value goes_on h known.known can.holds))
    (holders_at_goes_on script past seat value goes_on h pool.holders.items stands.holders can.holds)
  where
    stands : StandsFor script past pool
    stands = can.stands

    known : HoldsItem script past seat h
    known = stands.past_fits.inside.holds seat h can.holds

    e : Entry
    e = record { seat = seat; kind = kinds.JobStep h.job h.id h.item value (Some goes_on) }

    new : PoolJob
    new = stepped_job (job_of pool h.job) h.id value (Some goes_on)

    is : job_as script (past ++ e ∷ []) h.job ≡ new
    is = step_is value (Some goes_on) can

    groups : (b : Bool) → nat_lt 0 seat ≡ b → AreGroups script (past ++ e ∷ []) pool.groups
    groups true worker = groups_at_goes_on script past pool.groups seat value goes_on h stands.groups (ltb-true 0 seat worker)
        (stands.past_fits.inside.one_thing seat h (ltb-true 0 seat worker) can.holds) can.holds
    groups false driver = groups_at_driver script past e pool.groups refl (omega (arith, ltb-false 0 seat driver)) stands.groups

-- what an accepted job that is over counts no more
over_share : (share : ℕ) (over : Bool) → cond (true && not (true && not over)) share 0 ≡ cond over share 0
over_share share true = refl
over_share share false = refl

pub left_share_is : {script : Plan} {past : List Entry} {pool : Pool} {seat : ℕ} {h : Holding} (value : ℕ) → CanStep script past pool seat h
    → settled_share (stepped_job (job_of pool h.job) h.id value None) true ≡ left_share script (after_step past seat h value None) h.job
left_share_is {script = script} {past = past} {pool = pool} {seat = seat} {h = h} value can =
    ap (λ job. settled_share job true) (sym (step_is value None can))
    ∙ ap (λ b. cond (true && not b) (block_share (behaviour_of_job script h.job)) 0)
    (open_is script later h.job (inside_at_step script past seat value h None can.holds can.stands.past_fits.inside)
    ∙ ap (λ b. b && not (is_over script later h.job)) (accepted_grows past e h.job known.accepted))
    ∙ over_share (block_share (behaviour_of_job script h.job)) (is_over script later h.job)
  where
    known : HoldsItem script past seat h
    known = can.stands.past_fits.inside.holds seat h can.holds

    e : Entry
    e = record { seat = seat; kind = kinds.JobStep h.job h.id h.item value None }

    later : List Entry
    later = past ++ e ∷ []

-- it leaves
pub stands_at_left : (script : Plan) (past : List Entry) (pool : Pool) (seat value : ℕ) (h : Holding) → CanStep script past pool seat h
    → StandsFor script (after_step past seat h value None)
    (job_refreshed (record pool {
      jobs = with_item pool.jobs h.job (stepped_job (job_of pool h.job) h.id value None);
      groups = with_item_ended pool seat;
      tracker = record pool.tracker {
        block_items = pool.tracker.block_items - settled_share (stepped_job (job_of pool h.job) h.id value None) true;
        skip_items = pool.tracker.skip_items - skip_share (behaviour_of_job script h.job);
      };
      holders = with_item pool.holders seat None;
    }) h.job)
stands_at_left script past pool seat value h can = stands_with_job script past pool e h.job new _ _ (with_item pool.holders seat None)
    stands known.declared refl
    (past_at_step script past seat h.job h.id h.item value None
    (inside_at_step script past seat value h None can.holds stands.past_fits.inside) stands.past_fits)
    (λ x other. job_at_other_step script past e x h.job h.id h.item value None refl other (rw can.holds (eqb-same h.job)))
    is (jobs_at_step script past seat value h None pool.jobs.items new stands.jobs known.declared can.holds is)
    (groups (nat_lt 0 seat) refl)
    (rw (tracked_at_left script past seat value h known.known can.holds known.declared known.accepted, stands.tracker, left_share_is value can) refl)
    (holders_at_left script past seat value h pool.holders.items stands.holders known.known)
  where
    stands : StandsFor script past pool
    stands = can.stands

    known : HoldsItem script past seat h
    known = stands.past_fits.inside.holds seat h can.holds

    e : Entry
    e = record { seat = seat; kind = kinds.JobStep h.job h.id h.item value None }

    new : PoolJob
    new = stepped_job (job_of pool h.job) h.id value None

    is : job_as script (past ++ e ∷ []) h.job ≡ new
    is = step_is value None can

    groups : (b : Bool) → nat_lt 0 seat ≡ b → AreGroups script (past ++ e ∷ [])
        (cond b (with_group_at pool.groups seat (with_work (group_at pool.groups seat) seat None)) pool.groups)
    groups true worker = groups_at_item_left script past pool.groups seat value h stands.script_fits stands.groups (ltb-true 0 seat worker) known.known
        (stands.past_fits.inside.one_thing seat h (ltb-true 0 seat worker) can.holds) can.holds
    groups false driver = groups_at_driver script past e pool.groups refl (omega (arith, ltb-false 0 seat driver)) stands.groups

-- so the pool is, whose job is read where it was put
left_pool : {script : Plan} {past : List Entry} {pool : Pool} {seat : ℕ} {h : Holding} (new : PoolJob) → CanStep script past pool seat h
    → new.behaviour ≡ behaviour_of_job script h.job
    → job_left (record pool { jobs = with_item pool.jobs h.job new }) seat h.job
    ≡ record pool {
      jobs = with_item pool.jobs h.job new;
      groups = with_item_ended pool seat;
      tracker = record pool.tracker {
        block_items = pool.tracker.block_items - settled_share new true;
        skip_items = pool.tracker.skip_items - skip_share (behaviour_of_job script h.job);
      };
      holders = with_item pool.holders seat None;
    }
left_pool {script = script} {past = past} {pool = pool} {seat = seat} {h = h} new can behaviour =
    ap (λ (job : PoolJob). left job.behaviour job) (get_or-set_same pool.jobs.items h.job new no_job (omega (arith, declared, can.stands.jobs.all)))
    ∙ ap (λ b. left b new) behaviour
  where
    declared : h.job < length script.jobs
    declared = (can.stands.past_fits.inside.holds seat h can.holds).declared

    left : Behaviour → PoolJob → Pool
    left behaviour job = record pool {
      jobs = with_item pool.jobs h.job new;
      groups = with_item_ended pool seat;
      tracker = record pool.tracker {
        block_items = pool.tracker.block_items - settled_share job true;
        skip_items = pool.tracker.skip_items - skip_share behaviour;
      };
      holders = with_item pool.holders seat None;
    }

-- so that is what the pool stands for
pub stands_at_job_left : (script : Plan) (past : List Entry) (pool : Pool) (seat value : ℕ) (h : Holding) → CanStep script past pool seat h
    → StandsFor script (after_step past seat h value None)
    (job_refreshed (job_left (record pool { jobs = with_item pool.jobs h.job (stepped_job (job_of pool h.job) h.id value None) }) seat h.job) h.job)
stands_at_job_left script past pool seat value h can =
    let job = job_is h.job can.stands (can.stands.past_fits.inside.holds seat h can.holds).declared in
    subst (λ p. StandsFor script (after_step past seat h value None) (job_refreshed p h.job))
    (sym (left_pool (stepped_job (job_of pool h.job) h.id value None) can (ap (λ (j : PoolJob). j.behaviour) job)))
    (stands_at_left script past pool seat value h can)

-- A job is cancelled.

-- the job behind its cancel
abbrev pub cancelled_job : PoolJob → PoolJob
cancelled_job job = record job { source = record job.source { cancelled = true } }

-- what an accepted job that nobody is inside counts no more, where it was not over
closed_share : (share : ℕ) (accepted over empty : Bool)
    → cond ((accepted && not over) && not (accepted && not empty)) share 0 ≡ cond (accepted && empty && not over) share 0
closed_share share false over empty = refl
closed_share share true true true = refl
closed_share share true true false = refl
closed_share share true false true = refl
closed_share share true false false = refl

cancel_is : {script : Plan} {past : List Entry} {pool : Pool} {job : ℕ} (seat : ℕ) → KnowsJob script past pool job
    → job_as script (after_job_cancel past seat job) job ≡ cancelled_job (job_of pool job)
cancel_is {script = script} {past = past} {job = job} seat can =
    as_at_cancel script past seat job ∙ ap cancelled_job (sym (job_is job can.stands can.declared))

-- once it is cancelled it is over where nobody is inside
over_at_cancel : (script : Plan) (past : List Entry) (seat job : ℕ) → is_over script (after_job_cancel past seat job) job ≡ is_empty script past job
over_at_cancel script past seat job =
    let e : Entry = record { seat = seat; kind = kinds.JobCancel job } in
    rw (inside_same script past e job refl, is_cancelled_push past e job, eqb-same job, or-true, or-true) (and-true (is_empty script past job))

pub cancel_share_is : {script : Plan} {past : List Entry} {pool : Pool} {job : ℕ} → KnowsJob script past pool job
    → settled_share (cancelled_job (job_of pool job)) (is_open (job_of pool job)) ≡ cancel_share script past job
cancel_share_is {script = script} {past = past} {pool = pool} {job = job} can =
    ap (λ held. settled_share (cancelled_job (job_of pool job)) (is_open held)) (job_is job can.stands can.declared)
    ∙ ap (λ b. settled_share (cancelled_job (job_of pool job)) b) (open_is script past job can.stands.past_fits.inside)
    ∙ ap (λ held. settled_share held (is_job_accepted past job && not (is_over script past job))) (sym (cancel_is 0 can))
    ∙ ap (λ b. cond ((is_job_accepted past job && not (is_over script past job)) && not b) (block_share (behaviour_of_job script job)) 0)
    (open_is script later job (past_at_job_cancel script past 0 job can.stands.past_fits).inside
    ∙ ap (λ b. b && not (is_over script later job)) accepted ∙ ap (λ b. is_job_accepted past job && not b) (over_at_cancel script past 0 job))
    ∙ closed_share (block_share (behaviour_of_job script job)) (is_job_accepted past job) (is_over script past job) (is_empty script past job)
  where
    e : Entry
    e = record { seat = 0; kind = kinds.JobCancel job }

    later : List Entry
    later = past ++ e ∷ []

    accepted : is_job_accepted later job ≡ is_job_accepted past job
    accepted = ap (holds_of (λ p. p.ok)) (job_post_of_push past e job ∙ post_stays job past (job_post_of past job) e.kind refl)

pub stands_at_job_cancel : (script : Plan) (past : List Entry) (pool : Pool) (seat job : ℕ) → KnowsJob script past pool job
    → StandsFor script (after_job_cancel past seat job)
    (job_refreshed (record pool {
      jobs = with_item pool.jobs job (cancelled_job (job_of pool job));
      tracker = record pool.tracker {
        block_items = pool.tracker.block_items - settled_share (cancelled_job (job_of pool job)) (is_open (job_of pool job));
      };
    }) job)
stands_at_job_cancel script past pool seat job can = stands_with_job script past pool e job new pool.groups _ pool.holders stands can.declared
    refl (past_at_job_cancel script past seat job stands.past_fits)
    (λ x other. job_at_other_cancel script past e x job refl other)
    is (jobs_at_cancel script past seat job pool.jobs.items new stands.jobs can.declared is)
    (groups_kept script past e pool.groups refl stands.groups)
    (rw (tracked_at_cancel script past seat job can.declared, stands.tracker, cancel_share_is can) refl)
    (holders_kept script past e pool.holders.items refl stands.holders)
  where
    stands : StandsFor script past pool
    stands = can.stands

    e : Entry
    e = record { seat = seat; kind = kinds.JobCancel job }

    new : PoolJob
    new = cancelled_job (job_of pool job)

    is : job_as script (past ++ e ∷ []) job ≡ new
    is = cancel_is seat can
