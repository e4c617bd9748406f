-- The tables of jobs as the past grows.
-- Cited by `Calls/EmptyPool`, `Calls/Ends`, `Calls/Kept`, `Calls/Posts`, `Calls/Reprio`, `Calls/Shutdown`, `Calls/Takes`, `Calls/Ticks`,
-- `Jobs/JobStands`, `Jobs/JobSteps`.
use Rattle.job_source.specs.Job.{with_done, with_entered}
use Rattle.list_laws.proofs.Places.{slice_get-replicate, slice_get-set_other, slice_get-set_same}
use Rattle.list_laws.proofs.Values.{eqb-same}
use Rattle.pool_core.proofs.Jobs.HeldItems.{held_at_other_step, held_at_other_take, held_at_step, held_at_take, held_kept}
use Rattle.pool_core.specs.Holdings.{AreInside, held_in}
use Rattle.pool_core.specs.JobCalls.{after_job_cancel, after_job_post, after_step}
use Rattle.pool_core.specs.Jobs.{AreHolders, AreJobs, holder_as, job_as, view_of}
use Rattle.pool_core.specs.declared.pool_job.Holder.{Holder}
use Rattle.pool_core.specs.declared.pool_job.PoolJob.{PoolJob}
use Rattle.pool_laws.proofs.Jobs.Answers.{job_at_other_cancel, job_at_other_post, job_at_other_step, job_at_other_take, post_stays}
use Rattle.pool_laws.proofs.Seats.Running.{holding_here, holding_other, holding_same}
use Rattle.pool_laws.specs.Jobs.{JobKept}
use Rattle.pool_laws.specs.Seats.{moves_holding}
use Rattle.pool_laws.specs.Shutdown.{moves_open_jobs, open_job_parts}
use Rattle.std.proofs.Common.{Bool, List, None, Option, Some, [], ap, arith, eqb, false, length, refl, sym, true, ℕ, ◌++◌, ◌+◌, ◌<◌, ◌∙◌, ◌∷◌, ◌≡◌, ◌≤◌}
use Rattle.std.proofs.Math.Bool.{or-false, or-true}
use Rattle.std.proofs.Math.Nat.{add-zero}
use Rattle.std.proofs.lemmas.Bool.{eqb-false, eqb-true}
use Rattle.std.proofs.lemmas.List.{length-replicate, length-set}
use Rattle.std.specs.Option.{option_map}
use Rattle.std.specs.Prelude.{replicate, slice_get, slice_set, ◌==◌}
use Rattle.task_base.specs.Plan.{Plan}
use Rattle.task_base.specs.declared.entry.Entry.{Entry}
use Rattle.task_base.specs.declared.entry.Kind.TheVariants as kinds
use Rattle.task_base.specs.Entries.{next}
use Rattle.task_model.proofs.Growth.{claimed_push, done_push, is_cancelled_push, job_post_of_push, job_sum_push}
use Rattle.task_model.specs.Jobs.{claimed, done, is_cancelled, job_post_of}
use Rattle.task_model.specs.Seats.{Holding, holding, holding_after}
use Rattle.pool_laws.specs.Moves.{Items}
use Rattle.pool_laws.proofs.Moves.{moves_fewer, no_job_post, no_cancel, no_claim, no_value}

-- One job at each entry.

-- a job of which a later past says the same, with the same items held
as_kept : (script : Plan) (past later : List Entry) (j : ℕ) → JobKept script past later j → held_in script later j ≡ held_in script past j
    → job_as script later j ≡ job_as script past j
as_kept script past later j kept held = rw (kept.post, kept.cancelled, kept.claims_same, kept.done_same, kept.sum_same, held) refl

-- an entry of no job
as_beside : (script : Plan) (past : List Entry) (e : Entry) (j : ℕ) → moves_open_jobs e.kind ≡ false → job_as script (past ++ e ∷ []) j ≡ job_as script past j
as_beside script past e j quiet = rw (
  job_post_of_push past e j,
  post_stays j past (job_post_of past j) e.kind (no_job_post open_job_parts e.kind refl quiet j),
  is_cancelled_push past e j,
  no_cancel open_job_parts e.kind refl quiet j,
  or-false (is_cancelled past j),
  claimed_push past e j,
  no_claim open_job_parts e.kind refl quiet j,
  add-zero (claimed past j),
  done_push past e j,
  job_sum_push past e j,
  no_value open_job_parts e.kind refl quiet j,
  add-zero (done past j),
  held_kept script past e j (moves_fewer (Items ∷ []) open_job_parts e.kind refl quiet),
) refl

-- its post
pub as_at_post : (script : Plan) (past : List Entry) (seat job : ℕ) (ok : Bool) → job_post_of past job ≡ None
    → job_as script (after_job_post past seat job ok) job ≡ record (job_as script past job) { post = Some (record { place = length past; ok = ok }) }
as_at_post script past seat job ok new =
    let e : Entry = record { seat = seat; kind = kinds.JobPost job ok } in
    rw (
      job_post_of_push past e job,
      new,
      eqb-same job,
      is_cancelled_push past e job,
      or-false (is_cancelled past job),
      claimed_push past e job,
      add-zero (claimed past job),
      done_push past e job,
      job_sum_push past e job,
      add-zero (done past job),
      held_kept script past e job refl,
    ) refl

-- a seat enters it
pub as_at_take : (script : Plan) (past : List Entry) (seat job id : ℕ) → id < 32 → holding past seat ≡ None
    → AreInside script (next past seat (kinds.JobTake job id (claimed past job)))
    → job_as script (next past seat (kinds.JobTake job id (claimed past job))) job
    ≡ record (job_as script past job) { source = with_entered (view_of script past job) (Some (id, claimed past job)) }
as_at_take script past seat job id fits nothing inside =
    let e : Entry = record { seat = seat; kind = kinds.JobTake job id (claimed past job) } in
    rw (
      held_at_take script past seat job id (claimed past job) fits nothing inside,
      job_post_of_push past e job,
      post_stays job past (job_post_of past job) e.kind refl,
      is_cancelled_push past e job,
      or-false (is_cancelled past job),
      claimed_push past e job,
      eqb-same job,
      done_push past e job,
      job_sum_push past e job,
      add-zero (done past job),
    ) refl

-- a seat inside it ends its item
pub as_at_step : (script : Plan) (past : List Entry) (seat value : ℕ) (h : Holding) (goes_on : Option ℕ) → AreInside script past → holding past seat ≡ Some h
    → AreInside script (after_step past seat h value goes_on)
    → job_as script (after_step past seat h value goes_on) h.job
    ≡ record (job_as script past h.job) { source = with_done (view_of script past h.job) h.id value goes_on }
as_at_step script past seat value h goes_on before is after =
    let e : Entry = record { seat = seat; kind = kinds.JobStep h.job h.id h.item value goes_on } in
    rw (
      held_at_step script past seat value h goes_on before is after,
      job_post_of_push past e h.job,
      post_stays h.job past (job_post_of past h.job) e.kind refl,
      is_cancelled_push past e h.job,
      or-false (is_cancelled past h.job),
      claimed_push past e h.job,
      done_push past e h.job,
      job_sum_push past e h.job,
      eqb-same h.job,
    ) refl

-- it is cancelled
pub as_at_cancel : (script : Plan) (past : List Entry) (seat job : ℕ)
    → job_as script (after_job_cancel past seat job) job ≡ record (job_as script past job) { source = record (view_of script past job) { cancelled = true } }
as_at_cancel script past seat job =
    let e : Entry = record { seat = seat; kind = kinds.JobCancel job } in
    rw (
      job_post_of_push past e job,
      post_stays job past (job_post_of past job) e.kind refl,
      is_cancelled_push past e job,
      eqb-same job,
      or-true (is_cancelled past job),
      claimed_push past e job,
      add-zero (claimed past job),
      done_push past e job,
      job_sum_push past e job,
      add-zero (done past job),
      held_kept script past e job refl,
    ) refl

-- The table of the jobs.

-- one job changes
jobs_changed : (script : Plan) (past later : List Entry) (jobs : List PoolJob) (job : ℕ) (new : PoolJob) → AreJobs script past jobs → job < length script.jobs
    → job_as script later job ≡ new → ((x : ℕ) → (job == x) ≡ false → job_as script later x ≡ job_as script past x)
    → AreJobs script later (slice_set jobs job new)
jobs_changed script past later jobs job new are declared is others = record { all = rw length-set are.all; each = λ x less. at_each x less (job == x) refl }
  where
    at_each : (x : ℕ) → x < length script.jobs → (b : Bool) → (job == x) ≡ b → slice_get (slice_set jobs job new) x ≡ Some (job_as script later x)
    at_each x less true here = rw (← eqb-true job x here, is) (slice_get-set_same jobs job new (omega (arith, declared, are.all)))
    at_each x less false other = rw (slice_get-set_other jobs job x new (eqb-false job x other), others x other) (are.each x less)

-- an entry of no job leaves them
pub jobs_kept : (script : Plan) (past : List Entry) (e : Entry) (jobs : List PoolJob) → moves_open_jobs e.kind ≡ false → AreJobs script past jobs
    → AreJobs script (past ++ e ∷ []) jobs
jobs_kept script past e jobs quiet are = record { all = are.all; each = λ j less. rw (as_beside script past e j quiet) (are.each j less) }

pub jobs_at_post : (script : Plan) (past : List Entry) (seat job : ℕ) (ok : Bool) (jobs : List PoolJob) (new : PoolJob) → AreJobs script past jobs
    → job < length script.jobs → job_as script (after_job_post past seat job ok) job ≡ new
    → AreJobs script (after_job_post past seat job ok) (slice_set jobs job new)
jobs_at_post script past seat job ok jobs new are declared is =
    let e : Entry = record { seat = seat; kind = kinds.JobPost job ok } in
    jobs_changed script past (past ++ e ∷ []) jobs job new are declared is (λ x other. as_kept script past (past ++ e ∷ []) x
    (job_at_other_post script past e x job ok refl other) (held_kept script past e x refl))

pub jobs_at_take : (script : Plan) (past : List Entry) (seat job id item : ℕ) (jobs : List PoolJob) (new : PoolJob) → AreJobs script past jobs
    → job < length script.jobs → holding past seat ≡ None → job_as script (next past seat (kinds.JobTake job id item)) job ≡ new
    → AreJobs script (next past seat (kinds.JobTake job id item)) (slice_set jobs job new)
jobs_at_take script past seat job id item jobs new are declared nothing is =
    let e : Entry = record { seat = seat; kind = kinds.JobTake job id item } in
    jobs_changed script past (past ++ e ∷ []) jobs job new are declared is (λ x other. as_kept script past (past ++ e ∷ []) x
    (job_at_other_take script past e x job id item refl other nothing) (held_at_other_take script past seat x job id item other nothing))

pub jobs_at_step : (script : Plan) (past : List Entry) (seat value : ℕ) (h : Holding) (goes_on : Option ℕ) (jobs : List PoolJob) (new : PoolJob)
    → AreJobs script past jobs → h.job < length script.jobs → holding past seat ≡ Some h → job_as script (after_step past seat h value goes_on) h.job ≡ new
    → AreJobs script (after_step past seat h value goes_on) (slice_set jobs h.job new)
jobs_at_step script past seat value h goes_on jobs new are declared held is =
    let e : Entry = record { seat = seat; kind = kinds.JobStep h.job h.id h.item value goes_on } in
    jobs_changed script past (past ++ e ∷ []) jobs h.job new are declared is (λ x other. as_kept script past (past ++ e ∷ []) x
    (job_at_other_step script past e x h.job h.id h.item value goes_on refl other (rw held (eqb-same h.job)))
    (held_at_other_step script past seat x value h goes_on other held))

pub jobs_at_cancel : (script : Plan) (past : List Entry) (seat job : ℕ) (jobs : List PoolJob) (new : PoolJob) → AreJobs script past jobs
    → job < length script.jobs → job_as script (after_job_cancel past seat job) job ≡ new
    → AreJobs script (after_job_cancel past seat job) (slice_set jobs job new)
jobs_at_cancel script past seat job jobs new are declared is =
    let e : Entry = record { seat = seat; kind = kinds.JobCancel job } in
    jobs_changed script past (past ++ e ∷ []) jobs job new are declared is (λ x other. as_kept script past (past ++ e ∷ []) x
    (job_at_other_cancel script past e x job refl other) (held_kept script past e x refl))

-- The table of the seats inside jobs.

pub holders_at_start : (script : Plan) → AreHolders script [] (replicate (script.workers + 1) None)
unfolding holding
holders_at_start script = record {
  all = length-replicate (script.workers + 1) None;
  holds = λ seat less. slice_get-replicate (script.workers + 1) seat None less;
}

-- the entry's seat is inside this job after it, or in none
holders_changed : (script : Plan) (past : List Entry) (e : Entry) (holders : List (Option Holder)) (new : Option Holder) → AreHolders script past holders
    → e.seat ≤ script.workers → option_map holder_as (holding_after (holding past e.seat) e.kind) ≡ new
    → AreHolders script (past ++ e ∷ []) (slice_set holders e.seat new)
holders_changed script past e holders new are known is = record { all = rw length-set are.all; holds = λ seat less. by_seat seat less (eqb e.seat seat) refl }
  where
    by_seat : (seat : ℕ) → seat < script.workers + 1 → (b : Bool) → eqb e.seat seat ≡ b
        → slice_get (slice_set holders e.seat new) seat ≡ Some (option_map holder_as (holding (past ++ e ∷ []) seat))
    by_seat seat less true here = rw (holding_here past e seat here, is, ← eqb-true e.seat seat here)
        (slice_get-set_same holders e.seat new (omega (arith, known, are.all)))
    by_seat seat less false other = rw (holding_other past e seat other, slice_get-set_other holders e.seat seat new (eqb-false e.seat seat other))
        (are.holds seat less)

pub holders_kept : (script : Plan) (past : List Entry) (e : Entry) (holders : List (Option Holder)) → moves_holding e.kind ≡ false
    → AreHolders script past holders → AreHolders script (past ++ e ∷ []) holders
holders_kept script past e holders still are = record { all = are.all; holds = λ seat less. rw (holding_same past e seat still) (are.holds seat less) }

pub holders_at_take : (script : Plan) (past : List Entry) (seat job id item : ℕ) (holders : List (Option Holder)) → AreHolders script past holders
    → seat ≤ script.workers
    → AreHolders script (next past seat (kinds.JobTake job id item)) (slice_set holders seat (Some (record { job = job; id = id })))
holders_at_take script past seat job id item holders are known =
    holders_changed script past (record { seat = seat; kind = kinds.JobTake job id item }) holders (Some (record { job = job; id = id })) are known refl

pub holders_at_left : (script : Plan) (past : List Entry) (seat value : ℕ) (h : Holding) (holders : List (Option Holder)) → AreHolders script past holders
    → seat ≤ script.workers → AreHolders script (after_step past seat h value None) (slice_set holders seat None)
holders_at_left script past seat value h holders are known =
    holders_changed script past (record { seat = seat; kind = kinds.JobStep h.job h.id h.item value None }) holders None are known refl

pub holders_at_goes_on : (script : Plan) (past : List Entry) (seat value goes_on : ℕ) (h : Holding) (holders : List (Option Holder))
    → AreHolders script past holders → holding past seat ≡ Some h → AreHolders script (after_step past seat h value (Some goes_on)) holders
holders_at_goes_on script past seat value goes_on h holders are held =
    record { all = are.all; holds = λ x less. rw (at_each x (eqb seat x) refl) (are.holds x less) }
  where
    e : Entry
    e = record { seat = seat; kind = kinds.JobStep h.job h.id h.item value (Some goes_on) }

    at_each : (x : ℕ) (b : Bool) → eqb seat x ≡ b → option_map holder_as (holding (past ++ e ∷ []) x) ≡ option_map holder_as (holding past x)
    at_each x true here = ap (option_map holder_as) (holding_here past e x here)
        ∙ sym (ap (λ s. option_map holder_as (holding past s)) (sym (eqb-true seat x here)) ∙ ap (option_map holder_as) held)
    at_each x false other = ap (option_map holder_as) (holding_other past e x other)
