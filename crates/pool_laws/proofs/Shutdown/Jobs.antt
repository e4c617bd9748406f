-- What one more entry does to the counts of the jobs that shutdown waits for, and of the seats inside skip jobs. An
-- accepted block job counts from its post on until it is over, at the last leaving or at its cancel; a seat counts from
-- where it enters a skip job on, until it leaves.
-- Cited by `Shutdown/Blockers`.
use Rattle.std.proofs.Common.{◌≡◌, ℕ, ◌+◌, ◌<◌, Bool, true, false, eqb, List, [], ◌∷◌, ◌++◌, length, refl, sym, ap, Option, Some, None, arith}
use Rattle.std.specs.Prelude.{Contains, not, ◌&&◌, ◌||◌}
use Rattle.std.specs.List.{range_with_len}
use Rattle.std.proofs.Math.Bool.{or-false, and-true, and-false, or-true}
use Rattle.std.proofs.Math.Nat.{add-zero}
use Rattle.std.proofs.lemmas.Bool.{false≢true, eqb-true, ne_eqb}
use Rattle.task_base.specs.Plan.{Plan}
use Rattle.task_base.specs.declared.entry.Entry.{Entry}
use Rattle.task_base.specs.declared.entry.Kind.TheVariants.{JobPost, JobTake, JobStep, JobCancel}
use Rattle.list_laws.specs.Lists.{holds_of}
use Rattle.task_model.specs.Refusal.{behaviour_of_job}
use Rattle.task_model.specs.Seats.{Holding, holding, holding_after, all_seats, inside}
use Rattle.task_model.specs.Jobs.{job_post_of, is_cancelled, done, is_job_accepted, is_finished_job, is_empty, is_over}
use Rattle.task_model.specs.Blockers.{open_jobs, seats_in_skip_jobs, is_block, is_skip, is_open_job, is_in_skip_job}
use Rattle.pool_laws.specs.Seats.{moves_holding, IsSeat, holds_job}
use Rattle.pool_laws.specs.Room.{share}
use Rattle.pool_laws.specs.Jobs.{posts_job, JobKept}
use Rattle.pool_laws.specs.Shutdown.{moves_open_jobs, open_job_parts}
use Rattle.task_model.proofs.Growth.{job_post_of_push, is_cancelled_push, done_push}
use Rattle.list_laws.proofs.Counts.{filter_length_congr, count_change}
use Rattle.list_laws.proofs.Made.{contains_filter, contains_range}
use Rattle.list_laws.proofs.Ranges.{range_with}
use Rattle.list_laws.proofs.Values.{eqb-same}
use Rattle.pool_laws.proofs.Seats.Running.{holding_same, holding_here, holding_other, seat_once, inside_same}
use Rattle.pool_laws.proofs.Jobs.Answers.{post_stays, job_at_other_post, job_at_other_take, job_at_other_step, job_at_other_cancel}
use Rattle.pool_laws.specs.Moves.{Items}
use Rattle.pool_laws.proofs.Moves.{moves_fewer, no_job_post, no_cancel, no_value}

-- Open block jobs.

-- a job of which a later past says the same is open as before
open_job_kept : (script : Plan) (past later : List Entry) (j : ℕ) → JobKept script past later j → is_open_job script later j ≡ is_open_job script past j
open_job_kept script past later j kept = rw (kept.post, kept.inside_now, kept.done_same, kept.cancelled) refl

-- the open jobs, where each job but one is open as before: by that one before and after
open_jobs_change : (script : Plan) (past later : List Entry) (job : ℕ) (b c : Bool) → job < length script.jobs → is_open_job script past job ≡ b
    → is_open_job script later job ≡ c → ((x : ℕ) → eqb job x ≡ false → JobKept script past later x)
    → open_jobs script past + share c ≡ open_jobs script later + share b
open_jobs_change script past later job b c lt before after others =
    count_change (λ x. eqb job x) (is_open_job script past) (is_open_job script later) b c (range_with_len 0 (length script.jobs))
    (range_with job 0 (length script.jobs) (omega arith) (omega (arith, lt)))
    (λ x here. rw (← eqb-true job x here) before)
    (λ x here. rw (← eqb-true job x here) after)
    (λ x other. sym (open_job_kept script past later x (others x other)))

-- the open jobs, where that one is open as before too
open_jobs_kept : (script : Plan) (past later : List Entry) (job : ℕ) → is_open_job script later job ≡ is_open_job script past job
    → ((x : ℕ) → eqb job x ≡ false → JobKept script past later x) → open_jobs script later ≡ open_jobs script past
open_jobs_kept script past later job same others =
    filter_length_congr (is_open_job script later) (is_open_job script past) (range_with_len 0 (length script.jobs)) (λ x. at_each x (eqb job x) refl)
  where
    at_each : (x : ℕ) (b : Bool) → eqb job x ≡ b → is_open_job script later x ≡ is_open_job script past x
    at_each x true here = rw (← eqb-true job x here) same
    at_each x false other = open_job_kept script past later x (others x other)

-- a job that a seat holds an item of is not over
busy : (script : Plan) (past : List Entry) (seat job : ℕ) → IsSeat script seat → holds_job past seat job ≡ true → is_over script past job ≡ false
unfolding inside
busy script past seat job is held =
    let at : Contains (inside script past job) seat = contains_filter (λ x. holds_job past x job) (all_seats script) seat
    (contains_range (script.workers + 1) seat is) held in
    let some : at.0 < length (inside script past job) = at.1 in
    rw (ne_eqb (length (inside script past job)) 0 (λ none. omega (arith, none, some))) refl

open_of_busy : (script : Plan) (past : List Entry) (job : ℕ) → is_over script past job ≡ false
    → is_open_job script past job ≡ (is_block (behaviour_of_job script job) && is_job_accepted past job)
open_of_busy script past job is = rw is (and-true (is_block (behaviour_of_job script job) && is_job_accepted past job))

-- an entry that does not post the job leaves whether it was accepted
accepted_kept : (past : List Entry) (e : Entry) (job : ℕ) → posts_job job e.kind ≡ false → is_job_accepted (past ++ e ∷ []) job ≡ is_job_accepted past job
accepted_kept past e job no_post = rw (job_post_of_push past e job, post_stays job past (job_post_of past job) e.kind no_post) refl

pub open_jobs_same : (script : Plan) (past : List Entry) (e : Entry) → moves_open_jobs e.kind ≡ false
    → open_jobs script (past ++ e ∷ []) ≡ open_jobs script past
open_jobs_same script past e quiet =
    filter_length_congr (is_open_job script (past ++ e ∷ [])) (is_open_job script past) (range_with_len 0 (length script.jobs))
    (λ j. rw (
      job_post_of_push past e j,
      post_stays j past (job_post_of past j) e.kind (no_job_post open_job_parts e.kind refl quiet j),
      inside_same script past e j (moves_fewer (Items ∷ []) open_job_parts e.kind refl quiet),
      done_push past e j,
      no_value open_job_parts e.kind refl quiet j,
      add-zero (done past j),
      is_cancelled_push past e j,
      no_cancel open_job_parts e.kind refl quiet j,
      or-false (is_cancelled past j),
    ) refl)

-- a block job counts from its post on
pub open_jobs_at_post : (script : Plan) (past : List Entry) (e : Entry) (job : ℕ) (ok : Bool) → e.kind ≡ JobPost job ok → job < length script.jobs
    → job_post_of past job ≡ None
    → open_jobs script (past ++ e ∷ []) ≡ open_jobs script past + share (is_block (behaviour_of_job script job) && ok && not (is_over script past job))
open_jobs_at_post script past e job ok is lt new =
    let change : open_jobs script past + share (is_block (behaviour_of_job script job) && ok && not (is_over script past job))
    ≡ open_jobs script (past ++ e ∷ []) + share false =
    open_jobs_change script past (past ++ e ∷ []) job false (is_block (behaviour_of_job script job) && ok && not (is_over script past job)) lt before after
    (λ x other. job_at_other_post script past e x job ok is other) in
    omega (arith, change)
  where
    before : is_open_job script past job ≡ false
    before = rw (new, and-false (is_block (behaviour_of_job script job))) refl

    after : is_open_job script (past ++ e ∷ []) job ≡ (is_block (behaviour_of_job script job) && ok && not (is_over script past job))
    after = rw (
      job_post_of_push past e job,
      done_push past e job,
      is_cancelled_push past e job,
      inside_same script past e job (ap moves_holding is),
      is,
      new,
      eqb-same job,
      add-zero (done past job),
      or-false (is_cancelled past job),
    ) refl

-- a seat that enters leaves them
pub open_jobs_at_take : (script : Plan) (past : List Entry) (e : Entry) (job id item : ℕ) → e.kind ≡ JobTake job id item → IsSeat script e.seat
    → holding past e.seat ≡ None → is_over script past job ≡ false → open_jobs script (past ++ e ∷ []) ≡ open_jobs script past
open_jobs_at_take script past e job id item is seat free not_over =
    open_jobs_kept script past (past ++ e ∷ []) job here (λ x other. job_at_other_take script past e x job id item is other free)
  where
    now_busy : is_over script (past ++ e ∷ []) job ≡ false
    now_busy = busy script (past ++ e ∷ []) e.seat job seat (rw (holding_here past e e.seat (eqb-same e.seat), is) (eqb-same job))

    here : is_open_job script (past ++ e ∷ []) job ≡ is_open_job script past job
    here = rw (open_of_busy script (past ++ e ∷ []) job now_busy, open_of_busy script past job not_over, accepted_kept past e job (ap (posts_job job) is)) refl

-- and so does a seat that goes on to its next item
pub open_jobs_at_step : (script : Plan) (past : List Entry) (e : Entry) (job id item value next : ℕ) → e.kind ≡ JobStep job id item value (Some next)
    → IsSeat script e.seat → holds_job past e.seat job ≡ true → open_jobs script (past ++ e ∷ []) ≡ open_jobs script past
open_jobs_at_step script past e job id item value next is seat held =
    open_jobs_kept script past (past ++ e ∷ []) job here (λ x other. job_at_other_step script past e x job id item value (Some next) is other held)
  where
    still_busy : is_over script (past ++ e ∷ []) job ≡ false
    still_busy = busy script (past ++ e ∷ []) e.seat job seat (rw (holding_here past e e.seat (eqb-same e.seat), is) (eqb-same job))

    here : is_open_job script (past ++ e ∷ []) job ≡ is_open_job script past job
    here = rw (
      open_of_busy script (past ++ e ∷ []) job still_busy,
      open_of_busy script past job (busy script past e.seat job seat held),
      accepted_kept past e job (ap (posts_job job) is),
    ) refl

-- a job that is over once its last seat has left counts no more
pub open_jobs_at_leave : (script : Plan) (past : List Entry) (e : Entry) (job id item value : ℕ) → e.kind ≡ JobStep job id item value None
    → IsSeat script e.seat → holds_job past e.seat job ≡ true → job < length script.jobs
    → open_jobs script past ≡ open_jobs script (past ++ e ∷ [])
    + share (is_block (behaviour_of_job script job) && is_job_accepted past job && is_over script (past ++ e ∷ []) job)
open_jobs_at_leave script past e job id item value is seat held lt =
    parted (open_jobs script past) (open_jobs script (past ++ e ∷ [])) (is_block (behaviour_of_job script job) && is_job_accepted past job)
    (is_over script (past ++ e ∷ []) job)
    (open_jobs_change script past (past ++ e ∷ []) job (is_block (behaviour_of_job script job) && is_job_accepted past job)
    (is_block (behaviour_of_job script job) && is_job_accepted past job && not (is_over script (past ++ e ∷ []) job)) lt
    (open_of_busy script past job (busy script past e.seat job seat held))
    (rw (accepted_kept past e job (ap (posts_job job) is)) refl)
    (λ x other. job_at_other_step script past e x job id item value None is other held))
  where
    parted : (m n : ℕ) (a over : Bool) → m + share (a && not over) ≡ n + share a → m ≡ n + share (a && over)
    parted m n true true h = omega (arith, h)
    parted m n true false h = omega (arith, h)
    parted m n false over h = omega (arith, h)

-- and so does a job that is cancelled while nobody is inside
pub open_jobs_at_cancel : (script : Plan) (past : List Entry) (e : Entry) (job : ℕ) → e.kind ≡ JobCancel job → job < length script.jobs
    → open_jobs script past ≡ open_jobs script (past ++ e ∷ [])
    + share (is_block (behaviour_of_job script job) && is_job_accepted past job && is_empty script past job && not (is_over script past job))
open_jobs_at_cancel script past e job is lt =
    parted (open_jobs script past) (open_jobs script (past ++ e ∷ [])) (is_block (behaviour_of_job script job) && is_job_accepted past job)
    (is_empty script past job) (is_finished_job script past job || is_cancelled past job)
    (open_jobs_change script past (past ++ e ∷ []) job (is_open_job script past job)
    (is_block (behaviour_of_job script job) && is_job_accepted past job && not (is_empty script past job)) lt refl after
    (λ x other. job_at_other_cancel script past e x job is other))
  where
    after : is_open_job script (past ++ e ∷ []) job ≡ (is_block (behaviour_of_job script job) && is_job_accepted past job && not (is_empty script past job))
    after = rw (
      accepted_kept past e job (ap (posts_job job) is),
      inside_same script past e job (ap moves_holding is),
      is_cancelled_push past e job,
      is,
      eqb-same job,
      or-true,
      or-true,
      and-true (is_empty script past job),
    ) refl

    parted : (m n : ℕ) (a b c : Bool) → m + share (a && not b) ≡ n + share (a && not (b && c)) → m ≡ n + share (a && b && not (b && c))
    parted m n false b c h = omega (arith, h)
    parted m n true true true h = omega (arith, h)
    parted m n true true false h = omega (arith, h)
    parted m n true false c h = omega (arith, h)

-- Seats inside skip jobs.

-- the seat holds an item of a skip job
abbrev holds_skip : Plan → Option Holding → Bool
holds_skip script held = holds_of (λ h. is_skip (behaviour_of_job script h.job)) held

held_skip : (script : Plan) (job : ℕ) (o : Option Holding) → holds_of (λ h. eqb h.job job) o ≡ true
    → holds_skip script o ≡ is_skip (behaviour_of_job script job)
held_skip script job None h = absurd (false≢true h)
held_skip script job (Some held) h = rw (eqb-true held.job job h) refl

-- the seats inside skip jobs, by what the entry's seat held and holds
skip_seats_change : (script : Plan) (past : List Entry) (e : Entry) (b c : Bool) → IsSeat script e.seat → holds_skip script (holding past e.seat) ≡ b
    → holds_skip script (holding_after (holding past e.seat) e.kind) ≡ c
    → seats_in_skip_jobs script past + share c ≡ seats_in_skip_jobs script (past ++ e ∷ []) + share b
skip_seats_change script past e b c seat before after =
    count_change (λ x. eqb e.seat x) (is_in_skip_job script past) (is_in_skip_job script (past ++ e ∷ [])) b c (all_seats script) (seat_once script e.seat seat)
    (λ x here. rw (← eqb-true e.seat x here) before)
    (λ x here. rw (holding_here past e x here) after)
    (λ x other. rw (holding_other past e x other) refl)

pub skip_seats_same : (script : Plan) (past : List Entry) (e : Entry) → moves_holding e.kind ≡ false
    → seats_in_skip_jobs script (past ++ e ∷ []) ≡ seats_in_skip_jobs script past
skip_seats_same script past e quiet = filter_length_congr (is_in_skip_job script (past ++ e ∷ [])) (is_in_skip_job script past) (all_seats script)
    (λ seat. rw (holding_same past e seat quiet) refl)

-- a seat counts from where it enters a skip job on
pub skip_seats_at_take : (script : Plan) (past : List Entry) (e : Entry) (job id item : ℕ) → e.kind ≡ JobTake job id item → IsSeat script e.seat
    → holding past e.seat ≡ None
    → seats_in_skip_jobs script (past ++ e ∷ []) ≡ seats_in_skip_jobs script past + share (is_skip (behaviour_of_job script job))
skip_seats_at_take script past e job id item is seat free = omega (
  arith,
  skip_seats_change script past e false (is_skip (behaviour_of_job script job)) seat
      (rw free refl) (rw is refl),
)

-- and stays counted where it goes on to its next item
pub skip_seats_at_step : (script : Plan) (past : List Entry) (e : Entry) (job id item value next : ℕ) → e.kind ≡ JobStep job id item value (Some next)
    → IsSeat script e.seat → holds_job past e.seat job ≡ true → seats_in_skip_jobs script (past ++ e ∷ []) ≡ seats_in_skip_jobs script past
skip_seats_at_step script past e job id item value next is seat held = omega (
  arith,
  skip_seats_change script past e (is_skip (behaviour_of_job script job))
      (is_skip (behaviour_of_job script job)) seat (held_skip script job (holding past e.seat) held) (rw is refl),
)

-- until it leaves
pub skip_seats_at_leave : (script : Plan) (past : List Entry) (e : Entry) (job id item value : ℕ) → e.kind ≡ JobStep job id item value None
    → IsSeat script e.seat → holds_job past e.seat job ≡ true
    → seats_in_skip_jobs script past ≡ seats_in_skip_jobs script (past ++ e ∷ []) + share (is_skip (behaviour_of_job script job))
skip_seats_at_leave script past e job id item value is seat held = omega (
  arith,
  skip_seats_change script past e (is_skip (behaviour_of_job script job)) false
      seat (held_skip script job (holding past e.seat) held) (rw is refl),
)
