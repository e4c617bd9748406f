-- What one more entry leaves of a job: each entry that is of no job and leaves the phase, and each entry of another job,
-- leaves all that is known of it. Then it may be entered, is over, is replied to and waits as before.
use Rattle.std.proofs.Common.{◌≡◌, ℕ, Bool, true, false, cond, List, [], ◌∷◌, ◌++◌, refl, ap, ◌∙◌, Option, Some, None}
use Rattle.std.specs.Prelude.{◌==◌}
use Rattle.std.specs.Option.{option_map}
use Rattle.std.proofs.Math.Bool.{or-false}
use Rattle.std.proofs.Math.Nat.{add-zero}
use Rattle.task_base.specs.Plan.{Plan}
use Rattle.task_base.specs.declared.entry.Entry.{Entry}
use Rattle.task_base.specs.declared.entry.Kind.{Kind}
use Rattle.task_base.specs.declared.entry.Kind.TheVariants as kinds
use Rattle.task_traits.specs.declared.phase.Phase.{Phase}
use Rattle.task_model.specs.Phase.{phase_of, phase_after}
use Rattle.task_model.specs.Seats.{holding, inside}
use Rattle.task_model.specs.Jobs.{JobPosted, job_post_of, job_post_after, is_cancelled, cancels, claimed, claims, done, value_by, may_enter}
use Rattle.task_model.specs.Sources.{job_candidate, job_waiting}
use Rattle.pool_laws.specs.Seats.{moves_main, moves_holding, holds_job, main_parts}
use Rattle.pool_laws.specs.Jobs.{moves_jobs, posts_job, JobKept, job_parts}
use Rattle.task_model.proofs.Growth.{phase_of_push, job_post_of_push, is_cancelled_push, claimed_push, done_push, job_sum_push}
use Rattle.pool_laws.proofs.Seats.Running.{inside_same, inside_at_other_take, inside_at_step, inside_at_other_leave}
use Rattle.pool_laws.specs.Moves.{Items}
use Rattle.pool_laws.proofs.Moves.{moves_fewer, moves_apart, same_phase, no_job_post, no_cancel, no_claim, no_value}

-- the first post of a job stays at each entry that is no post of it
pub post_stays : (j : ℕ) (past : List Entry) (now : Option JobPosted) (kind : Kind) → posts_job j kind ≡ false → job_post_after j past now kind ≡ now
post_stays j past None (kinds.JobPost job ok) other = rw other refl
post_stays j past None kind other = refl
post_stays j past (Some p) kind other = refl

-- a job, by what the entry does to each part of it
kept_by : (script : Plan) (past : List Entry) (e : Entry) (j : ℕ) → posts_job j e.kind ≡ false → cancels j e.kind ≡ false → claims j e.kind ≡ false
    → value_by j e.kind ≡ None → ((phase : Phase) → phase_after phase e.kind ≡ phase) → inside script (past ++ e ∷ []) j ≡ inside script past j
    → JobKept script past (past ++ e ∷ []) j
kept_by script past e j no_post no_cancel no_claim no_value no_phase same = record {
  post = job_post_of_push past e j ∙ post_stays j past (job_post_of past j) e.kind no_post;
  cancelled = rw (is_cancelled_push past e j, no_cancel) (or-false (is_cancelled past j));
  phase = phase_of_push past e ∙ no_phase (phase_of past);
  claims_same = rw (claimed_push past e j, no_claim) (add-zero (claimed past j));
  done_same = rw (done_push past e j, no_value) (add-zero (done past j));
  sum_same = rw (job_sum_push past e j, no_value) refl;
  inside_now = same;
}

pub job_same : (script : Plan) (past : List Entry) (e : Entry) (j : ℕ) → moves_jobs e.kind ≡ false → JobKept script past (past ++ e ∷ []) j
job_same script past e j quiet = kept_by script past e j (no_job_post job_parts e.kind refl quiet j) (no_cancel job_parts e.kind refl quiet j)
    (no_claim job_parts e.kind refl quiet j) (no_value job_parts e.kind refl quiet j) (same_phase job_parts e.kind refl quiet)
    (inside_same script past e j (moves_fewer (Items ∷ []) job_parts e.kind refl quiet))

-- a main task is of no job
pub job_at_main : (script : Plan) (past : List Entry) (e : Entry) (j : ℕ) → moves_main e.kind ≡ true → JobKept script past (past ++ e ∷ []) j
job_at_main script past e j main = job_same script past e j (moves_apart main_parts job_parts e.kind refl main)

-- the entries of one job leave the others
pub job_at_other_post : (script : Plan) (past : List Entry) (e : Entry) (j job : ℕ) (ok : Bool) → e.kind ≡ kinds.JobPost job ok → (job == j) ≡ false
    → JobKept script past (past ++ e ∷ []) j
job_at_other_post script past e j job ok is other = kept_by script past e j (rw is other) (ap (cancels j) is) (ap (claims j) is) (ap (value_by j) is)
    (λ phase. ap (phase_after phase) is) (inside_same script past e j (ap moves_holding is))

pub job_at_other_take : (script : Plan) (past : List Entry) (e : Entry) (j job id item : ℕ) → e.kind ≡ kinds.JobTake job id item → (job == j) ≡ false
    → holding past e.seat ≡ None → JobKept script past (past ++ e ∷ []) j
job_at_other_take script past e j job id item is other free = kept_by script past e j (ap (posts_job j) is) (ap (cancels j) is) (rw is other)
    (ap (value_by j) is) (λ phase. ap (phase_after phase) is) (inside_at_other_take script past e j job id item is other free)

pub job_at_other_step : (script : Plan) (past : List Entry) (e : Entry) (j job id item value : ℕ) (next : Option ℕ)
    → e.kind ≡ kinds.JobStep job id item value next → (job == j) ≡ false → holds_job past e.seat job ≡ true → JobKept script past (past ++ e ∷ []) j
job_at_other_step script past e j job id item value next is other held = kept_by script past e j (ap (posts_job j) is) (ap (cancels j) is)
    (rw (is, other) refl) (rw (is, other) refl) (λ phase. ap (phase_after phase) is) (by_next next is)
  where
    by_next : (o : Option ℕ) → e.kind ≡ kinds.JobStep job id item value o → inside script (past ++ e ∷ []) j ≡ inside script past j
    by_next None leaves = inside_at_other_leave script past e j job id item value leaves other held
    by_next (Some n) goes_on = inside_at_step script past e j job id item value n goes_on held

pub job_at_other_cancel : (script : Plan) (past : List Entry) (e : Entry) (j job : ℕ) → e.kind ≡ kinds.JobCancel job → (job == j) ≡ false
    → JobKept script past (past ++ e ∷ []) j
job_at_other_cancel script past e j job is other = kept_by script past e j (ap (posts_job j) is) (rw is other) (ap (claims j) is) (ap (value_by j) is)
    (λ phase. ap (phase_after phase) is) (inside_same script past e j (ap moves_holding is))

-- what follows for a job of which a later past says the same: whether it may be entered, and its place among what waits
pub may_enter_kept : (script : Plan) (past later : List Entry) (j : ℕ) → JobKept script past later j → may_enter script later j ≡ may_enter script past j
unfolding may_enter
may_enter_kept script past later j kept = rw (kept.post, kept.cancelled, kept.phase, kept.claims_same, kept.done_same, kept.inside_now) refl

pub job_waiting_kept : (script : Plan) (past later : List Entry) (j : ℕ) → JobKept script past later j → job_waiting script later j ≡ job_waiting script past j
job_waiting_kept script past later j kept = rw (may_enter_kept script past later j kept, kept.post)
    (ap (λ o. cond (may_enter script past j) o None) (looks (job_post_of past j)))
  where
    looks : (o : Option JobPosted) → option_map (job_candidate script later j) o ≡ option_map (job_candidate script past j) o
    looks None = refl
    looks (Some p) = rw kept.inside_now refl
