-- What may come in an open plan: the driver's entries, by what fits a call.
-- Cited by 17 functions of `LiveCore`, `Asks`, `Fits`, `Posted`.
use Rattle.std.proofs.Common.{◌≡◌, ℕ, ◌≤◌, Bool, true, false, cond, eqb, List, [], ◌∷◌, ◌++◌, length, refl, sym, ap, ◌∙◌, Option, Some, None}
use Rattle.std.specs.Prelude.{is_some, not}
use Rattle.std.proofs.Math.Bool.{or-true}
use Rattle.std.proofs.lemmas.Bool.{and_parts, both_ways}
use Rattle.task_base.specs.Plan.{Plan}
use Rattle.task_base.specs.declared.entry.Entry.{Entry}
use Rattle.task_base.specs.declared.entry.Kind.{Kind}
use Rattle.task_base.specs.declared.entry.Kind.TheVariants as kinds
use Rattle.task_model.proofs.Growth.{job_post_of_push}
use Rattle.task_model.specs.Jobs.{JobPosted, job_post_after, job_post_of}
use Rattle.task_model.specs.Phase.{phase_of}
use Rattle.task_model.specs.Seats.{is_free}
use Rattle.hist_model.proofs.Laws.Legal.{entry_induction}
use Rattle.hist_model.proofs.Laws.OpenPlans.{phase_own}
use Rattle.hist_model.proofs.Laws.Own.{holding_own, own_entries_push, running_own}
use Rattle.hist_model.proofs.Laws.Takes.{by_driver}
use Rattle.hist_model.specs.Allowed.{by_script, may_come}
use Rattle.hist_model.specs.Legal.{IsLegal}
use Rattle.hist_model.specs.Open.{IsOpen, is_done, is_in_order, is_tick}
use Rattle.hist_model.specs.Script.{is_wanted}
use Rattle.hist_model.specs.Views.{own_entries}
use Rattle.live_core.specs.Calls.{is_driving}

-- the driver may enter what is in its order, while it does nothing and shutdown is not done
pub served : (plan : Plan) (past : List Entry) (kind : Kind) → IsOpen plan → IsLegal plan past → is_driving past ≡ true
    → is_in_order plan (own_entries 0 past) kind ≡ true → by_script plan past 0 kind ≡ true
unfolding by_script is_wanted
served plan past kind opened legal driving order =
    let parts = and_parts (not (is_done (phase_of past))) (is_free past 0) driving in
    rw (opened, phase_own plan past legal, running_own past 0, holding_own past 0, parts.0, parts.1, or-true (is_tick kind), order) refl

-- and read the clock until shutdown is done
pub ticks : (plan : Plan) (past : List Entry) (now : ℕ) → IsOpen plan → IsLegal plan past → is_done (phase_of past) ≡ false
    → by_script plan past 0 (kinds.Tick now) ≡ true
unfolding by_script is_wanted
ticks plan past now opened legal going = rw (opened, phase_own plan past legal, going) refl

-- whether a job was posted, the driver's own entries tell
abbrev was_job_posted : List Entry → ℕ → Bool
was_job_posted past job = is_some (job_post_of past job)

posted_after : (job : ℕ) (before other : List Entry) (a b : Option JobPosted) (kind : Kind) → is_some a ≡ is_some b
    → is_some (job_post_after job before a kind) ≡ is_some (job_post_after job other b kind)
posted_after job before other None None kind same = at kind
  where
    at : (k : Kind) → is_some (job_post_after job before None k) ≡ is_some (job_post_after job other None k)
    at (kinds.JobPost posted ok) = by (eqb posted job)
      where
        by : (b : Bool) → is_some {T = JobPosted} (cond b (Some (record { place = length before; ok = ok })) None)
            ≡ is_some {T = JobPosted} (cond b (Some (record { place = length other; ok = ok })) None)
        by true = refl
        by false = refl
    at k = refl
posted_after job before other (Some a) (Some b) kind same = refl
posted_after job before other None (Some b) kind same = absurd cc
posted_after job before other (Some a) None kind same = absurd cc

job_stays : (plan : Plan) (past : List Entry) (seat : ℕ) (kind : Kind) (job : ℕ) → eqb seat 0 ≡ false → may_come plan past seat kind ≡ true
    → job_post_after job past (job_post_of past job) kind ≡ job_post_of past job
unfolding may_come
job_stays plan past seat (kinds.JobPost posted ok) job other may =
    absurd (both_ways (eqb seat 0) other (ap (λ s. eqb s 0) (by_driver plan past seat (kinds.JobPost posted ok) (and_parts _ _ may).0)))
job_stays plan past seat kind job other may = stays (job_post_of past job)
  where
    stays : (now : Option JobPosted) → job_post_after job past now kind ≡ now
    stays None = refl
    stays (Some p) = refl

pub job_own : (plan : Plan) (past : List Entry) (job : ℕ) → IsLegal plan past
    → is_some (job_post_of (own_entries 0 past) job) ≡ is_some (job_post_of past job)
job_own plan past job legal = entry_induction plan (λ front. was_job_posted (own_entries 0 front) job ≡ was_job_posted front job) refl next past legal
  where
    next : (front : List Entry) (e : Entry) → e.seat ≤ plan.workers → may_come plan front e.seat e.kind ≡ true
        → was_job_posted (own_entries 0 front) job ≡ was_job_posted front job
        → was_job_posted (own_entries 0 (front ++ e ∷ [])) job ≡ was_job_posted (front ++ e ∷ []) job
    next front e known may same = rw (own_entries_push front e 0) (by_seat (eqb e.seat 0) refl)
      where
        by_seat : (b : Bool) → eqb e.seat 0 ≡ b
            → was_job_posted (cond b (own_entries 0 front ++ e ∷ []) (own_entries 0 front)) job ≡ was_job_posted (front ++ e ∷ []) job
        by_seat true is = ap is_some (job_post_of_push (own_entries 0 front) e job)
            ∙ posted_after job (own_entries 0 front) front (job_post_of (own_entries 0 front) job) (job_post_of front job) e.kind same
            ∙ sym (ap is_some (job_post_of_push front e job))
        by_seat false other = same ∙ sym (ap is_some (job_post_of_push front e job ∙ job_stays plan front e.seat e.kind job other may))
