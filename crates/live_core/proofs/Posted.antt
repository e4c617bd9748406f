-- In an open plan a job that was posted is declared, and one that was cancelled was posted.
-- Cited by `Fits`.
use Rattle.std.proofs.Common.{◌≡◌, ℕ, ◌≤◌, Bool, true, false, cond, eqb, length, List, [], ◌∷◌, ◌++◌, refl, sym, ap, subst, ◌∙◌, Option, Some, None, ⊎_elim}
use Rattle.std.specs.Prelude.{is_none, is_some, nat_lt}
use Rattle.std.proofs.lemmas.Bool.{and_parts, eqb-true, or_cases}
use Rattle.task_base.specs.Plan.{Plan}
use Rattle.task_base.specs.declared.entry.Entry.{Entry}
use Rattle.task_base.specs.declared.entry.Kind.{Kind}
use Rattle.task_base.specs.declared.entry.Kind.TheVariants as kinds
use Rattle.task_model.proofs.Growth.{is_cancelled_push, job_post_of_push}
use Rattle.task_model.specs.Jobs.{JobPosted, cancels, is_cancelled, job_post_after, job_post_of}
use Rattle.task_model.specs.Past.{fold_past}
use Rattle.hist_model.proofs.Laws.Legal.{entry_induction, legal_induction}
use Rattle.hist_model.proofs.Laws.OneThing.{served_by}
use Rattle.hist_model.specs.Allowed.{IsAllowed, by_script, may_come}
use Rattle.hist_model.specs.Legal.{IsLegal}
use Rattle.hist_model.specs.Open.{IsOpen}
use Rattle.hist_model.specs.Views.{own_entries}
use Rattle.live_core.proofs.Serving.{job_own}

-- ---- posted jobs

pub job_declared : (plan : Plan) (past : List Entry) (job : ℕ) → IsOpen plan → IsLegal plan past → is_some (job_post_of past job) ≡ true
    → nat_lt job (length plan.jobs) ≡ true
unfolding fold_past job_post_of may_come
job_declared plan past job opened legal =
    entry_induction plan (λ front. is_some (job_post_of front job) ≡ true → nat_lt job (length plan.jobs) ≡ true) (λ none. absurd cc) next past legal
  where
    next : (front : List Entry) (e : Entry) → e.seat ≤ plan.workers → may_come plan front e.seat e.kind ≡ true
        → (is_some (job_post_of front job) ≡ true → nat_lt job (length plan.jobs) ≡ true)
        → is_some (job_post_of (front ++ e ∷ []) job) ≡ true → nat_lt job (length plan.jobs) ≡ true
    next front e known may before is = by_post (job_post_of front job) refl e.kind may (ap is_some (sym (job_post_of_push front e job)) ∙ is)
      where
        by_post : (o : Option JobPosted) → job_post_of front job ≡ o → (kind : Kind) → may_come plan front e.seat kind ≡ true
            → is_some (job_post_after job front o kind) ≡ true → nat_lt job (length plan.jobs) ≡ true
        by_post (Some p) posted kind h k = before (ap is_some posted)
        by_post None none (kinds.JobPost posted ok) h k = at (eqb posted job) refl k
          where
            at : (b : Bool) → eqb posted job ≡ b → is_some {T = JobPosted} (cond b (Some (record { place = length front; ok = ok })) None) ≡ true
                → nat_lt job (length plan.jobs) ≡ true
            at false other k = absurd cc
            at true same k = subst (λ j. nat_lt j (length plan.jobs) ≡ true) (eqb-true posted job same)
                (and_parts (nat_lt posted (length plan.jobs)) (is_none (job_post_of (own_entries 0 front) posted))
                (served_by plan front e.seat (kinds.JobPost posted ok) opened
                (and_parts (by_script plan front e.seat (kinds.JobPost posted ok)) _ h).0).in_order).0
        by_post None none kind h k = absurd cc

-- ---- cancelled jobs

-- a job that was posted stays posted
stays_posted : (job : ℕ) (past : List Entry) (o : Option JobPosted) (kind : Kind) → is_some o ≡ true → is_some (job_post_after job past o kind) ≡ true
stays_posted job past (Some p) kind h = refl
stays_posted job past None kind h = absurd cc

pub cancelled_was_posted : (plan : Plan) (past : List Entry) (job : ℕ) → IsOpen plan → IsLegal plan past → is_cancelled past job ≡ true
    → is_some (job_post_of past job) ≡ true
unfolding is_cancelled may_come
cancelled_was_posted plan past job opened legal =
    legal_induction plan (λ front. is_cancelled front job ≡ true → is_some (job_post_of front job) ≡ true) (λ none. absurd cc) next past legal
  where
    next : (front : List Entry) (e : Entry) → IsLegal plan front → IsAllowed plan front e
        → (is_cancelled front job ≡ true → is_some (job_post_of front job) ≡ true)
        → is_cancelled (front ++ e ∷ []) job ≡ true → is_some (job_post_of (front ++ e ∷ []) job) ≡ true
    next front e front_legal allowed before is = ap is_some (job_post_of_push front e job) ∙ stays_posted job front (job_post_of front job) e.kind
        (⊎_elim before (by_kind e.kind (and_parts _ (may_come plan front e.seat e.kind) allowed).1)
        (or_cases (is_cancelled front job) (cancels job e.kind) (sym (is_cancelled_push front e job) ∙ is)))
      where
        by_kind : (kind : Kind) → may_come plan front e.seat kind ≡ true → cancels job kind ≡ true → is_some (job_post_of front job) ≡ true
        by_kind (kinds.JobCancel cancelled) h k = sym (job_own plan front job front_legal)
            ∙ subst (λ j. is_some (job_post_of (own_entries 0 front) j) ≡ true) (eqb-true cancelled job k)
            (served_by plan front e.seat (kinds.JobCancel cancelled) opened h).in_order
        by_kind kind h k = absurd cc
