-- What a cause rules out may not come where the cause holds.
-- Cited by `explain_log`, `explain_prefix`.
use Rattle.std.proofs.Common.{◌≡◌, ℕ, ◌≤◌, true, false, leb, List, refl, sym, subst, ◌∙◌, Option, Some, None, arith}
use Rattle.std.proofs.lemmas.Bool.{and_parts, false_from_ne_true, leb-true, ne_eqb, true≢false}
use Rattle.std.proofs.lemmas.Option.{same_Some}
use Rattle.std.specs.Prelude.{◌==◌, take}
use Rattle.task_base.specs.Entries.{entry_by}
use Rattle.task_base.specs.Plan.{Plan}
use Rattle.task_base.specs.declared.entry.Entry.{Entry}
use Rattle.task_base.specs.declared.entry.Kind.{Kind}
use Rattle.task_base.specs.declared.entry.Kind.TheVariants as kinds
use Rattle.task_model.specs.Seats.{is_free}
use Rattle.pool_laws.proofs.Room.Capacity.{free_parts}
use Rattle.hist_model.specs.Allowed.{IsAllowed, by_script, by_task, may_come}
use Rattle.hist_model.specs.Open.{IsClosed}
use Rattle.hist_model.proofs.Laws.Open.{closed_enters, closed_leaves, closed_main, closed_post}
use Rattle.hist_model.proofs.Laws.Takes.{by_driver}
use Rattle.env_step.specs.declared.wait.Wait.TheVariants as waits
use Rattle.env_step.proofs.Nothing.{nothing_comes}
use Rattle.next_entry.specs.Causes.{Explains, is_drivers, is_of_work, rules_out}
use Rattle.next_entry.specs.declared.cause.Cause.{Cause}
use Rattle.next_entry.specs.declared.cause.Cause.TheVariants as causes
use Rattle.next_entry.specs.declared.cause.Explanation.{Explanation}
use Rattle.next_entry.specs.declared.cause.Explanation.TheVariants as explanations
use Rattle.env_explain.specs.Explained.{IsExplained, RulesOut}

module _ (script : Plan) (past : List Entry) (seat : ℕ) (closed : IsClosed script) where
  -- what the driver alone makes comes of no other seat
  drivers_only : (kind : Kind) → by_script script past seat kind ≡ false → (seat == 0) ≡ false → is_drivers kind ≡ true
      → may_come script past seat kind ≡ false
  unfolding may_come
  drivers_only (kinds.Post task runner delay ok) none other is = absurd (true≢false (sym is))
  drivers_only (kinds.Main task queue delay ok) none other is = absurd (true≢false (sym is))
  drivers_only (kinds.Take task runner found) none other is = absurd (true≢false (sym is))
  drivers_only (kinds.End task left) none other is = absurd (true≢false (sym is))
  drivers_only (kinds.Enter task scope) none other is = absurd (true≢false (sym is))
  drivers_only (kinds.Leave task) none other is = absurd (true≢false (sym is))
  drivers_only (kinds.JobTake job id item) none other is = absurd (true≢false (sym is))
  drivers_only (kinds.JobStep job id item value next) none other is = absurd (true≢false (sym is))
  drivers_only (kinds.Tick now) none other is = rw none refl
  drivers_only (kinds.MainTake task queue found) none other is = rw none refl
  drivers_only (kinds.MainEnd task left) none other is = rw other refl
  drivers_only kinds.MainNone none other is = rw none refl
  drivers_only (kinds.JobPost job ok) none other is = rw none refl
  drivers_only (kinds.Cancelled job) none other is = rw none refl
  drivers_only (kinds.Joined job reply) none other is = rw none refl
  drivers_only kinds.Idle none other is = rw none refl
  drivers_only kinds.Done none other is = rw none refl
  drivers_only kind none other is = none

  -- what a task or an item makes comes of no worker that is free
  busy_only : (kind : Kind) → by_script script past seat kind ≡ false → is_free past seat ≡ true → is_of_work kind ≡ true
      → may_come script past seat kind ≡ false
  unfolding may_come by_task
  busy_only (kinds.Post task runner delay ok) none free is =
      closed_post script past seat task runner delay ok closed ∙ rw (none, (free_parts past seat free).0) refl
  busy_only (kinds.Main task queue delay ok) none free is =
      closed_main script past seat task queue delay ok closed ∙ rw (none, (free_parts past seat free).0) refl
  busy_only (kinds.End task left) none free is = rw (free_parts past seat free).0 refl
  busy_only (kinds.Enter task scope) none free is = closed_enters script past seat task scope closed ∙ rw (free_parts past seat free).0 refl
  busy_only (kinds.Leave task) none free is = closed_leaves script past seat task closed ∙ rw (free_parts past seat free).0 refl
  busy_only (kinds.JobStep job id item value next) none free is = rw (free_parts past seat free).1 refl
  busy_only kind none free is = absurd (true≢false (sym is))

  -- the script wants nothing of a worker
  wants_no_worker : (kind : Kind) → 1 ≤ seat → by_script script past seat kind ≡ false
  wants_no_worker kind worker = false_from_ne_true (by_script script past seat kind) (λ by. omega (arith, worker, by_driver script past seat kind by))

  module _ (kind : Option Kind) (other : Kind) where
    -- what a cause rules out may not come where it holds
    pub ruled_out : (cause : Cause) → Explains cause script past seat kind → rules_out cause other ≡ true → ¬ IsAllowed script past (entry_by seat other)
    ruled_out cause holds out allowed = by_cause cause holds out
      where
        parts : (leb seat script.workers ≡ true) × (may_come script past seat other ≡ true)
        parts = and_parts (leb seat script.workers) (may_come script past seat other) allowed

        not_this : may_come script past seat other ≡ false → ⊥
        not_this none = true≢false (sym parts.1 ∙ none)

        by_cause : (c : Cause) → Explains c script past seat kind → rules_out c other ≡ true → ⊥
        by_cause causes.NoSeat h is = omega (arith, h, leb-true seat script.workers parts.0)
        by_cause causes.OnlyDriver h is =
            not_this (drivers_only other (wants_no_worker other h.0) (ne_eqb seat 0 (λ zero. omega (arith, h.0, zero))) is)
        by_cause causes.RunsNothing h is = not_this (busy_only other (wants_no_worker other h.0.0) h.0.1 is)
        by_cause (causes.NoSource bar) h is = not_this (nothing_comes script past seat closed waits.NoSource h.0 other)
        by_cause causes.Finished h is = not_this (nothing_comes script past seat closed waits.Over h other)
        by_cause (causes.NotIdle running ready) h is = not_this (nothing_comes script past seat closed (waits.NotIdle running ready) h other)
        by_cause (causes.Inside job seats) h is = not_this (nothing_comes script past seat closed (waits.Inside job seats) h other)
        by_cause (causes.Blocked count) h is = not_this (nothing_comes script past seat closed (waits.Blocked count) h other)
        by_cause c h is = absurd (true≢false (sym is))

-- so with what is said of a log
pub rules_out_all : (script : Plan) (log : List Entry) (told : Explanation) → IsClosed script → IsExplained script log told → RulesOut script log told
rules_out_all script log explanations.Legal closed explained = tt
rules_out_all script log (explanations.Barred place cause) closed explained = λ e kind at out.
    let same : explained.0 ≡ e = same_Some explained.0 e (sym explained.1 ∙ at) in
    ruled_out script (take place log) e.seat closed (Some e.kind) kind cause
    (subst (λ (x : Entry). Explains cause script (take place log) x.seat (Some x.kind)) same explained.2) out
rules_out_all script log (explanations.Unfinished place seat cause) closed explained = λ kind out.
    ruled_out script log seat closed None kind cause explained.3 out
rules_out_all script log (explanations.AtWork place busy) closed explained = tt
