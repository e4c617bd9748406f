-- Moments, orders and scopes in every legal past.
-- Cited by `moments_and_orders_rise`, `Laws/LegalPast`, `Laws/OpenPlans`, `Laws/Order/Lanes`, `Laws/Order/Pasts`, `Laws/Whole/MainTasks`,
-- `live_core`, `log_count`, `situation`.
use Rattle.std.specs.Prelude.{◌&&◌, not, is_none}
use Rattle.std.proofs.Common.{◌≡◌, ℕ, ◌≤◌, Bool, true, false, cond, eqb, leb, List, [], ◌∷◌, ◌++◌, refl, sym, ap, ◌∙◌, Some, None, ⊎_elim, arith}
use Rattle.std.proofs.lemmas.Bool.{cond_both, eqb-true, leb-true, and_parts, both_ways, or_parts}
use Rattle.task_base.specs.Plan.{Plan}
use Rattle.task_base.specs.declared.limits.TheConstants.{LAST_MOMENT}
use Rattle.task_base.specs.declared.entry.Entry.{Entry}
use Rattle.task_base.specs.declared.entry.Kind.{Kind}
use Rattle.task_base.specs.declared.entry.Kind.TheVariants as kinds
use Rattle.task_base.specs.declared.step.Step.{Step}
use Rattle.task_base.specs.declared.step.Step.TheVariants as steps
use Rattle.task_base.specs.declared.step.Scope.{Scope}
use Rattle.list_laws.specs.Lists.{holds_of}
use Rattle.list_laws.specs.Sorts.{SameMembers}
use Rattle.task_model.specs.Past.{fold_past}
use Rattle.queue_laws.specs.Orders.{ordered, main_arrivals, OrdersDistinct}
use Rattle.task_model.specs.Time.{now_of, now_after}
use Rattle.task_model.specs.Posts.{is_taken, takes, is_main_taken, main_takes}
use Rattle.task_model.specs.Seats.{Running, running, next_act}
use Rattle.task_model.specs.Capacity.{open_scope, scope_after}
use Rattle.task_model.proofs.Growth.{is_taken_push, is_main_taken_push, open_scope_push}
use Rattle.pool_laws.proofs.Keys.Ready.{no_tick_ahead_at_start, no_tick_ahead_grows}
use Rattle.pool_laws.proofs.Keys.Arrivals.{arrivals_are_ready_at_start, arrivals_are_ready_grows}
use Rattle.queue_laws.proofs.Arrivals.{main_arrivals_are_ordered_at_start, main_arrivals_are_ordered_grows}
use Rattle.queue_laws.proofs.Distinct.{orders_below, orders_distinct}
use Rattle.script_model.specs.Draft.{may_block_on}
use Rattle.hist_model.specs.Open.{may_open_scope}
use Rattle.hist_model.specs.Allowed.{enters, by_script, by_task, may_come, IsAllowed}
use Rattle.hist_model.specs.Legal.{IsLegal}
use Rattle.pool_laws.specs.Runs.{taken_as}
use Rattle.hist_model.specs.Laws.Consistent.{IsConsistent}
use Rattle.hist_model.specs.Laws.Rising.{Rises}
use Rattle.hist_model.proofs.Laws.Open.{closed_enters, closed_or_open}
use Rattle.hist_model.proofs.Laws.Legal.{legal_induction}
use Rattle.hist_model.proofs.Laws.Choice.{found}
use Rattle.hist_model.proofs.Laws.Consistent.{legal_is_consistent}

-- an entry that is allowed does not set the moment back
moment_rises : (script : Plan) (past : List Entry) (seat : ℕ) (kind : Kind) → may_come script past seat kind ≡ true → now_of past ≤ now_after (now_of past) kind
unfolding may_come
moment_rises script past seat (kinds.Tick now) h = leb-true (now_of past) now
    (and_parts (by_script script past seat (kinds.Tick now)) _ (and_parts _ (leb now LAST_MOMENT) h).0).1
moment_rises script past seat kind h = omega arith

-- who opens a scope runs the task
pub opens_as_running : (script : Plan) (past : List Entry) (seat task : ℕ) (scope : Scope) → may_come script past seat (kinds.Enter task scope) ≡ true
    → (w : Running) × (running past seat ≡ Some w) × (w.task ≡ task)
unfolding may_come by_task
opens_as_running script past seat task scope h = ⊎_elim (λ closed. by_step (sym (closed_enters script past seat task scope closed) ∙ h))
    (λ opened. freely (ap (λ b. cond b (may_open_scope script past seat task) (by_task script past seat (kinds.Enter task scope))) (sym opened) ∙ h))
    (closed_or_open script)
  where
    same : (t : ℕ) (step : Step) → enters t step (kinds.Enter task scope) ≡ true → t ≡ task
    same t (steps.Block s) k = sym (eqb-true task t (and_parts (eqb task t) _ k).0)
    same t step k = absurd cc

    Runs : Type 0
    Runs = (w : Running) × (running past seat ≡ Some w) × (w.task ≡ task)

    by_step : by_task script past seat (kinds.Enter task scope) ≡ true → Runs
    by_step k =
        let w = found (λ (x : Running). holds_of (λ step. enters x.task step (kinds.Enter task scope)) (next_act script past seat)) (running past seat) k in
        let step = found (λ s. enters w.value.task s (kinds.Enter task scope)) (next_act script past seat) w.passes in
        (w.value, w.is, same w.value.task step.value step.passes)

    freely : may_open_scope script past seat task ≡ true → Runs
    freely k =
        let w = found (λ (x : Running). eqb x.task task && not x.is_main && may_block_on script.runners x.home) (running past seat)
        (and_parts _ (is_none (open_scope past task)) k).0 in
        (w.value, w.is, eqb-true w.value.task task (and_parts _ (not w.value.is_main) (and_parts _ (may_block_on script.runners w.value.home) w.passes).0).0)

-- what was taken, of the pool or of a main queue
was_taken : (past : List Entry) (t : ℕ) (main : Bool) → taken_as main past t ≡ true → is_taken past t ≡ false → is_main_taken past t ≡ false → ⊥
was_taken past t false taken free main_free = both_ways (is_taken past t) free taken
was_taken past t true taken free main_free = both_ways (is_main_taken past t) main_free taken

-- an entry that is allowed opens scopes of taken tasks alone
scopes_next : (script : Plan) (past : List Entry) (seat : ℕ) (kind : Kind) → may_come script past seat kind ≡ true → IsConsistent script past → (t : ℕ)
    → is_taken past t ≡ false → is_main_taken past t ≡ false → open_scope past t ≡ None → scope_after t past (open_scope past t) kind ≡ None
scopes_next script past seat (kinds.Enter task scope) h c t free main_free none =
    cond_both (eqb task t) (Some (record { scope = scope; since = now_of past })) (open_scope past t) (λ o. o ≡ None) (λ same. absurd (not_now same))
    (λ other. none)
  where
    runs : (w : Running) × (running past seat ≡ Some w) × (w.task ≡ task)
    runs = opens_as_running script past seat task scope h

    not_now : eqb task t ≡ true → ⊥
    not_now same = was_taken past runs.0.task runs.0.is_main ((c runs.0.is_main).runs seat runs.0 runs.1 refl).taken
        (ap (is_taken past) (runs.2 ∙ eqb-true task t same) ∙ free) (ap (is_main_taken past) (runs.2 ∙ eqb-true task t same) ∙ main_free)
scopes_next script past seat (kinds.Leave task) h c t free main_free none = cond_both (eqb task t) None (open_scope past t) (λ o. o ≡ None) (λ is. refl)
    (λ is. none)
scopes_next script past seat kind h c t free main_free none = none

nothing_risen : Rises []
unfolding open_scope fold_past
nothing_risen = record {
  no_tick_ahead = no_tick_ahead_at_start;
  arrivals_are_ready = arrivals_are_ready_at_start;
  main_arrivals_are_ordered = main_arrivals_are_ordered_at_start;
  orders_below = orders_below [] main_arrivals_are_ordered_at_start;
  scopes_of_taken = λ t free main_free. refl;
}

risen_next : (script : Plan) (past : List Entry) (e : Entry) → IsLegal script past → IsAllowed script past e → Rises past
    → Rises (past ++ e ∷ [])
risen_next script past e legal allowed r = record {
  no_tick_ahead = no_tick_ahead_grows past e (moment_rises script past e.seat e.kind may) r.no_tick_ahead;
  arrivals_are_ready = arrivals_are_ready_grows past e r.no_tick_ahead r.arrivals_are_ready;
  main_arrivals_are_ordered = ordered_next;
  orders_below = orders_below (past ++ e ∷ []) ordered_next;
  scopes_of_taken = λ t free main_free.
      let before = (or_parts (is_taken past t) (takes t e.kind) (sym (is_taken_push past e t) ∙ free)).0 in
      let main_before = (or_parts (is_main_taken past t) (main_takes t e.kind) (sym (is_main_taken_push past e t) ∙ main_free)).0 in
      open_scope_push past e t ∙ scopes_next script past e.seat e.kind may (legal_is_consistent script past legal) t before main_before
      (r.scopes_of_taken t before main_before);
}
  where
    ordered_next : SameMembers (main_arrivals (past ++ e ∷ [])) (ordered (past ++ e ∷ []))
    ordered_next = main_arrivals_are_ordered_grows past e r.no_tick_ahead r.main_arrivals_are_ordered

    may : may_come script past e.seat e.kind ≡ true
    may = (and_parts (leb e.seat script.workers) (may_come script past e.seat e.kind) allowed).1

pub legal_rises : (script : Plan) (past : List Entry) → IsLegal script past → Rises past
legal_rises script = legal_induction script Rises nothing_risen (risen_next script)

-- no two main tasks draw one order
pub orders_are_distinct : (script : Plan) (past : List Entry) → IsLegal script past → OrdersDistinct past
orders_are_distinct script past legal = orders_distinct past (legal_rises script past legal).main_arrivals_are_ordered
