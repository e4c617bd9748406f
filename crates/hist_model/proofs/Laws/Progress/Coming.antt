-- What a seat that is at nothing enters comes by the script, or takes work.
-- Cited by `Laws/Progress/Driver`, `Laws/Progress/Ends`, `env_step`.
use Rattle.std.proofs.Common.{◌≡◌, ℕ, true, false, cond, eqb, List, sym}
use Rattle.std.proofs.Common.{ap, subst, ◌∙◌, Some, inl, inr, ⊎_elim, arith}
use Rattle.std.specs.Prelude.{◌⊎◌, ◌||◌, not, nat_le}
use Rattle.std.proofs.lemmas.Bool.{and_parts, or_cases, both_ways}
use Rattle.std.proofs.lemmas.Option.{same_Some}
use Rattle.task_base.specs.declared.limits.TheConstants.{LAST_MOMENT}
use Rattle.task_base.specs.Plan.{Plan}
use Rattle.task_base.specs.declared.entry.Entry.{Entry}
use Rattle.task_base.specs.declared.entry.Kind.{Kind}
use Rattle.task_base.specs.declared.entry.Kind.TheVariants as kinds
use Rattle.list_laws.specs.Lists.{holds_of}
use Rattle.task_model.specs.Phase.{phase_of, is_started}
use Rattle.task_model.specs.Time.{now_of}
use Rattle.task_model.specs.Refusal.{is_refused, is_closed}
use Rattle.task_model.specs.Seats.{Running, Holding, running, holding, is_quiet, next_act}
use Rattle.task_model.specs.Jobs.{is_cancelled, is_empty}
use Rattle.task_model.specs.Cells.{main_cell_of}
use Rattle.hist_model.specs.Views.{own_entries}
use Rattle.hist_model.specs.Open.{IsClosed}
use Rattle.hist_model.specs.Script.{Current, current, wants}
use Rattle.hist_model.specs.Allowed.{enters, by_script, by_task, is_ready_worker, may_come}
use Rattle.hist_model.specs.Laws.Consistent.{is_pump, is_join, DoesOneThing}
use Rattle.hist_model.proofs.Laws.Choice.{found}
use Rattle.hist_model.proofs.Laws.Open.{closed_enters, closed_leaves, closed_main, closed_post}
use Rattle.hist_model.proofs.Laws.OneThing.{wanted_by, job_step_holds}
use Rattle.hist_model.proofs.Laws.Takes.{IsReadyWorker, ready_worker, job_take_is, end_is, main_end_is}

-- in a closed plan an entry of a seat that runs nothing and holds nothing comes by the script, or it takes work as a free
-- worker
pub comes_by : (script : Plan) (past : List Entry) (seat : ℕ) (kind : Kind) → IsClosed script → may_come script past seat kind ≡ true
    → ((w : Running) → running past seat ≡ Some w → ⊥) → ((h : Holding) → holding past seat ≡ Some h → ⊥)
    → (by_script script past seat kind ≡ true) ⊎ IsReadyWorker script past seat
unfolding may_come by_task
comes_by script past seat kind closed may runs holds = of_kind kind may
  where
    no_task : (k : Kind) → by_task script past seat k ≡ true → ⊥
    no_task k h = let w = found (λ (x : Running). holds_of (λ step. enters x.task step k) (next_act script past seat)) (running past seat) h in
        runs w.value w.is

    either : (k : Kind) → (by_script script past seat k || by_task script past seat k) ≡ true → by_script script past seat k ≡ true
    either k h = ⊎_elim (λ is. is) (λ is. absurd (no_task k is)) (or_cases (by_script script past seat k) (by_task script past seat k) h)

    of_kind : (k : Kind) → may_come script past seat k ≡ true → (by_script script past seat k ≡ true) ⊎ IsReadyWorker script past seat
    of_kind (kinds.Post task runner delay ok) h = inl (either (kinds.Post task runner delay ok)
        (and_parts _ (cond (is_refused script past runner delay) (not ok) ok) (sym (closed_post script past seat task runner delay ok closed) ∙ h)).0)
    of_kind (kinds.Main task queue delay ok) h = inl (either (kinds.Main task queue delay ok)
        (and_parts _ (cond (is_closed past queue) (not ok) ok) (sym (closed_main script past seat task queue delay ok closed) ∙ h)).0)
    of_kind (kinds.Tick now) h =
        inl (and_parts (by_script script past seat (kinds.Tick now)) (nat_le (now_of past) now) (and_parts _ (nat_le now LAST_MOMENT) h).0).0
    of_kind (kinds.Take task runner value) h = inr (ready_worker script past seat (and_parts (is_ready_worker script past seat) _ h).0)
    of_kind (kinds.End task left) h = let (w, is, pool, same) = end_is script past seat task left h in absurd (runs w is)
    of_kind (kinds.MainEnd task left) h = let (w, is, main, same) = main_end_is script past seat task left h in absurd (runs w is)
    of_kind (kinds.Enter task scope) h = absurd (no_task (kinds.Enter task scope) (sym (closed_enters script past seat task scope closed) ∙ h))
    of_kind (kinds.Leave task) h = absurd (no_task (kinds.Leave task) (sym (closed_leaves script past seat task closed) ∙ h))
    of_kind (kinds.MainTake task queue value) h =
        inl (and_parts (by_script script past seat (kinds.MainTake task queue value)) _ (and_parts _ (eqb value (main_cell_of past queue)) h).0).0
    of_kind (kinds.JobTake job id item) h = ⊎_elim (λ k. inr k.0) (λ k. inl k.0) (job_take_is script past seat job id item h)
    of_kind (kinds.JobStep job id item value next) h = let held = job_step_holds script past seat job id item value next h in absurd (holds held.0 held.1)
    of_kind kinds.MainNone h = inl (and_parts (by_script script past seat kinds.MainNone) _ h).0
    of_kind (kinds.JobPost job ok) h = inl (and_parts (by_script script past seat (kinds.JobPost job ok)) _ h).0
    of_kind (kinds.Cancelled job) h =
        inl (and_parts (by_script script past seat (kinds.Cancelled job)) (is_cancelled past job) (and_parts _ (is_empty script past job) h).0).0
    of_kind (kinds.Joined job reply) h =
        inl (and_parts (by_script script past seat (kinds.Joined job reply)) (is_empty script past job) (and_parts _ _ h).0).0
    of_kind kinds.Idle h = inl (and_parts (by_script script past seat kinds.Idle) (is_quiet script past) (and_parts _ _ h).0).0
    of_kind kinds.Done h = inl (and_parts (by_script script past seat kinds.Done) (is_started (phase_of past)) (and_parts _ _ h).0).0
    of_kind k h = inl h

-- the driver is no worker
no_worker : (script : Plan) (past : List Entry) → IsReadyWorker script past 0 → ⊥
no_worker script past worker = omega (arith, worker.worker)

-- so in a closed plan, at an action that is neither a pump nor a join it is wanted by that action
pub driver_wants : (script : Plan) (past : List Entry) (kind : Kind) (c : Current) → IsClosed script → may_come script past 0 kind ≡ true
    → DoesOneThing script past
    → current script (own_entries 0 past) ≡ Some c → is_pump c.action ≡ false → is_join c.action ≡ false
    → wants (own_entries 0 past) c.action c.made kind ≡ true
driver_wants script past kind c closed may one is no_pump no_join =
    let by = ⊎_elim (λ (k : by_script script past 0 kind ≡ true). k) (λ worker. absurd (no_worker script past worker))
    (comes_by script past 0 kind closed may runs holds) in
    let v = wanted_by script past 0 kind closed by in
    subst (λ x. wants (own_entries 0 past) x.action x.made kind ≡ true) (same_Some v.value c (sym v.is ∙ is)) v.passes
  where
    runs : (w : Running) → running past 0 ≡ Some w → ⊥
    runs w r = let (d, at, pump) = one.pumps closed w r in
        both_ways (is_pump c.action) no_pump (ap (λ (x : Current). is_pump x.action) (same_Some c d (sym is ∙ at)) ∙ pump)

    holds : (h : Holding) → holding past 0 ≡ Some h → ⊥
    holds h r = let (d, at, join) = one.joins closed h r in
        both_ways (is_join c.action) no_join (ap (λ (x : Current). is_join x.action) (same_Some c d (sym is ∙ at)) ∙ join)
