-- What is known of an allowed take.
-- Cited by `Laws/Consistent`, `Laws/Due`, `Laws/Entries/Bound`, `Laws/Fences`, `Laws/Fitting/Entries`, `Laws/JobEntries`, `Laws/OneSeat`,
-- `Laws/OneThing`, `Laws/OpenPlans`, `Laws/Postings/Counts`, `Laws/Progress/Coming`, `Laws/Progress/Driver`, `Laws/Progress/Ends`,
-- `Laws/Progress/Tasks`, `Laws/Shutdown/Histories`, `Laws/Singly`, `Laws/Starts`, `Laws/State`, `Laws/Ways`, `seats.rt`, `env_core`,
-- `env_explain`, `env_step`, `live_core`, `log_count`, `run_summary`, `situation`, `task_reply`, `told_context`, `trace_json`.
use Rattle.std.proofs.Common.{◌≡◌, ℕ, ◌≤◌, true, false, eqb, leb, List, sym, ap, subst, ◌∙◌, Some, ◌⊎◌, inl, inr, ⊎_elim}
use Rattle.std.specs.Prelude.{not, ◌&&◌}
use Rattle.std.proofs.lemmas.Bool.{or_cases, eqb-true, leb-true, and_parts, not-true}
use Rattle.task_base.specs.Plan.{Plan}
use Rattle.task_base.specs.declared.entry.Entry.{Entry}
use Rattle.task_base.specs.declared.entry.Kind.{Kind}
use Rattle.task_base.specs.declared.entry.Kind.TheVariants as kinds
use Rattle.task_base.specs.declared.source.TaskSource.{TaskSource}
use Rattle.task_base.specs.declared.source.TaskSource.TheVariants.{Sequence, Job}
use Rattle.list_laws.specs.Lists.{holds_of}
use Rattle.task_model.specs.Posts.{is_taken}
use Rattle.task_model.specs.Keys.{Ready}
use Rattle.task_model.specs.Refusal.{is_forbidden}
use Rattle.task_base.specs.Runners.{sequence_of}
use Rattle.task_model.specs.Sequences.{head_of}
use Rattle.task_model.specs.Seats.{Running, running, runs_sequence, is_free}
use Rattle.task_model.specs.Cells.{cell_of, main_cell_of}
use Rattle.task_model.specs.Jobs.{claimed, may_enter}
use Rattle.pool_laws.specs.Jobs.{MayEnter}
use Rattle.task_model.specs.Sources.{Candidate, best_of}
use Rattle.task_model.specs.MainQueues.{chosen_of}
use Rattle.hist_model.specs.Views.{own_entries}
use Rattle.hist_model.specs.Open.{is_guest}
use Rattle.hist_model.specs.Script.{is_wanted, is_finished}
use Rattle.hist_model.specs.Allowed.{enters_job, is_job, is_head_of, is_ready_worker, is_front, has_done, by_script, may_come}
use Rattle.pool_laws.specs.Keys.{IsHead}
use Rattle.hist_model.specs.Laws.Choice.{IsWaitingSource, IsTake, IsMainTake}
use Rattle.pool_laws.proofs.Choice.Least.{head_is}
use Rattle.hist_model.proofs.Laws.Choice.{Found, found, best_is, chosen_is}

-- a free worker that is no guest, while the script is not finished
pub record IsReadyWorker (script : Plan) (past : List Entry) (seat : ℕ) : Type 0 where
  pub worker : 1 ≤ seat
  pub known : seat ≤ script.workers
  pub free : is_free past seat ≡ true
  pub goes_on : is_finished script past ≡ false
  pub no_guest : is_guest script seat ≡ false

pub ready_worker : (script : Plan) (past : List Entry) (seat : ℕ) → is_ready_worker script past seat ≡ true → IsReadyWorker script past seat
ready_worker script past seat h =
    let guest = and_parts _ (not (is_guest script seat)) h in
    let last = and_parts _ (not (is_finished script past)) guest.0 in
    let third = and_parts _ (is_free past seat) last.0 in
    let first = and_parts (leb 1 seat) (leb seat script.workers) third.0 in
    record {
      worker = leb-true 1 seat first.0;
      known = leb-true seat script.workers first.1;
      free = third.1;
      goes_on = not-true (is_finished script past) last.1;
      no_guest = not-true (is_guest script seat) guest.1;
    }

pub take_is : (script : Plan) (past : List Entry) (seat task runner value : ℕ) → may_come script past seat (kinds.Take task runner value) ≡ true
    → IsTake script past seat task runner value
unfolding may_come
take_is script past seat task runner value h = of_best (found (λ c. is_head_of script past task runner value c.source) (best_of script past seat) (both.1))
  where
    both : (is_ready_worker script past seat ≡ true) × (holds_of (λ c. is_head_of script past task runner value c.source) (best_of script past seat) ≡ true)
    both = and_parts (is_ready_worker script past seat) _ h

    worker : IsReadyWorker script past seat
    worker = ready_worker script past seat both.0

    of_head : (s : ℕ) → runs_sequence script past s ≡ false → value ≡ cell_of script past s → (head : Ready) → IsHead script past s head
        → head.posted.task ≡ task → head.posted.home ≡ runner → IsTake script past seat task runner value
    of_head s idle cell head is task_is home_is = record {
      head = head;
      is_head = subst (λ x. IsHead script past x head) here is;
      task_is = task_is;
      home_is = home_is;
      not_running = ap (runs_sequence script past) (sym here) ∙ idle;
      not_taken = ap (is_taken past) (sym task_is) ∙ not-true (is_taken past head.posted.task)
          (and_parts (not (is_taken past head.posted.task)) (not (is_forbidden script past head.posted)) is.free).0;
      not_forbidden = not-true (is_forbidden script past head.posted)
          (and_parts (not (is_taken past head.posted.task)) (not (is_forbidden script past head.posted)) is.free).1;
      found_is = cell ∙ ap (cell_of script past) here;
      worker = worker.worker;
      known = worker.known;
      free = worker.free;
    }
      where
        here : s ≡ sequence_of script runner task
        here = sym (eqb-true (sequence_of script head.posted.home head.posted.task) s is.of_sequence) ∙ ap (λ r. sequence_of script r head.posted.task) home_is
            ∙ ap (sequence_of script runner) task_is

    of_source : (source : TaskSource) → IsWaitingSource script past source → is_head_of script past task runner value source ≡ true
        → IsTake script past seat task runner value
    of_source (Job j) waits k = absurd cc
    of_source (Sequence s) waits k =
        let parts = and_parts (holds_of (λ r. eqb r.posted.task task && eqb r.posted.home runner) (head_of script past s))
        (eqb value (cell_of script past s)) k in
        let head = found (λ r. eqb r.posted.task task && eqb r.posted.home runner) (head_of script past s) parts.0 in
        let same = and_parts (eqb head.value.posted.task task) (eqb head.value.posted.home runner) head.passes in
        of_head s waits.2 (eqb-true value (cell_of script past s) parts.1) head.value (head_is script past s head.value head.is) (eqb-true _ _ same.0)
        (eqb-true _ _ same.1)

    of_best : Found Candidate (λ c. is_head_of script past task runner value c.source) (best_of script past seat) → IsTake script past seat task runner value
    of_best c = of_source c.value.source (best_is script past seat c.value c.is).waits c.passes

-- what the script wants is the driver's
pub by_driver : (script : Plan) (past : List Entry) (seat : ℕ) (kind : Kind) → by_script script past seat kind ≡ true → seat ≡ 0
unfolding by_script
by_driver script past seat kind h = eqb-true seat 0 (and_parts (eqb seat 0) (is_wanted script (own_entries 0 past) kind) h).0

pub main_take_is : (script : Plan) (past : List Entry) (seat task queue value : ℕ) → may_come script past seat (kinds.MainTake task queue value) ≡ true
    → IsMainTake script past seat task queue value
unfolding may_come
main_take_is script past seat task queue value h =
    let last = and_parts _ (eqb value (main_cell_of past queue)) h in
    let wanted = and_parts (by_script script past seat (kinds.MainTake task queue value)) (holds_of (is_front task queue) (chosen_of script past)) last.0 in
    let front = found (is_front task queue) (chosen_of script past) wanted.1 in
    let same = and_parts (eqb front.value.task task) (eqb front.value.queue queue) front.passes in
    let is = chosen_is script past front.value front.is in
    record {
      front = front.value;
      is_front = is.0;
      opened = is.1;
      task_is = eqb-true front.value.task task same.0;
      queue_is = eqb-true front.value.queue queue same.1;
      found_is = eqb-true value (main_cell_of past queue) last.1;
      driver = by_driver script past seat (kinds.MainTake task queue value) wanted.0;
    }

-- a job is entered by a free worker whose best source it is, or by the script where it may be entered
pub job_take_is : (script : Plan) (past : List Entry) (seat job id item : ℕ) → may_come script past seat (kinds.JobTake job id item) ≡ true
    → (IsReadyWorker script past seat × (holds_of (λ c. is_job job c.source) (best_of script past seat) ≡ true))
    ⊎ ((by_script script past seat (kinds.JobTake job id item) ≡ true) × MayEnter script past job)
unfolding may_come
job_take_is script past seat job id item h =
    ⊎_elim (λ k. let parts = and_parts (is_ready_worker script past seat) (holds_of (λ c. is_job job c.source) (best_of script past seat)) k in
    inl (ready_worker script past seat parts.0, parts.1))
    (λ k. inr (and_parts (by_script script past seat (kinds.JobTake job id item)) (may_enter script past job) k))
    (or_cases (is_ready_worker script past seat && holds_of (λ c. is_job job c.source) (best_of script past seat))
    (by_script script past seat (kinds.JobTake job id item) && may_enter script past job)
    (and_parts (enters_job script past seat job (kinds.JobTake job id item)) _ (and_parts _ (eqb item (claimed past job)) h).0).0)

-- what is known of an allowed end: the seat runs the task, of the pool or a main task
pub end_is : (script : Plan) (past : List Entry) (seat task left : ℕ) → may_come script past seat (kinds.End task left) ≡ true
    → (w : Running) × (running past seat ≡ Some w) × (w.is_main ≡ false) × (w.task ≡ task)
unfolding may_come
end_is script past seat task left h =
    let w = found (λ w. not w.is_main && eqb w.task task && has_done script past seat left w) (running past seat) h in
    let parts = and_parts _ (eqb w.value.task task) (and_parts _ (has_done script past seat left w.value) w.passes).0 in
    (w.value, w.is, not-true w.value.is_main parts.0, eqb-true w.value.task task parts.1)

pub main_end_is : (script : Plan) (past : List Entry) (seat task left : ℕ) → may_come script past seat (kinds.MainEnd task left) ≡ true
    → (w : Running) × (running past seat ≡ Some w) × (w.is_main ≡ true) × (w.task ≡ task)
unfolding may_come
main_end_is script past seat task left h =
    let w = found (λ w. w.is_main && eqb w.task task && has_done script past seat left w) (running past seat) (and_parts (eqb seat 0) _ h).1 in
    let parts = and_parts _ (eqb w.value.task task) (and_parts _ (has_done script past seat left w.value) w.passes).0 in
    (w.value, w.is, parts.0, eqb-true w.value.task task parts.1)
