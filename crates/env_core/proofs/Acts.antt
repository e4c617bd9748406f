-- What is known of a seat whose task does its next act step, and of one whose task has done all of them: the pool may hear of it.
-- Cited by 5 functions of `Env`.
use Rattle.env_core.proofs.Driver.{driver_ends, task_waits}
use Rattle.env_core.proofs.Plans.{act_is, runs_as}
use Rattle.hist_model.proofs.Laws.Wants.{next_is_of}
use Rattle.env_core.proofs.Queues.{accepted_right, is_scope, no_scope_steps}
use Rattle.env_core.proofs.Scopes.{closed_at_block, closed_at_end, open_at_unblock}
use Rattle.env_core.proofs.Wanted.{act_allowed, main_end_allowed}
use Rattle.env_core.specs.Calls.{CanEnd, CanEndMain, IsNextAct, act_of, entry_of, lets_in}
use Rattle.env_core.specs.Holds.{Holds}
use Rattle.env_core.specs.Ledger.{MayEnter}
use Rattle.env_core.specs.Views.{EnvView}
use Rattle.env_core.specs.declared.agenda.Shift.TheVariants as shifts
use Rattle.hist_model.proofs.Laws.Own.{acts_done_own, running_own}
use Rattle.hist_model.specs.Allowed.{IsAllowed}
use Rattle.hist_model.specs.Script.{is_main_end, is_main_none}
use Rattle.hist_model.specs.Views.{own_entries}
use Rattle.list_laws.proofs.Elements.{slice_get_all}
use Rattle.list_laws.proofs.Filters.{filter_passes}
use Rattle.pool_core.specs.Calls.{RunsClosed, RunsOpen}
use Rattle.pool_core.specs.Pasts.{pool_running}
use Rattle.pool_core.specs.declared.pool.Pool.{Pool}
use Rattle.sequence_manager.specs.Calls.{RunsMain}
use Rattle.sequence_manager.specs.declared.manager.Manager.{Manager}
use Rattle.script_model.specs.Laws.Sound.{IsSound}
use Rattle.std.proofs.Common.{Bool, List, Option, Some, ap, false, length, refl, subst, sym, true, ℕ, ◌<◌, ◌∙◌, ◌≡◌, ◌≤◌}
use Rattle.std.proofs.lemmas.Bool.{true≢false}
use Rattle.std.proofs.lemmas.Option.{option_and_then_some, same_Some}
use Rattle.std.specs.List.{AllByRecursion}
use Rattle.std.specs.Option.{IfSome, option_map}
use Rattle.std.specs.Prelude.{filter, is_some, slice_get}
use Rattle.task_base.specs.Steps.{after, is_act}
use Rattle.task_base.specs.declared.entry.Kind.{Kind}
use Rattle.task_base.specs.declared.entry.Kind.TheVariants as kinds
use Rattle.task_base.specs.declared.step.Scope.{Scope}
use Rattle.task_base.specs.declared.step.Step.{Step}
use Rattle.task_base.specs.declared.step.Step.TheVariants as steps
use Rattle.task_body.specs.Bodies.{AssignmentView}
use Rattle.task_body.specs.declared.act.Act.{Act}
use Rattle.task_body.specs.declared.act.Act.TheVariants as acts
use Rattle.task_model.specs.Capacity.{OpenScope}
use Rattle.task_model.specs.Seats.{Running, acts_done, next_act, running, steps_of}

-- The next act step.

-- what an act step answers, and what it does not
no_finished : (step : Step) → is_act step ≡ true → act_of step ≡ acts.Finished → ⊥
no_finished (steps.Post task runner delay) is same = absurd cc
no_finished (steps.Main task queue delay) is same = absurd cc
no_finished (steps.Block scope) is same = absurd cc
no_finished steps.Unblock is same = absurd cc
no_finished step is same = absurd cc

-- the act of a step is never that steps were computed
no_did : (step : Step) (count : ℕ) → act_of step ≡ acts.Did count → ⊥
no_did (steps.Post task runner delay) count same = absurd cc
no_did (steps.Main task queue delay) count same = absurd cc
no_did (steps.Block scope) count same = absurd cc
no_did steps.Unblock count same = absurd cc
no_did step count same = absurd cc

-- a step whose act opens a scope opens that scope
is_block : (step : Step) (scope : Scope) → acts.Enter scope ≡ act_of step → step ≡ steps.Block scope
is_block (steps.Block s) scope same = cc
is_block (steps.Post t r d) scope same = absurd cc
is_block (steps.Main t q d) scope same = absurd cc
is_block step scope same = absurd cc

-- a step whose act closes a scope closes one
is_unblock : (step : Step) → acts.Leave ≡ act_of step → step ≡ steps.Unblock
is_unblock steps.Unblock same = refl
is_unblock (steps.Post t r d) same = absurd cc
is_unblock (steps.Main t q d) same = absurd cc
is_unblock (steps.Block s) same = absurd cc
is_unblock step same = absurd cc

-- the seat runs a task, whose next act step this is; the entry of it is allowed
pub record DoesNext (view : EnvView) (seat : ℕ) (act : Act) : Type 0 where
  pub known : seat ≤ view.script.workers
  pub now : Running
  pub runs : running view.history seat ≡ Some now
  pub step : Step
  pub is_next : next_act view.script view.history seat ≡ Some step
  pub is_of : slice_get (filter is_act (steps_of view.script now.task)) (acts_done view.history seat) ≡ Some step
  pub is_act : is_act step ≡ true
  pub act_is : act ≡ act_of step
  pub allowed : IsSound view.script → (kind : Kind) → entry_of now.task act (lets_in view act) ≡ Some kind
      → IsAllowed view.script view.history (record { seat = seat; kind = kind })

-- the seat runs a task
pub runs_now : (view : EnvView) (seat : ℕ) (act : Act) → IsNextAct view seat act → (w : Running) × (running view.history seat ≡ Some w)
runs_now view seat act next = option_and_then_some _ (running (own_entries seat view.history) seat) next.step next.is_next
    (λ w runs _. (w, sym (running_own view.history seat) ∙ runs))

-- what is known of a seat that does its next act step
pub does_next : {view : EnvView} {seat : ℕ} {act : Act} → IsNextAct view seat act → DoesNext view seat act
does_next {view = view} {seat = seat} {act = act} next =
    let is_next : next_act view.script view.history seat ≡ Some next.step =
    rw (← running_own view.history seat, ← acts_done_own view.history seat) next.is_next in
    let (w, runs) = runs_now view seat act next in
    let is = next_is_of view.script view.history seat w next.step runs is_next in
    record {
      known = next.known;
      now = w;
      runs = runs;
      step = next.step;
      is_next = is_next;
      is_of = is;
      is_act = subst (λ o. IfSome o (λ s. is_act s ≡ true)) is (slice_get_all _ (filter is_act (steps_of view.script w.task))
          (acts_done view.history seat) (filter_passes is_act (steps_of view.script w.task)));
      act_is = next.is_act;
      allowed = λ plan kind is. act_allowed view seat act w kind plan.closed next runs is;
    }

-- its entry may come, and leaves the driver's place
pub may_enter : {view : EnvView} {seat : ℕ} {act : Act} {kind : Kind} (does : DoesNext view seat act)
    → entry_of does.now.task act (lets_in view act) ≡ Some kind → is_main_end kind ≡ false → is_main_none kind ≡ false
    → MayEnter view seat kind shifts.Stays
may_enter {view = view} {seat = seat} {kind = kind} does is ends none = record {
  allowed = λ plan. does.allowed plan kind is;
  place = λ a run. task_waits view.script view.history (record { seat = seat; kind = kind }) a does.now run.plan run.legal does.runs ends none run.driver;
}

-- the task is the one that the pool says that the seat runs
pub told_task : {view : EnvView} {seat : ℕ} {act : Act} {told : Option ℕ} {task : ℕ} (does : DoesNext view seat act)
    → does.now.is_main ≡ false → told ≡ option_map (λ v. v.task) (pool_running view.history seat) → told ≡ Some task → task ≡ does.now.task
told_task does pool is some = same_Some _ _ (sym some ∙ is ∙ rw (does.runs, pool) refl)

-- the pool says which task the seat runs, if it is one of the pool
pub is_told : {view : EnvView} {seat : ℕ} {act : Act} {told : Option ℕ} (does : DoesNext view seat act)
    → does.now.is_main ≡ false → told ≡ option_map (λ v. v.task) (pool_running view.history seat) → is_some told ≡ true
is_told does pool is = rw (is, does.runs, pool) refl

-- it is an act
pub not_did : {view : EnvView} {seat : ℕ} {act : Act} → DoesNext view seat act → (count : ℕ) → act ≡ acts.Did count → ⊥
not_did does count is = no_did does.step count (sym does.act_is ∙ is)

-- it is not the end of the steps
pub not_finished : {view : EnvView} {seat : ℕ} {act : Act} → DoesNext view seat act → act ≡ acts.Finished → ⊥
not_finished does is = no_finished does.step does.is_act (sym does.act_is ∙ is)

-- a task that opens or closes a scope is one of the pool, which a worker runs
pub record IsAtScope (seat : ℕ) (w : Running) : Type 0 where
  pub is_pool : w.is_main ≡ false
  pub worker : 1 ≤ seat

module _ {X : Type 0} {bodies : List (Option X)} {whole rest : X → List Step} {view : EnvView} {pool : Pool} {manager : Manager}
    (holds : Holds bodies whole rest view pool manager) where
  -- where the next step is one of a scope, a worker runs a task of the pool, since no main task has such steps
  at_scope : {seat : ℕ} {act : Act} (does : DoesNext view seat act) → is_scope does.step ≡ true → IsAtScope seat does.now
  at_scope {seat = seat} does scope = by_main does.now.is_main refl
    where
      by_main : (main : Bool) → does.now.is_main ≡ main → IsAtScope seat does.now
      by_main false is = record { is_pool = is; worker = (runs_as view.script view.history seat does.now false holds.legal does.runs is).can.worker refl }
      by_main true is =
          let runs = (runs_as view.script view.history seat does.now true holds.legal does.runs is).can in
          let right = accepted_right view.script view.history runs.accepted holds.plan holds.main.past_fits runs.posted in
          let none = subst (λ t. AllByRecursion (λ s. is_scope s ≡ false) (steps_of view.script t)) runs.task_is
          (no_scope_steps view.script runs.accepted.task runs.accepted.home holds.plan right) in
          absurd (true≢false (sym scope ∙ act_is (λ s. is_scope s ≡ false) (steps_of view.script does.now.task)
          (acts_done view.history seat) does.step none does.is_of))

  -- where the next step opens a scope, a worker runs a task of the pool
  pub at_enter : {seat : ℕ} {scope : Scope} (does : DoesNext view seat (acts.Enter scope)) → IsAtScope seat does.now
  at_enter {scope = scope} does = at_scope does (ap is_scope (is_block does.step scope does.act_is))

  -- where the next step closes a scope, a worker runs a task of the pool
  pub at_leave : {seat : ℕ} (does : DoesNext view seat acts.Leave) → IsAtScope seat does.now
  at_leave does = at_scope does (ap is_scope (is_unblock does.step does.act_is))

  -- the task may open a scope, and close it
  pub enter_closed : {seat : ℕ} {scope : Scope} (does : DoesNext view seat (acts.Enter scope)) → RunsClosed view.script view.history pool seat does.now
  enter_closed {seat = seat} {scope = scope} does = record {
    stands = holds.stands;
    runs = does.runs;
    is_pool = (at_enter does).is_pool;
    closed = closed_at_block view.script view.history seat does.now scope holds.plan holds.legal does.runs (at_enter does).is_pool (rw
        (is_block does.step scope does.act_is) at does.is_next);
  }

  -- where the next step closes a scope, one is open
  pub leave_open : {seat : ℕ} (does : DoesNext view seat acts.Leave) → (opened : OpenScope) × RunsOpen view.script view.history pool seat does.now opened
  leave_open {seat = seat} does =
      let pool = (at_leave does).is_pool in
      let is_open = open_at_unblock view.script view.history seat does.now holds.plan holds.legal does.runs pool (rw
      (is_unblock does.step does.act_is) at does.is_next) in
      (is_open.0, record { stands = holds.stands; runs = does.runs; is_pool = pool; opens = is_open.1 })

  -- The end of a task.

  -- the task is under way and has no scope open
  pub end_closed : {seat : ℕ} {work : AssignmentView} (can : CanEnd view seat work) → RunsClosed view.script view.history pool seat can.seats.now
  end_closed {seat = seat} {work = work} can = record {
    stands = holds.stands;
    runs = runs;
    is_pool = can.is_pool;
    closed = closed_at_end view.script view.history seat can.seats.now holds.plan holds.legal runs can.is_pool all;
  }
    where
      runs : running view.history seat ≡ Some can.seats.now
      runs = rw (← running_own view.history seat) can.seats.runs

      all : acts_done view.history seat ≡ length (filter is_act (steps_of view.script can.seats.now.task))
      all = rw (← acts_done_own view.history seat, ← can.seats.whole_is) can.all_entered

  -- a worker runs it
  pub ends_at_worker : {seat : ℕ} {work : AssignmentView} → CanEnd view seat work → 1 ≤ seat
  ends_at_worker {seat = seat} can =
      (runs_as view.script view.history seat can.seats.now false holds.legal (end_closed can).runs can.is_pool).can.worker refl

  -- the driver runs the main task of this queue
  pub runs_main : {seat : ℕ} {work : AssignmentView} (can : CanEndMain view seat work)
      → (seat ≡ 0) × (running view.history 0 ≡ Some can.seats.now) × RunsMain view.script view.history manager work.home can.seats.now
  runs_main {seat = seat} can =
      let here : running view.history seat ≡ Some can.seats.now = rw (← running_own view.history seat) can.seats.runs in
      let runs = (runs_as view.script view.history seat can.seats.now true holds.legal here can.is_main).can in
      let right = accepted_right view.script view.history runs.accepted holds.plan holds.main.past_fits runs.posted in
      let driver : running view.history 0 ≡ Some can.seats.now = ap (running view.history) (sym (runs.driver refl)) ∙ here in (
        runs.driver refl,
        driver,
        record {
          stands = holds.main;
          declared = subst (λ q. q < length view.script.queues) (runs.home_is ∙ sym can.seats.home_is) right.queue_declared;
          runs = rw (driver, can.is_main) refl;
          home_is = sym can.seats.home_is;
        },
      )

  -- its end may come, and counts
  pub may_end_main : {seat : ℕ} {work : AssignmentView} → CanEndMain view seat work → work.value ≡ after work.whole work.found
      → MayEnter view seat (kinds.MainEnd work.task work.value) shifts.Counts
  may_end_main {seat = seat} {work = work} can left =
      let (driver, runs, _) = runs_main can in
      record {
        allowed = λ plan. main_end_allowed view seat work plan.closed holds.legal can left;
        place = λ a run. driver_ends view.script view.history (record { seat = seat; kind = kinds.MainEnd work.task work.value }) a can.seats.now run.plan
            run.legal runs driver refl refl run.driver;
      }
