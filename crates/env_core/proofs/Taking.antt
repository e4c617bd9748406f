-- A seat takes a task or an item: what the pool and the main queues ask, the body that leaves the drawer, and when the entry may come.
-- Cited by `Env::has_own_work`, `Env::has_work`, `Env::main_take`, `Env::take`.
use Rattle.env_core.proofs.Bodies.{accepted_in_drawer, body_there, main_accepted_in_drawer}
use Rattle.env_core.proofs.Driver.{driver_passes, driver_takes}
use Rattle.env_core.proofs.Own.{pass_is_own}
use Rattle.hist_model.proofs.Laws.Wants.{driver_runs_nothing}
use Rattle.env_core.proofs.Queues.{accepted_right}
use Rattle.env_core.proofs.Wanted.{main_none_allowed, main_take_allowed, wanted_by_script, wants_take}
use Rattle.env_core.specs.Calls.{IsFreeWorker, IsWantedNext}
use Rattle.env_core.specs.Holds.{Holds}
use Rattle.env_core.specs.Jobs.{HasTakenItem}
use Rattle.env_core.specs.Ledger.{MayEnter}
use Rattle.env_core.specs.Views.{EnvView, Enters}
use Rattle.env_core.specs.declared.agenda.Shift.TheVariants as shifts
use Rattle.hist_model.proofs.Laws.Choice.{best_is, chosen_is}
use Rattle.hist_model.proofs.Laws.Own.{holding_own, running_own}
use Rattle.hist_model.specs.Script.{is_finished}
use Rattle.hist_model.specs.Views.{own_entries}
use Rattle.list_laws.proofs.Elements.{AllByRecursion-contains}
use Rattle.pool_core.proofs.Accepted.{head_accepted}
use Rattle.pool_core.specs.Calls.{CanTake, IsEntered, IsTaken, KnowsSeat}
use Rattle.pool_core.specs.Pasts.{IsDeclared}
use Rattle.pool_core.specs.declared.pool.Pool.{Pool}
use Rattle.pool_laws.proofs.Room.Capacity.{free_parts}
use Rattle.sequence_manager.specs.Calls.{CanTake as MainCanTake, IsTaken as MainIsTaken}
use Rattle.sequence_manager.specs.declared.manager.Manager.{Manager}
use Rattle.std.proofs.Common.{List, None, Option, Some, ap, false, refl, subst, sym, ℕ, ◌≤◌, ◌∙◌, ◌≡◌}
use Rattle.std.specs.Prelude.{slice_get}
use Rattle.task_base.specs.Runners.{sequence_of}
use Rattle.task_base.specs.declared.entry.Kind.{Kind}
use Rattle.task_base.specs.declared.entry.Kind.TheVariants as kinds
use Rattle.task_base.specs.declared.step.Step.{Step}
use Rattle.task_model.specs.MainQueues.{chosen_of}
use Rattle.task_model.specs.Posts.{is_main_taken, posts}
use Rattle.task_model.specs.Sources.{job_candidate}

-- the seat has gone into the job, which is its best source and so may be entered
pub has_taken_item : {view after : EnvView} {seat job id item : ℕ} → is_finished view.script view.history ≡ false
    → IsEntered view.script view.history seat job id item → Enters view after seat (kinds.JobTake job id item)
    → HasTakenItem view after seat (record { job = job; id = id; item = item })
has_taken_item {view = view} {after = after} {seat = seat} {job = job} {id = id} {item = item} unfinished entered enters = record {
  unfinished = unfinished;
  post = entered.post;
  is_post = entered.is_post;
  is_best = entered.is_best;
  goes_in = record {
    enters = enters;
    may = (best_is view.script view.history seat (job_candidate view.script view.history job entered.post) entered.is_best).waits;
    id_is = entered.id_is;
    item_is = entered.item_is;
    seats = pass_is_own view after seat (kinds.JobTake job id item) (record { job = job; id = id; item = item }) enters (λ old. refl);
  };
}

-- the driver may enter the take of the chosen front, which leaves its place
pub may_take_main : {view : EnvView} {seat task queue found : ℕ} → IsWantedNext view seat kinds.MainNone
    → MainIsTaken view.script view.history task queue found → MayEnter view seat (kinds.MainTake task queue found) shifts.Stays
may_take_main {view = view} {seat = seat} {task = task} {queue = queue} {found = found} wanted taken = record {
  allowed = λ plan. main_take_allowed view seat task queue found taken.front plan.closed wanted taken.chosen taken.task_is taken.queue_is taken.cell_is;
  place = λ a run. driver_takes view.script view.history (record { seat = seat; kind = kinds.MainTake task queue found }) a run.plan
      (wanted_by_script view seat (kinds.MainTake task queue found) (wants_take view seat task queue found run.plan.closed wanted)) refl refl refl run.driver;
}

-- and that there is none, which completes its action
pub may_find_none : {view : EnvView} {seat : ℕ} → IsWantedNext view seat kinds.MainNone → chosen_of view.script view.history ≡ None
    → MayEnter view seat kinds.MainNone shifts.Completes
may_find_none {view = view} {seat = seat} wanted none = record {
  allowed = λ plan. main_none_allowed view seat wanted none;
  place = λ a run. driver_passes view.script view.history seat a run.plan (wanted_by_script view seat kinds.MainNone wanted) run.driver;
}

module _ {X : Type 0} {bodies : List (Option X)} {whole rest : X → List Step} {view : EnvView} {pool : Pool} {manager : Manager}
    (holds : Holds bodies whole rest view pool manager) where
  -- the pool may be asked for a task of a free worker
  pub can_take : {seat : ℕ} → IsFreeWorker view seat → CanTake view.script view.history pool seat
  can_take {seat = seat} free = record {
    stands = holds.stands;
    worker = free.worker;
    known = free.known;
    free = sym (running_own view.history seat) ∙ (free_parts (own_entries seat view.history) seat free.free).0;
    holds_nothing = sym (holding_own view.history seat) ∙ (free_parts (own_entries seat view.history) seat free.free).1;
  }

  -- the pool may be asked for what a seat of the script would get
  pub knows_seat : {seen : EnvView} {seat : ℕ} → view ≡ seen → seat ≤ seen.script.workers → KnowsSeat view.script view.history pool seat
  knows_seat {seat = seat} is known = record { stands = holds.stands; known = subst (λ (v : EnvView). seat ≤ v.script.workers) (sym is) known }

  -- the task that is taken was accepted and not taken, and its body is there
  pub taken_body : {seat task runner found : ℕ} → IsTaken view.script view.history seat task runner found
      → (body : X) × (slice_get bodies task ≡ Some (Some body))
  taken_body {task = task} {runner = runner} is =
      let head = head_accepted view.script view.history (sequence_of view.script runner task) is.head is.is_head in
      let declared : IsDeclared view.script is.head.posted =
      AllByRecursion-contains (IsDeclared view.script) (posts view.history) is.head.posted holds.stands.past_fits.declared head.0 in
      let there = body_there bodies whole rest view.script view.history is.head.posted.task holds.drawer declared.1
      (accepted_in_drawer view.script view.history is.head.posted holds.plan.once.posted_once holds.legal head.0 head.2) in
      (there.0, subst (λ t. slice_get bodies t ≡ Some (Some there.0)) is.task_is there.1)

  -- the main queues may be asked for a task where the script wants one
  pub can_main_take : {seat : ℕ} {kind : Kind} → IsWantedNext view seat kind → MainCanTake view.script view.history manager
  can_main_take {seat = seat} {kind = kind} next = record {
    stands = holds.main;
    idle = rw (driver_runs_nothing view.script view.history seat kind holds.plan.closed holds.legal (wanted_by_script view seat kind next)) refl;
  }

  -- the main task that is taken was accepted and not taken, and its body is there
  pub main_taken_body : {task queue found : ℕ} → MainIsTaken view.script view.history task queue found
      → (body : X) × (slice_get bodies task ≡ Some (Some body))
  main_taken_body is =
      let front = (chosen_is view.script view.history is.front is.chosen).0 in
      let declared = (accepted_right view.script view.history front.accepted holds.plan holds.main.past_fits front.posted).task_declared in
      let untaken : is_main_taken view.history front.accepted.task ≡ false = ap (is_main_taken view.history) front.task_is ∙ front.not_taken in
      let there = body_there bodies whole rest view.script view.history front.accepted.task holds.drawer declared
      (main_accepted_in_drawer view.script view.history front.accepted holds.plan.once.posted_once holds.legal front.posted untaken) in
      (there.0, subst (λ t. slice_get bodies t ≡ Some (Some there.0)) (front.task_is ∙ is.task_is) there.1)
