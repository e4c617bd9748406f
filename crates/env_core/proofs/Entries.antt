-- One more entry: when it may come, what the pool and the main queues ask before it, and that everything holds behind it.
-- Cited by 27 functions of `Env`.
use Rattle.env_core.proofs.Bodies.{bodies_kept}
use Rattle.env_core.proofs.Driver.{driver_moves, driver_waits, is_counted}
use Rattle.call_laws.proofs.Plain.{is_plain}
use Rattle.env_core.proofs.Wanted.{plain_allowed, wanted_by_script}
use Rattle.env_core.proofs.Declared.{main_post_is_sound, named, post_is_sound, queue_declared, runner_declared}
use Rattle.env_core.specs.Calls.{IsWantedNext}
use Rattle.env_core.specs.Drawer.{AreBodies, empties}
use Rattle.env_core.specs.Holds.{Holds}
use Rattle.env_core.specs.Ledger.{MayEnter}
use Rattle.env_core.specs.Views.{EnvView, Enters}
use Rattle.env_core.specs.declared.agenda.Shift.{Shift}
use Rattle.env_core.specs.declared.agenda.Shift.TheVariants as shifts
use Rattle.hist_model.proofs.Laws.Entries.Bound.{entries_within_limit}
use Rattle.hist_model.specs.Allowed.{IsAllowed}
use Rattle.pool_core.proofs.Calls.Others.{stands_at_still}
use Rattle.pool_core.specs.Calls.{CanPost, KnowsRunner}
use Rattle.pool_core.specs.Others.{is_still as pool_is_still}
use Rattle.pool_core.specs.StandsFor.{StandsFor}
use Rattle.pool_core.specs.declared.pool.Pool.{Pool}
use Rattle.sequence_manager.proofs.Others.{stands_still}
use Rattle.sequence_manager.specs.Calls.{CanPost as MainCanPost, HasQueue}
use Rattle.sequence_manager.specs.Others.{is_still}
use Rattle.sequence_manager.specs.StandsFor.{StandsFor as MainStandsFor}
use Rattle.sequence_manager.specs.declared.manager.Manager.{Manager}
use Rattle.script_model.specs.Laws.Sound.{IsSound}
use Rattle.std.proofs.Common.{List, Option, Some, [], arith, false, length, true, ℕ, ◌++◌, ◌<◌, ◌^◌, ◌∷◌, ◌≡◌, ◌≤◌}
use Rattle.std.proofs.lemmas.Bool.{ne_eqb}
use Rattle.std.specs.Prelude.{not}
use Rattle.task_base.specs.declared.entry.Entry.{Entry}
use Rattle.task_base.specs.declared.entry.Kind.{Kind}
use Rattle.task_base.specs.declared.entry.Kind.TheVariants as kinds
use Rattle.task_base.specs.declared.step.Step.{Step}
use Rattle.task_model.specs.Refusal.{is_closed, is_refused}
use Rattle.task_traits.specs.declared.traits.Priority.{Priority}

-- When it may come.

-- an entry that the script wants, and that counts
pub counts : {view : EnvView} {seat : ℕ} {kind : Kind} → IsWantedNext view seat kind → is_counted kind ≡ true
    → (IsSound view.script → IsAllowed view.script view.history (record { seat = seat; kind = kind })) → MayEnter view seat kind shifts.Counts
counts {view = view} {seat = seat} {kind = kind} wanted counted allowed = record {
  allowed = allowed;
  place = λ a run. driver_moves view.script view.history (record { seat = seat; kind = kind }) a run.plan (wanted_by_script view seat kind wanted) counted
      run.driver;
}

-- one of which the rules ask no more than that the script wants it
pub plain : {view : EnvView} {seat : ℕ} {kind : Kind} → IsWantedNext view seat kind → is_plain kind ≡ true → is_counted kind ≡ true
    → MayEnter view seat kind shifts.Counts
plain {view = view} {seat = seat} {kind = kind} wanted is counted = counts wanted counted (λ plan. plain_allowed view seat kind wanted is)

-- one of a worker
pub by_worker : {view : EnvView} {seat : ℕ} {kind : Kind} → 1 ≤ seat
    → (IsSound view.script → IsAllowed view.script view.history (record { seat = seat; kind = kind })) → MayEnter view seat kind shifts.Stays
by_worker {view = view} {seat = seat} {kind = kind} worker allowed = record {
  allowed = allowed;
  place = λ a run. driver_waits view.script view.history (record { seat = seat; kind = kind }) a (ne_eqb seat 0 (λ is. omega (arith, worker, is)))
      run.driver;
}

module _ {X : Type 0} {bodies : List (Option X)} {whole rest : X → List Step} {view : EnvView} {pool : Pool} {manager : Manager}
    (holds : Holds bodies whole rest view pool manager) where
  -- What the pool and the main queues ask.

  -- the number of entries fits a place
  pub few_entries : length view.history < 2 ^ 32
  few_entries = omega (arith, entries_within_limit view.script view.history holds.plan holds.legal)

  -- the pool's condition of a post
  pub can_post : (seat next task runner delay : ℕ) (shift : Shift) → next ≡ length view.history
      → MayEnter view seat (kinds.Post task runner delay (not (is_refused view.script view.history runner delay))) shift
      → CanPost view.script view.history pool next task runner delay
  can_post seat next task runner delay shift is may =
      let sound = post_is_sound view.script view.history seat task runner delay (not (is_refused view.script view.history runner delay)) holds.plan
      holds.legal (may.allowed holds.plan) in record {
        stands = holds.stands;
        place_is = is;
        runner_declared = sound.1;
        task_declared = sound.0;
        is_new = sound.3;
        delay_fits = sound.2;
      }

  -- the main queues' condition of a post, whose task is declared
  pub can_main_post : (seat next task queue delay : ℕ) (shift : Shift) → next ≡ length view.history
      → MayEnter view seat (kinds.Main task queue delay (not (is_closed view.history queue))) shift
      → MainCanPost view.script view.history manager next task queue delay × (task < length view.script.tasks)
  can_main_post seat next task queue delay shift is may =
      let sound = main_post_is_sound view.script view.history seat task queue delay (not (is_closed view.history queue)) holds.plan holds.legal
      (may.allowed holds.plan) in (
        record {
          stands = holds.main;
          place_is = is;
          few = few_entries;
          posted = sound.posted;
          is_new = sound.is_new;
          delay_fits = sound.delay_fits;
        },
        sound.task_declared,
      )

  -- the pool's condition of a changed priority: the runner is declared
  pub knows_runner : (seat runner : ℕ) (priority : Priority) → IsWantedNext view seat (kinds.Reprio runner priority)
      → KnowsRunner view.script view.history pool runner
  knows_runner seat runner priority wanted =
      record { stands = holds.stands; declared = runner_declared view seat runner priority holds.plan wanted }

  -- the main queues' condition of what the script does to one: the queue is declared
  pub at_queue : (seat queue : ℕ) (kind : Kind) → named kind ≡ Some queue → IsWantedNext view seat kind → HasQueue view.script view.history manager queue
  at_queue seat queue kind is wanted = record { stands = holds.main; declared = queue_declared view seat kind queue is holds.plan wanted }

  -- What holds behind it.

  -- an entry that is none of the main queues leaves them as they are
  pub main_still : (e : Entry) → is_still e.kind ≡ true → MainStandsFor view.script (view.history ++ e ∷ []) manager
  main_still e still = stands_still view.script view.history manager e still holds.main

  -- an entry that is none of the pool leaves it as it is
  pub pool_still : (e : Entry) → pool_is_still e.kind ≡ true → StandsFor view.script (view.history ++ e ∷ []) pool
  pool_still e still = stands_at_still view.script view.history e pool still holds.stands

  -- without one everything holds as before, where the pool stands for the same past
  pub holds_still : {pool_now : Pool} → StandsFor view.script view.history pool_now → Holds bodies whole rest view pool_now manager
  holds_still stands = record { plan = holds.plan; legal = holds.legal; stands = stands; main = holds.main; drawer = holds.drawer }

  -- everything holds behind an entry, where it does of each part
  pub holds_next : {after : EnvView} {seat : ℕ} {kind : Kind} {bodies_now : List (Option X)} {pool_now : Pool} {manager_now : Manager}
      → Enters view after seat kind → StandsFor view.script (view.history ++ (record { seat = seat; kind = kind }) ∷ []) pool_now
      → MainStandsFor view.script (view.history ++ (record { seat = seat; kind = kind }) ∷ []) manager_now
      → AreBodies bodies_now whole rest view.script (view.history ++ (record { seat = seat; kind = kind }) ∷ [])
      → Holds bodies_now whole rest after pool_now manager_now
  holds_next enters stands main drawer = record {
    plan = rw enters.entered holds.plan;
    legal = enters.legal;
    stands = rw enters.entered stands;
    main = rw enters.entered main;
    drawer = rw enters.entered drawer;
  }

  -- so it does behind one that neither takes a task nor refuses one
  pub holds_kept : {after : EnvView} {seat : ℕ} {kind : Kind} {pool_now : Pool} {manager_now : Manager} → Enters view after seat kind
      → ((t : ℕ) → empties t kind ≡ false) → StandsFor view.script (view.history ++ (record { seat = seat; kind = kind }) ∷ []) pool_now
      → MainStandsFor view.script (view.history ++ (record { seat = seat; kind = kind }) ∷ []) manager_now → Holds bodies whole rest after pool_now manager_now
  holds_kept {seat = seat} {kind = kind} enters kept stands main = holds_next enters stands main
      (bodies_kept bodies whole rest view.script view.history (record { seat = seat; kind = kind }) kept holds.drawer)

  -- and behind one of the pool alone, and one of the main queues alone
  pub holds_at_pool : {after : EnvView} {seat : ℕ} {kind : Kind} {pool_now : Pool} → Enters view after seat kind → is_still kind ≡ true
      → ((t : ℕ) → empties t kind ≡ false) → StandsFor view.script (view.history ++ (record { seat = seat; kind = kind }) ∷ []) pool_now
      → Holds bodies whole rest after pool_now manager
  holds_at_pool {seat = seat} {kind = kind} enters still kept stands =
      holds_kept enters kept stands (main_still (record { seat = seat; kind = kind }) still)

  pub holds_at_main : {after : EnvView} {seat : ℕ} {kind : Kind} {manager_now : Manager} → Enters view after seat kind → pool_is_still kind ≡ true
      → ((t : ℕ) → empties t kind ≡ false) → MainStandsFor view.script (view.history ++ (record { seat = seat; kind = kind }) ∷ []) manager_now
      → Holds bodies whole rest after pool manager_now
  holds_at_main {seat = seat} {kind = kind} enters still kept main =
      holds_kept enters kept (pool_still (record { seat = seat; kind = kind }) still) main
