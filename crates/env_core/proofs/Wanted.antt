-- An entry that the script wants next, or that is the next act step of a task, may come where its machine's rule holds.
-- Cited by 8 functions of `Env`, `Acts`, `Declared`, `Entries`, `JobCalls`, `JobEntries`, `Taking`.
use Rattle.hist_model.proofs.Laws.Progress.Pump.{none_open}
use Rattle.hist_model.proofs.Laws.Wants.{by_next, driver_holds_nothing, driver_runs_nothing}
use Rattle.call_laws.proofs.Idle.{free_where_none_runs}
use Rattle.call_laws.proofs.Plain.{is_plain, plain_may_come}
use Rattle.env_core.proofs.Plans.{runs_as}
use Rattle.env_core.specs.Calls.{CanEnd, CanEndMain, IsFreeWorker, IsIdle, IsNextAct, IsWantedNext, act_of, entry_of, lets_in}
use Rattle.env_core.specs.Views.{EnvView}
use Rattle.hist_model.proofs.Laws.OneThing.{wanted_by}
use Rattle.hist_model.proofs.Laws.Open.{closed_acts, closed_enters, closed_guest, closed_leaves, closed_main, closed_post, closed_wanted}
use Rattle.hist_model.proofs.Laws.Own.{acts_done_own, holding_own, running_own}
use Rattle.hist_model.specs.Allowed.{IsAllowed, by_script, by_task, enters, is_reply, may_come, same_scope}
use Rattle.hist_model.specs.Legal.{IsLegal}
use Rattle.hist_model.specs.Open.{IsClosed}
use Rattle.hist_model.specs.Script.{is_finished, wants}
use Rattle.hist_model.specs.Views.{own_entries}
use Rattle.list_laws.proofs.Elements.{AllByRecursion-map}
use Rattle.list_laws.proofs.Options.{AllByRecursion-not_any}
use Rattle.list_laws.proofs.Tests.{list_all-from_recursion}
use Rattle.list_laws.proofs.Values.{eqb-same, some-injective}
use Rattle.pool_core.specs.Calls.{IsEntered, IsTaken}
use Rattle.pool_laws.proofs.Seats.Running.{free_is_quiet}
use Rattle.std.proofs.Common.{Bool, List, None, Option, Some, ap, arith, eqb, false, length, refl, subst, sym, true, ℕ, ◌∙◌, ◌≡◌, ◌≤◌}
use Rattle.std.proofs.lemmas.Bool.{eq-eqb, le-leb}
use Rattle.std.proofs.lemmas.Option.{none-some}
use Rattle.std.specs.List.{list_all}
use Rattle.std.specs.Prelude.{filter, is_none, is_some, not, ◌&&◌, ◌||◌}
use Rattle.task_base.specs.Plan.{Plan}
use Rattle.task_base.specs.Steps.{after, is_act}
use Rattle.task_base.specs.declared.entry.Entry.{Entry}
use Rattle.task_base.specs.declared.entry.Kind.{Kind}
use Rattle.task_base.specs.declared.limits.TheConstants.{LAST_MOMENT}
use Rattle.task_base.specs.declared.script.Action.{Action}
use Rattle.task_base.specs.declared.step.Scope.{Scope}
use Rattle.task_base.specs.declared.step.Scope.TheVariants.{May, Will}
use Rattle.task_base.specs.declared.step.Step.{Step}
use Rattle.task_body.specs.Bodies.{AssignmentView}
use Rattle.task_body.specs.declared.act.Act.{Act}
use Rattle.task_model.specs.Blockers.{blockers_of}
use Rattle.task_model.specs.Phase.{phase_of}
use Rattle.task_model.specs.Cells.{main_cell_of}
use Rattle.task_model.specs.MainQueues.{Front, chosen_of}
use Rattle.task_model.specs.Refusal.{is_closed, is_refused}
use Rattle.task_model.specs.Seats.{Running, is_free, next_act, running, steps_of, worker_seats}
use Rattle.task_model.specs.Sources.{best_of}
use Rattle.task_model.specs.Time.{now_of}
use Rattle.task_base.specs.declared.entry.Kind.TheVariants as kinds
use Rattle.task_base.specs.declared.script.Action.TheVariants as actions
use Rattle.task_base.specs.declared.step.Step.TheVariants as steps
use Rattle.task_traits.specs.declared.phase.Phase.TheVariants as phases

-- an entry of a seat of the script is allowed where its kind may come
known_allowed : (view : EnvView) (seat : ℕ) (kind : Kind) → seat ≤ view.script.workers → may_come view.script view.history seat kind ≡ true
    → IsAllowed view.script view.history (record { seat = seat; kind = kind })
known_allowed view seat kind known may = rw (le-leb seat view.script.workers known, may) refl

-- an entry of the driver's seat that may come is allowed
pub driver_allowed : (view : EnvView) (seat : ℕ) (kind : Kind) → seat ≡ 0 → may_come view.script view.history seat kind ≡ true
    → IsAllowed view.script view.history (record { seat = seat; kind = kind })
driver_allowed view seat kind driver = known_allowed view seat kind (omega (arith, driver))

-- an entry by the script may come, by what its kind asks besides
pub wanted_by_script : (view : EnvView) (seat : ℕ) (kind : Kind) → IsWantedNext view seat kind → by_script view.script view.history seat kind ≡ true
unfolding by_script
wanted_by_script view seat kind next = rw (next.driver) next.wanted

-- a post that is wanted may come by its reply
post_may_come : (script : Plan) (past : List Entry) (seat task runner delay : ℕ) (ok : Bool) → IsClosed script
    → (by_script script past seat (kinds.Post task runner delay ok) || by_task script past seat (kinds.Post task runner delay ok)) ≡ true
    → ok ≡ not (is_refused script past runner delay) → may_come script past seat (kinds.Post task runner delay ok) ≡ true
post_may_come script past seat task runner delay ok closed wanted reply =
    closed_post script past seat task runner delay ok closed ∙ rw (wanted, reply) (says (is_refused script past runner delay))
  where
    says : (refused : Bool) → is_reply refused (not refused) ≡ true
    says true = refl
    says false = refl

-- a post with the right reply, which the script wants
pub post_allowed : (view : EnvView) (seat task runner delay : ℕ) (ok : Bool) → IsClosed view.script → IsWantedNext view seat (kinds.Post task runner delay ok)
    → ok ≡ not (is_refused view.script view.history runner delay)
    → IsAllowed view.script view.history (record { seat = seat; kind = kinds.Post task runner delay ok })
post_allowed view seat task runner delay ok closed next reply = driver_allowed view seat (kinds.Post task runner delay ok) next.driver
    (post_may_come view.script view.history seat task runner delay ok closed
    (rw (wanted_by_script view seat (kinds.Post task runner delay ok) next) refl) reply)

-- so may a post to a main queue
main_may_come : (script : Plan) (past : List Entry) (seat task queue delay : ℕ) (ok : Bool) → IsClosed script
    → (by_script script past seat (kinds.Main task queue delay ok) || by_task script past seat (kinds.Main task queue delay ok)) ≡ true
    → ok ≡ not (is_closed past queue) → may_come script past seat (kinds.Main task queue delay ok) ≡ true
main_may_come script past seat task queue delay ok closed wanted reply =
    closed_main script past seat task queue delay ok closed ∙ rw (wanted, reply) (says (is_closed past queue))
  where
    says : (refused : Bool) → is_reply refused (not refused) ≡ true
    says true = refl
    says false = refl

-- a post to a main queue with the right reply, which the script wants
pub main_post_allowed : (view : EnvView) (seat task queue delay : ℕ) (ok : Bool) → IsClosed view.script
    → IsWantedNext view seat (kinds.Main task queue delay ok) → ok ≡ not (is_closed view.history queue)
    → IsAllowed view.script view.history (record { seat = seat; kind = kinds.Main task queue delay ok })
main_post_allowed view seat task queue delay ok closed next reply = driver_allowed view seat (kinds.Main task queue delay ok) next.driver
    (main_may_come view.script view.history seat task queue delay ok closed
    (rw (wanted_by_script view seat (kinds.Main task queue delay ok) next) refl) reply)

-- a plain entry is allowed where it is wanted
pub plain_allowed : (view : EnvView) (seat : ℕ) (kind : Kind) → IsWantedNext view seat kind → is_plain kind ≡ true
    → IsAllowed view.script view.history (record { seat = seat; kind = kind })
plain_allowed view seat kind next is = driver_allowed view seat kind next.driver
    (plain_may_come view.script view.history seat kind is (wanted_by_script view seat kind next))

-- inside a pump, the script wants the take of any main task where it wants that none is found
take_wanted : (own : List Entry) (x : Action) (made : List Entry) (task queue value : ℕ) → wants own x made kinds.MainNone ≡ true
    → wants own x made (kinds.MainTake task queue value) ≡ true
take_wanted own (actions.Pump n) made task queue value h = h
take_wanted own x made task queue value h = absurd cc

-- the script wants the take of any main task where it wants that none is found
pub wants_take : (view : EnvView) (seat task queue value : ℕ) → IsClosed view.script → IsWantedNext view seat kinds.MainNone
    → IsWantedNext view seat (kinds.MainTake task queue value)
wants_take view seat task queue value closed next =
    let c = wanted_by view.script view.history seat kinds.MainNone closed (wanted_by_script view seat kinds.MainNone next) in
    record {
      driver = next.driver;
      wanted = closed_wanted view.script (own_entries 0 view.history) (kinds.MainTake task queue value) closed
          ∙ rw c.is (take_wanted (own_entries 0 view.history) c.value.action c.value.made task queue value c.passes);
    }

-- the take of the chosen front, inside a pump
pub main_take_allowed : (view : EnvView) (seat task queue value : ℕ) (front : Front) → IsClosed view.script
    → IsWantedNext view seat kinds.MainNone → chosen_of view.script view.history ≡ Some front → front.task ≡ task → front.queue ≡ queue
    → value ≡ main_cell_of view.history queue → IsAllowed view.script view.history (record { seat = seat; kind = kinds.MainTake task queue value })
unfolding may_come
main_take_allowed view seat task queue value front closed next chosen task_is queue_is value_is =
    driver_allowed view seat (kinds.MainTake task queue value) next.driver
    (rw (
      wanted_by_script view seat (kinds.MainTake task queue value) (wants_take view seat task queue value closed next),
      chosen,
      eq-eqb _ _ task_is,
      eq-eqb _ _ queue_is,
      eq-eqb _ _ value_is,
    ) refl)

-- that none is found where no front is chosen, inside a pump
pub main_none_allowed : (view : EnvView) (seat : ℕ) → IsWantedNext view seat kinds.MainNone → chosen_of view.script view.history ≡ None
    → IsAllowed view.script view.history (record { seat = seat; kind = kinds.MainNone })
unfolding may_come
main_none_allowed view seat next none = driver_allowed view seat kinds.MainNone next.driver
    (rw (wanted_by_script view seat kinds.MainNone next, none_open view.script view.history none) refl)

-- the end of a main task of which no step is left
pub main_end_allowed : (view : EnvView) (seat : ℕ) (work : AssignmentView) → IsClosed view.script → IsLegal view.script view.history
    → CanEndMain view seat work → work.value ≡ after work.whole work.found
    → IsAllowed view.script view.history (record { seat = seat; kind = kinds.MainEnd work.task work.value })
unfolding may_come
main_end_allowed view seat work closed legal can left =
    let runs : running view.history seat ≡ Some can.seats.now = sym (running_own view.history seat) ∙ can.seats.runs in
    let driver = (runs_as view.script view.history seat can.seats.now true legal runs can.is_main).can.driver refl in
    driver_allowed view seat (kinds.MainEnd work.task work.value) driver
    (rw (
      eq-eqb seat 0 driver,
      runs,
      can.is_main,
      closed_acts view.script view.history seat can.seats.now closed,
      eq-eqb _ _ (sym can.seats.task_is),
      ← acts_done_own view.history seat,
      can.all_entered,
      eq-eqb _ _ (ap (λ xs. length (filter is_act xs)) can.seats.whole_is),
      eq-eqb _ _ value_is,
    ) refl)
  where
    value_is : work.value ≡ after (steps_of view.script can.seats.now.task) can.seats.now.found
    value_is = left ∙ rw (can.seats.whole_is, can.seats.found_is) refl

-- a tick at a moment that is not before the last one
pub tick_allowed : (view : EnvView) (seat moment : ℕ) → IsWantedNext view seat (kinds.Tick moment) → now_of view.history ≤ moment → moment ≤ LAST_MOMENT
    → IsAllowed view.script view.history (record { seat = seat; kind = kinds.Tick moment })
unfolding may_come
tick_allowed view seat moment next later last = driver_allowed view seat (kinds.Tick moment) next.driver
    (rw (wanted_by_script view seat (kinds.Tick moment) next, le-leb (now_of view.history) moment later, le-leb moment LAST_MOMENT last) refl)

-- the end of shutdown, where it has started and nothing blocks it
pub done_allowed : (view : EnvView) (seat : ℕ) → IsWantedNext view seat kinds.Done → phase_of view.history ≡ phases.Started
    → blockers_of view.script view.history ≡ 0 → IsAllowed view.script view.history (record { seat = seat; kind = kinds.Done })
unfolding may_come
done_allowed view seat next started none = driver_allowed view seat kinds.Done next.driver
    (rw (wanted_by_script view seat kinds.Done next, started, none) refl)

-- that the pool is idle, where nothing runs and nothing may be taken
pub idle_allowed : (view : EnvView) (seat : ℕ) → IsClosed view.script → IsLegal view.script view.history → IsWantedNext view seat kinds.Idle
    → IsIdle view → IsAllowed view.script view.history (record { seat = seat; kind = kinds.Idle })
unfolding may_come
idle_allowed view seat closed legal next idle = driver_allowed view seat kinds.Idle next.driver
    (rw (
      wanted_by_script view seat kinds.Idle next,
      free_is_quiet view.script view.history (λ s known. free_where_none_runs view.script view.history s legal is_free_driver (omega (arith, known)) idle.0),
      none_ready,
    ) refl)
  where
    is_free_driver : is_free view.history 0 ≡ true
    is_free_driver = rw (
      driver_runs_nothing view.script view.history seat kinds.Idle closed legal (wanted_by_script view seat kinds.Idle next),
      driver_holds_nothing view.script view.history seat kinds.Idle closed legal (wanted_by_script view seat kinds.Idle next),
    ) refl

    none_ready : list_all (λ worker. is_none (best_of view.script view.history worker)) (worker_seats view.script) ≡ true
    none_ready = list_all-from_recursion _ _ (AllByRecursion-map _ _ (worker_seats view.script)
        (λ worker none. no_best (best_of view.script view.history worker) none)
        (AllByRecursion-not_any _ (worker_seats view.script) idle.1))
      where
        no_best : {A : Type 0} (o : Option A) → is_some o ≡ false → is_none o ≡ true
        no_best None h = refl
        no_best (Some x) h = absurd cc

-- the take of the head of a free worker's best source
pub take_allowed : (view : EnvView) (seat task runner found : ℕ) → IsClosed view.script → IsFreeWorker view seat
    → is_finished view.script view.history ≡ false → IsTaken view.script view.history seat task runner found
    → IsAllowed view.script view.history (record { seat = seat; kind = kinds.Take task runner found })
unfolding may_come
take_allowed view seat task runner found closed worker unfinished is = known_allowed view seat (kinds.Take task runner found) worker.known
    (rw (
      le-leb 1 seat worker.worker,
      le-leb seat view.script.workers worker.known,
      ← running_own view.history seat,
      ← holding_own view.history seat,
      worker.free,
      unfinished,
      closed_guest view.script seat closed,
      is.is_best,
      is.is_head,
      eq-eqb _ _ is.task_is,
      eq-eqb _ _ is.runner_is,
      eq-eqb _ _ is.found_is,
    ) refl)

-- the take of an item of the job that is a free worker's best source
pub item_allowed : (view : EnvView) (seat job id item : ℕ) → IsClosed view.script → IsFreeWorker view seat
    → is_finished view.script view.history ≡ false → IsEntered view.script view.history seat job id item
    → IsAllowed view.script view.history (record { seat = seat; kind = kinds.JobTake job id item })
unfolding may_come
item_allowed view seat job id item closed worker unfinished is = known_allowed view seat (kinds.JobTake job id item) worker.known
    (rw (
      le-leb 1 seat worker.worker,
      le-leb seat view.script.workers worker.known,
      ← running_own view.history seat,
      ← holding_own view.history seat,
      worker.free,
      unfinished,
      closed_guest view.script seat closed,
      is.is_best,
      is.id_is,
      eqb-same job,
      eqb-same id,
      eq-eqb _ _ is.item_is,
    ) refl)

-- the end of a task of the pool of which no step is left
pub end_allowed : (view : EnvView) (seat : ℕ) (work : AssignmentView) → IsClosed view.script → CanEnd view seat work → work.value ≡ after work.whole work.found
    → IsAllowed view.script view.history (record { seat = seat; kind = kinds.End work.task work.value })
unfolding may_come
end_allowed view seat work closed can left = known_allowed view seat (kinds.End work.task work.value) can.known
    (rw (
      ← running_own view.history seat,
      can.seats.runs,
      can.is_pool,
      closed_acts view.script view.history seat can.seats.now closed,
      eq-eqb _ _ (sym can.seats.task_is),
      ← acts_done_own view.history seat,
      can.all_entered,
      eq-eqb _ _ (ap (λ xs. length (filter is_act xs)) can.seats.whole_is),
      eq-eqb _ _ value_is,
    ) refl)
  where
    value_is : work.value ≡ after (steps_of view.script can.seats.now.task) can.seats.now.found
    value_is = left ∙ rw (can.seats.whole_is, can.seats.found_is) refl

-- the entry of the next act step of a task may come, and a post of it by its reply
pub act_allowed : (view : EnvView) (seat : ℕ) (act : Act) (w : Running) (kind : Kind) → IsClosed view.script → IsNextAct view seat act
    → running view.history seat ≡ Some w → entry_of w.task act (lets_in view act) ≡ Some kind
    → IsAllowed view.script view.history (record { seat = seat; kind = kind })
unfolding may_come
act_allowed view seat act w kind closed next runs is = of_step next.step (rw (← next.is_act) is) is_next
  where
    is_next : next_act view.script view.history seat ≡ Some next.step
    is_next = rw (← running_own view.history seat, ← acts_done_own view.history seat) next.is_next

    Comes : Kind → Type 0
    Comes k = IsAllowed view.script view.history (record { seat = seat; kind = k })

    by_the_task : (k : Kind) (step : Step) → next_act view.script view.history seat ≡ Some step → enters w.task step k ≡ true
        → by_task view.script view.history seat k ≡ true
    by_the_task k step = by_next view.script view.history seat k w step runs

    second : (a : Bool) {b : Bool} → b ≡ true → (a || b) ≡ true
    second true h = refl
    second false h = h

    same_post : (a b c : ℕ) → (eqb a a && eqb b b && eqb c c) ≡ true
    same_post a b c = rw (eqb-same a, eqb-same b, eqb-same c) refl

    same_scope_is : (scope : Scope) → same_scope scope scope ≡ true
    same_scope_is May = refl
    same_scope_is Will = refl

    of_step : (step : Step) → entry_of w.task (act_of step) (lets_in view (act_of step)) ≡ Some kind
        → next_act view.script view.history seat ≡ Some step → IsAllowed view.script view.history (record { seat = seat; kind = kind })
    of_step (steps.Post u r d) e now =
        let ok : Bool = not (is_refused view.script view.history r d) in
        subst Comes (some-injective e) (known_allowed view seat (kinds.Post u r d ok) next.known
        (post_may_come view.script view.history seat u r d ok closed (second (by_script view.script view.history seat (kinds.Post u r d ok))
        (by_the_task (kinds.Post u r d ok) (steps.Post u r d) now (same_post u r d))) refl))
    of_step (steps.Main u q d) e now =
        let ok : Bool = not (is_closed view.history q) in
        subst Comes (some-injective e) (known_allowed view seat (kinds.Main u q d ok) next.known
        (main_may_come view.script view.history seat u q d ok closed (second (by_script view.script view.history seat (kinds.Main u q d ok))
        (by_the_task (kinds.Main u q d ok) (steps.Main u q d) now (same_post u q d))) refl))
    of_step (steps.Block scope) e now = subst Comes (some-injective e) (known_allowed view seat (kinds.Enter w.task scope) next.known
        (closed_enters view.script view.history seat w.task scope closed
        ∙ by_the_task (kinds.Enter w.task scope) (steps.Block scope) now (rw (eqb-same w.task) (same_scope_is scope))))
    of_step steps.Unblock e now = subst Comes (some-injective e) (known_allowed view seat (kinds.Leave w.task) next.known
        (closed_leaves view.script view.history seat w.task closed ∙ by_the_task (kinds.Leave w.task) steps.Unblock now (eqb-same w.task)))
    of_step step e now = absurd (none-some kind e)
