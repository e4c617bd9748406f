-- While nobody is at anything, the driver may make what its action wants, or go into the job that it joins, or a worker may take
-- something that the action waits for. So some entry is allowed after each legal past that is not whole.
-- Cited by `Laws/Progress/Ends`, `progress.rt`.
use Rattle.std.proofs.Common.{◌≡◌, ℕ, zero, suc, ◌+◌, ◌≤◌, ◌<◌, Bool, true, false, eqb, List, [], ◌∷◌, length, refl, sym, ap, ◌∙◌, Option, Some, None, arith}
use Rattle.std.specs.Prelude.{◌&&◌, is_none}
use Rattle.std.specs.List.{list_all, range_with_len}
use Rattle.std.proofs.lemmas.Bool.{and_from, eq-eqb, true≢false}
use Rattle.std.proofs.lemmas.Option.{none-some}
use Rattle.task_base.specs.Plan.{Plan}
use Rattle.task_base.specs.declared.entry.Entry.{Entry}
use Rattle.task_base.specs.declared.entry.Kind.{Kind}
use Rattle.task_base.specs.declared.entry.Kind.TheVariants as kinds
use Rattle.task_base.specs.declared.script.Action.{Action}
use Rattle.task_base.specs.declared.script.Action.TheVariants as actions
use Rattle.task_traits.specs.declared.phase.Phase.TheVariants as phases
use Rattle.script_model.specs.Laws.Sound.{IsSound}
use Rattle.task_model.specs.Phase.{phase_of, is_started}
use Rattle.task_model.specs.Seats.{Running, Holding, running, holding, worker_seats, is_free, is_quiet}
use Rattle.task_model.specs.Sources.{Candidate, best_of}
use Rattle.task_model.specs.Blockers.{blockers_of}
use Rattle.hist_model.specs.Views.{own_entries}
use Rattle.hist_model.specs.Open.{IsClosed}
use Rattle.hist_model.specs.Script.{Current, current, wants, is_finished, is_whole}
use Rattle.hist_model.specs.Allowed.{may_come}
use Rattle.hist_model.specs.Legal.{IsLegal}
use Rattle.hist_model.specs.Laws.Progress.{MayMake, end_of, step_of, TaskGoesOn, WorkerTakes, Proceeds, GoesOn, SomeMayCome}
use Rattle.hist_model.specs.Laws.Progress.TaskGoesOn.{ByStep, Ends}
use Rattle.hist_model.specs.Laws.Progress.Proceeds.{Wanted, GoesIn, Takes}
use Rattle.hist_model.proofs.Laws.Open.{closed_finished}
use Rattle.hist_model.proofs.Laws.Progress.Made.{by_it, wanted_now}
use Rattle.hist_model.proofs.Laws.Progress.Tasks.{task_goes_on, item_goes_on}
use Rattle.hist_model.proofs.Laws.Progress.Quiet.{Quiet, is_quiet_now, nobody_inside}
use Rattle.hist_model.proofs.Laws.Progress.Driver.{Stands, stands}
use Rattle.hist_model.proofs.Laws.Progress.Workers.{takes_best, worker_takes}
use Rattle.hist_model.proofs.Laws.Progress.Jobs.{join_proceeds}
use Rattle.hist_model.proofs.Laws.Progress.Blockers.{blocked_waits}
use Rattle.hist_model.proofs.Laws.Progress.Actions.{action_goes_on}

-- a test that not all numbers of a row pass fails at one of them
range_fails : (p : ℕ → Bool) (start len : ℕ) → list_all p (range_with_len start len) ≡ false
    → (x : ℕ) × (start ≤ x) × (x < start + len) × (p x ≡ false)
range_fails p start zero h = absurd (true≢false h)
range_fails p start (suc len) h = by_test (p start) refl (range_fails p (start + 1) len) h
  where
    by_test : (b : Bool) → p start ≡ b
        → (list_all p (range_with_len (start + 1) len) ≡ false → (x : ℕ) × (start + 1 ≤ x) × (x < start + 1 + len) × (p x ≡ false))
        → (b && list_all p (range_with_len (start + 1) len)) ≡ false → (x : ℕ) × (start ≤ x) × (x < start + suc len) × (p x ≡ false)
    by_test true is rest k = let (x, from, to, fails) = rest k in (x, omega (arith, from), omega (arith, to), fails)
    by_test false is rest k = (start, omega arith, omega arith, is)

-- the script is not finished while the driver is at an action
not_finished : (script : Plan) (past : List Entry) (c : Current) → IsClosed script → current script (own_entries 0 past) ≡ Some c
    → is_finished script past ≡ false
not_finished script past c closed is = closed_finished script past closed ∙ ap is_none is

-- ---- actions that wait

-- a flush is idle, or a worker takes something
flush_proceeds : (script : Plan) (past : List Entry) (made : List Entry) → IsClosed script → Quiet script past
    → current script (own_entries 0 past) ≡ Some (record { action = actions.Flush; made = made })
    → Proceeds script past (record { action = actions.Flush; made = made })
unfolding may_come
flush_proceeds script past made closed q is = by_all (list_all (λ worker. is_none (best_of script past worker)) (worker_seats script)) refl
  where
    c : Current
    c = record { action = actions.Flush; made = made }

    best : (worker : ℕ) (o : Option Candidate) → best_of script past worker ≡ o → is_none o ≡ false → 1 ≤ worker → worker ≤ script.workers
        → WorkerTakes script past
    best worker None is_it some from to = absurd cc
    best worker (Some b) is_it some from to = takes_best script past worker b closed q (not_finished script past c closed is) from to is_it

    by_all : (b : Bool) → list_all (λ worker. is_none (best_of script past worker)) (worker_seats script) ≡ b → Proceeds script past c
    by_all true idle = Wanted (by_it script past c kinds.Idle refl
        (and_from _ _ (and_from _ _ (wanted_now script past c kinds.Idle closed is refl) q.quiet) idle))
    by_all false busy =
        let (worker, from, to, some) = range_fails (λ seat. is_none (best_of script past seat)) 1 script.workers busy in
        Takes refl (best worker (best_of script past worker) refl some from (omega (arith, to)))

-- a cancel ends, as nobody is inside
cancel_proceeds : (script : Plan) (past : List Entry) (j : ℕ) (x : Entry) (made : List Entry) → IsClosed script → Quiet script past
    → Stands script past (record { action = actions.Cancel j; made = x ∷ made })
    → current script (own_entries 0 past) ≡ Some (record { action = actions.Cancel j; made = x ∷ made })
    → Proceeds script past (record { action = actions.Cancel j; made = x ∷ made })
unfolding may_come
cancel_proceeds script past j x [] closed q s is = Wanted (by_it script past c (kinds.Cancelled j) wanted (and_from _ _ (and_from _ _
    (wanted_now script past c (kinds.Cancelled j) closed is wanted) (s.cancelled j refl (λ none. absurd cc)))
    (ap (λ xs. eqb (length xs) 0) (nobody_inside script past j q))))
  where
    c : Current
    c = record { action = actions.Cancel j; made = x ∷ [] }

    wanted : wants (own_entries 0 past) c.action c.made (kinds.Cancelled j) ≡ true
    wanted = rw (eq-eqb j j refl) refl
cancel_proceeds script past j x (y ∷ made) closed q s is = absurd (none-some made (sym s.waits))

-- shutdown is done, or a worker takes what blocks it
shutdown_proceeds : (script : Plan) (past : List Entry) (x : Entry) (made : List Entry) → IsSound script → Quiet script past
    → Stands script past (record { action = actions.Shutdown; made = x ∷ made })
    → current script (own_entries 0 past) ≡ Some (record { action = actions.Shutdown; made = x ∷ made })
    → Proceeds script past (record { action = actions.Shutdown; made = x ∷ made })
unfolding may_come
shutdown_proceeds script past x [] sound q s is = by_blockers (eqb (blockers_of script past) 0) refl
  where
    c : Current
    c = record { action = actions.Shutdown; made = x ∷ [] }

    started : phase_of past ≡ phases.Started
    started = s.started refl (λ none. absurd cc)

    by_blockers : (b : Bool) → eqb (blockers_of script past) 0 ≡ b → Proceeds script past c
    by_blockers true free = Wanted (by_it script past c kinds.Done refl
        (and_from _ _ (and_from _ _ (wanted_now script past c kinds.Done sound.closed is refl) (ap is_started started)) free))
    by_blockers false blocked =
        let w = blocked_waits script past sound q started (λ none. true≢false (sym (eq-eqb (blockers_of script past) 0 none) ∙ blocked)) in
        Takes refl (worker_takes script past w.source sound q (not_finished script past c sound.closed is) w.waits w.for_one)
shutdown_proceeds script past x (y ∷ made) sound q s is = absurd (none-some made (sym s.waits))

-- each action proceeds
proceeds_at : (script : Plan) (past : List Entry) (action : Action) (made : List Entry) → IsSound script → Quiet script past
    → Stands script past (record { action = action; made = made }) → current script (own_entries 0 past) ≡ Some (record { action = action; made = made })
    → Proceeds script past (record { action = action; made = made })
proceeds_at script past actions.Flush made sound q s is = flush_proceeds script past made sound.closed q is
proceeds_at script past (actions.Join j) made sound q s is = join_proceeds script past j made sound q s.sound (s.posted j refl) is
proceeds_at script past (actions.Cancel j) (x ∷ made) sound q s is = cancel_proceeds script past j x made sound.closed q s is
proceeds_at script past actions.Shutdown (x ∷ made) sound q s is = shutdown_proceeds script past x made sound q s is
proceeds_at script past action made sound q s is = Wanted (action_goes_on script past action made sound.closed q.legal (q.runs 0) is refl)

-- ---- all of it

pub goes_on : (script : Plan) (past : List Entry) → IsSound script → IsLegal script past → GoesOn script past
goes_on script past sound legal = record {
  tasks_go_on = λ seat w runs. task_goes_on script past seat w sound.closed legal runs;
  items_go_on = λ seat h holds. item_goes_on script past seat h legal holds;
  driver_goes_on = λ c idle is goes. action_goes_on script past c.action c.made sound.closed legal idle is goes;
  quiet_proceeds = λ c quiet is. proceeds_at script past c.action c.made sound (is_quiet_now script past legal quiet) (stands script past c sound legal is) is;
}

-- an entry that a seat may make may come
one : (script : Plan) (past : List Entry) (seat : ℕ) (kind : Kind) → MayMake script past seat kind → SomeMayCome script past
one script past seat kind may = record { entry = record { seat = seat; kind = kind }; allowed = may }

of_task : (script : Plan) (past : List Entry) (seat : ℕ) (w : Running) → TaskGoesOn script past seat w → SomeMayCome script past
of_task script past seat w (ByStep step kind next is may) = one script past seat kind may
of_task script past seat w (Ends none may) = one script past seat (end_of script w) may

of_action : (script : Plan) (past : List Entry) (c : Current) → Proceeds script past c → SomeMayCome script past
of_action script past c (Wanted w) = one script past 0 w.kind w.may
of_action script past c (GoesIn job id item is may) = one script past 0 (kinds.JobTake job id item) may
of_action script past c (Takes waits w) = one script past w.seat w.kind w.may

-- where somebody is at something, that goes on
of_seat : (script : Plan) (past : List Entry) (seat : ℕ) → GoesOn script past → is_free past seat ≡ false → SomeMayCome script past
of_seat script past seat g busy = by_running (running past seat) (holding past seat) refl refl busy
  where
    by_running : (r : Option Running) (h : Option Holding) → running past seat ≡ r → holding past seat ≡ h → (is_none r && is_none h) ≡ false
        → SomeMayCome script past
    by_running (Some w) h runs holds k = of_task script past seat w (g.tasks_go_on seat w runs)
    by_running None (Some h) runs holds k = one script past seat (step_of script past seat h) (g.items_go_on seat h holds)
    by_running None None runs holds k = absurd cc

pub some_may_come : (script : Plan) (past : List Entry) → IsSound script → IsLegal script past → is_whole script past ≡ false → SomeMayCome script past
unfolding is_quiet
some_may_come script past sound legal not_whole = by_quiet (is_quiet script past) refl
  where
    g : GoesOn script past
    g = goes_on script past sound legal

    at : (o : Option Current) → current script (own_entries 0 past) ≡ o → is_quiet script past ≡ true → (is_none o && true) ≡ false → SomeMayCome script past
    at None is quiet k = absurd cc
    at (Some c) is quiet k = of_action script past c (g.quiet_proceeds c quiet is)

    by_quiet : (b : Bool) → is_quiet script past ≡ b → SomeMayCome script past
    by_quiet true quiet = at (current script (own_entries 0 past)) refl quiet
        (ap (λ b. b && true) (sym (closed_finished script past sound.closed)) ∙ (ap (λ b. is_finished script past && b) (sym quiet) ∙ not_whole))
    by_quiet false busy = let (seat, from, to, fails) = range_fails (is_free past) 0 (script.workers + 1) busy in of_seat script past seat g fails
