-- How far shutdown has come, by the driver's place in a script, which starts shutdown at most once.
-- Cited by `Declared`.
use Rattle.hist_model.proofs.Laws.Wants.{entered_by}
use Rattle.script_model.specs.Laws.Sound.{IsSound}
use Rattle.hist_model.proofs.Laws.Agenda.{agenda_push, current_is_first}
use Rattle.hist_model.proofs.Laws.Choice.{Found}
use Rattle.hist_model.proofs.Laws.Legal.{legal_induction}
use Rattle.hist_model.proofs.Laws.Open.{closed_enters, closed_leaves, closed_main, closed_post}
use Rattle.hist_model.proofs.Laws.OneThing.{job_step_holds, legal_does_one_thing, wanted_by}
use Rattle.hist_model.proofs.Laws.Own.{own_entries_push}
use Rattle.hist_model.proofs.Laws.Takes.{by_driver, end_is, job_take_is, main_end_is, take_is}
use Rattle.hist_model.specs.Allowed.{IsAllowed, by_script, by_task, may_come}
use Rattle.hist_model.specs.Laws.Agenda.{agenda, agenda_from, completes, first_of, next_agenda}
use Rattle.hist_model.specs.Laws.Consistent.{is_join, is_pump}
use Rattle.hist_model.specs.Legal.{IsLegal}
use Rattle.hist_model.specs.Open.{IsClosed}
use Rattle.hist_model.specs.Script.{Current, behind_action, current, wants}
use Rattle.hist_model.specs.Views.{own_entries}
use Rattle.list_laws.proofs.Counts.{count-cons}
use Rattle.list_laws.proofs.Places.{count_none, none_from_count}
use Rattle.list_laws.specs.Lists.{count}
use Rattle.script_model.specs.Draft.{is_shutdown}
use Rattle.std.proofs.Common.{Bool, List, None, Option, Some, [], ap, arith, cond, eqb, false, leb, refl, subst, suc, sym, true, zero, ℕ, ⊎_elim, inl}
use Rattle.std.proofs.Common.{inr, ◌++◌, ◌∙◌, ◌∷◌, ◌≡◌, ◌≤◌}
use Rattle.std.proofs.lemmas.Bool.{and_parts, eqb-false, eqb-true, or_cases, true≢false}
use Rattle.std.proofs.lemmas.Option.{none-some, same_Some}
use Rattle.std.specs.List.{list_any}
use Rattle.std.specs.Option.{option_map_or}
use Rattle.std.specs.Prelude.{◌||◌, ◌⊎◌}
use Rattle.task_base.specs.Plan.{Plan}
use Rattle.task_base.specs.declared.entry.Entry.{Entry}
use Rattle.task_base.specs.declared.entry.Kind.{Kind}
use Rattle.task_base.specs.declared.script.Action.{Action}
use Rattle.task_model.proofs.Growth.{phase_of_push}
use Rattle.task_model.specs.Phase.{phase_after, phase_of}
use Rattle.task_model.specs.Seats.{Holding, Running, holding, running}
use Rattle.task_traits.specs.declared.phase.Phase.{Phase}
use Rattle.task_base.specs.declared.entry.Kind.TheVariants as kinds
use Rattle.task_base.specs.declared.script.Action.TheVariants as actions
use Rattle.task_traits.specs.declared.phase.Phase.TheVariants as phases

-- Each entry of the driver is by the script, by a main task, or of an item.

-- the driver is at a pump or a join, and the entry neither starts nor ends shutdown
record IsInside (script : Plan) (past : List Entry) (kind : Kind) : Type 0 where
  now : Current
  is : current script (own_entries 0 past) ≡ Some now
  inside : (is_pump now.action || is_join now.action) ≡ true
  still : (phase : Phase) → phase_after phase kind ≡ phase

-- the driver takes nothing as a worker; it runs main tasks at a pump, and holds items at a join
driver_entry : (script : Plan) (past : List Entry) (seat : ℕ) (kind : Kind) → IsClosed script → IsLegal script past → seat ≡ 0
    → may_come script past seat kind ≡ true → (by_script script past seat kind ≡ true) ⊎ IsInside script past kind
unfolding may_come
driver_entry script past seat kind closed legal driver may = by_kind kind may
  where
    runs : (k : Kind) (w : Running) → running past seat ≡ Some w → ((phase : Phase) → phase_after phase k ≡ phase) → IsInside script past k
    runs k w is still =
        let (c, now, pump) = (legal_does_one_thing script past legal).pumps closed w (ap (running past) (sym driver) ∙ is) in
        record { now = c; is = now; inside = rw pump refl; still = still }

    holds : (k : Kind) (h : Holding) → holding past seat ≡ Some h → ((phase : Phase) → phase_after phase k ≡ phase) → IsInside script past k
    holds k h is still =
        let (c, now, join) = (legal_does_one_thing script past legal).joins closed h (ap (holding past) (sym driver) ∙ is) in
        record { now = c; is = now; inside = second (is_pump c.action) join; still = still }
      where
        second : (a : Bool) {b : Bool} → b ≡ true → (a || b) ≡ true
        second true k = refl
        second false k = k

    worker : 1 ≤ seat → ⊥
    worker low = omega (arith, low, driver)

    by_the_task : (k : Kind) → by_task script past seat k ≡ true → ((phase : Phase) → phase_after phase k ≡ phase) → IsInside script past k
    by_the_task k h still = let s = entered_by script past seat k h in runs k s.now s.runs still

    either : (k : Kind) → (by_script script past seat k || by_task script past seat k) ≡ true → ((phase : Phase) → phase_after phase k ≡ phase)
        → (by_script script past seat k ≡ true) ⊎ IsInside script past k
    either k h still = ⊎_elim inl (λ task. inr (by_the_task k task still)) (or_cases _ _ h)

    by_kind : (k : Kind) → may_come script past seat k ≡ true → (by_script script past seat k ≡ true) ⊎ IsInside script past k
    by_kind (kinds.Post task runner delay ok) h = either (kinds.Post task runner delay ok)
        (and_parts _ _ (sym (closed_post script past seat task runner delay ok closed) ∙ h)).0 (λ phase. refl)
    by_kind (kinds.Main task queue delay ok) h = either (kinds.Main task queue delay ok)
        (and_parts _ _ (sym (closed_main script past seat task queue delay ok closed) ∙ h)).0 (λ phase. refl)
    by_kind (kinds.Tick now) h = inl (and_parts _ _ (and_parts _ _ h).0).0
    by_kind (kinds.Take task runner found) h = absurd (worker (take_is script past seat task runner found h).worker)
    by_kind (kinds.End task left) h = let w = end_is script past seat task left h in inr (runs (kinds.End task left) w.0 w.1 (λ phase. refl))
    by_kind (kinds.Enter task scope) h = inr (by_the_task (kinds.Enter task scope)
        (sym (closed_enters script past seat task scope closed) ∙ h) (λ phase. refl))
    by_kind (kinds.Leave task) h = inr (by_the_task (kinds.Leave task) (sym (closed_leaves script past seat task closed) ∙ h) (λ phase. refl))
    by_kind (kinds.MainTake task queue found) h = inl (and_parts _ _ (and_parts _ _ h).0).0
    by_kind (kinds.MainEnd task left) h = let w = main_end_is script past seat task left h in inr (runs (kinds.MainEnd task left) w.0 w.1 (λ phase. refl))
    by_kind kinds.MainNone h = inl (and_parts _ _ h).0
    by_kind (kinds.JobPost job ok) h = inl (and_parts _ _ h).0
    by_kind (kinds.JobTake job id item) h = inl (⊎_elim (λ k. absurd (worker k.0.worker)) (λ k. k.0) (job_take_is script past seat job id item h))
    by_kind (kinds.JobStep job id item value next) h =
        let held = job_step_holds script past seat job id item value next h in
        inr (holds (kinds.JobStep job id item value next) held.0 held.1 (λ phase. refl))
    by_kind (kinds.Cancelled job) h = inl (and_parts _ _ (and_parts _ _ h).0).0
    by_kind (kinds.Joined job reply) h = inl (and_parts _ _ (and_parts _ _ h).0).0
    by_kind kinds.Idle h = inl (and_parts _ _ (and_parts _ _ h).0).0
    by_kind kinds.Done h = inl (and_parts _ _ (and_parts _ _ h).0).0
    by_kind k h = inl h

-- The phase at each place of the driver.

-- the phase before these actions: shutdown is at most once among them, and where it is, it was not started
record IsBefore (phase : Phase) (xs : List Action) : Type 0 where
  once : count is_shutdown xs ≤ 1
  running : list_any is_shutdown xs ≡ true → phase ≡ phases.Running

-- the phase while a shutdown has made these entries
abbrev phase_at : List Entry → Phase
phase_at [] = phases.Running
phase_at (e ∷ made) = phases.Started

-- the phase where the driver is at the first of these actions, which has made these entries
abbrev IsAtPhase : Phase → List Action → List Entry → Type 0
IsAtPhase phase [] made = Unit {0}
IsAtPhase phase (actions.Shutdown ∷ rest) made = (list_any is_shutdown rest ≡ false) × (phase ≡ phase_at made)
IsAtPhase phase (x ∷ rest) made = IsBefore phase rest

-- what fits the actions from one on fits those behind it
before_rest : (phase : Phase) (x : Action) (xs : List Action) → IsBefore phase (x ∷ xs) → IsBefore phase xs
before_rest phase x xs b = record { once = omega (arith, b.once, count-cons is_shutdown x xs); running = λ h. b.running (some (is_shutdown x) h) }
  where
    some : (a : Bool) {b : Bool} → b ≡ true → (a || b) ≡ true
    some true h = refl
    some false h = h

-- what fits the actions fits the place at the first of them
before_first : (phase : Phase) (x : Action) (xs : List Action) → IsBefore phase (x ∷ xs) → IsAtPhase phase (x ∷ xs) []
before_first phase actions.Shutdown xs b = (none_from_count is_shutdown xs (omega (arith, b.once)), b.running refl)
before_first phase x xs b = before_rest phase x xs b

-- an action that wants no entry leaves none
behind_nothing : (x : Action) (left : List Entry) → behind_action x [] ≡ Some left → [] ≡ left
behind_nothing (actions.Tick zero) left h = same_Some [] left h
behind_nothing (actions.Tick (suc n)) left h = absurd cc
behind_nothing x left h = absurd cc

-- where some actions begin, the phase fits the first that is not complete
begins : (phase : Phase) (xs : List Action) → IsBefore phase xs → IsAtPhase phase (agenda_from xs []).actions (agenda_from xs []).made
begins phase [] b = tt
begins phase (x ∷ xs) b = at (behind_action x []) refl (begins phase xs (before_rest phase x xs b))
  where
    at : (o : Option (List Entry)) → behind_action x [] ≡ o → IsAtPhase phase (agenda_from xs []).actions (agenda_from xs []).made
        → IsAtPhase phase (option_map_or (λ left. agenda_from xs left) o (record { actions = x ∷ xs; made = [] })).actions
        (option_map_or (λ left. agenda_from xs left) o (record { actions = x ∷ xs; made = [] })).made
    at None is rest = before_first phase x xs b
    at (Some left) is rest = subst (λ l. IsAtPhase phase (agenda_from xs l).actions (agenda_from xs l).made) (behind_nothing x left is) rest

-- an entry that the first action wants moves the driver and the phase
moves : (own : List Entry) (phase : Phase) (x : Action) (rest : List Action) (made : List Entry) (seat : ℕ) (kind : Kind) → wants own x made kind ≡ true
    → IsAtPhase phase (x ∷ rest) made
    → IsAtPhase (phase_after phase kind) (next_agenda (x ∷ rest) made (record { seat = seat; kind = kind })).actions
    (next_agenda (x ∷ rest) made (record { seat = seat; kind = kind })).made
moves own phase actions.Shutdown rest [] seat kinds.Shutdown w at = (at.0, rw (at.1) refl)
moves own phase actions.Shutdown rest (y ∷ made) seat kinds.Shutdown w at = absurd (omega (arith, eqb-true _ _ w))
moves own phase actions.Shutdown rest [] seat kinds.Done w at = absurd cc
moves own phase actions.Shutdown rest (y ∷ []) seat kinds.Done w at =
    begins phases.Done rest (record { once = rw (count_none is_shutdown rest at.0) (omega arith); running = λ h. absurd (true≢false (sym h ∙ at.0)) })
moves own phase actions.Shutdown rest (y ∷ z ∷ made) seat kinds.Done w at = absurd (omega (arith, eqb-true _ _ w))
moves own phase actions.Shutdown rest made seat kind w at = absurd cc
moves own phase x rest made seat kinds.Shutdown w at = absurd cc
moves own phase x rest made seat kinds.Done w at = absurd cc
moves own phase x rest made seat kind w at = by_completes (completes x made kind)
  where
    e : Entry
    e = record { seat = seat; kind = kind }

    by_completes : (b : Bool) → IsAtPhase phase (cond b (agenda_from rest []) (record { actions = x ∷ rest; made = made ++ e ∷ [] })).actions
        (cond b (agenda_from rest []) (record { actions = x ∷ rest; made = made ++ e ∷ [] })).made
    by_completes true = begins phase rest at
    by_completes false = at

-- an entry inside a pump or a join that changes no phase
inner_moves : (phase : Phase) (xs : List Action) (made : List Entry) (c : Current) (e : Entry) → first_of xs made ≡ Some c
    → (is_pump c.action || is_join c.action) ≡ true → IsAtPhase phase xs made → IsAtPhase phase (next_agenda xs made e).actions (next_agenda xs made e).made
inner_moves phase [] made c e is inside at = absurd (none-some c is)
inner_moves phase (x ∷ rest) made c e is inside at =
    of_action x (ap (λ (y : Current). is_pump y.action || is_join y.action) (same_Some _ c is) ∙ inside) at
  where
    of_action : (y : Action) → (is_pump y || is_join y) ≡ true → IsAtPhase phase (y ∷ rest) made
        → IsAtPhase phase (next_agenda (y ∷ rest) made e).actions (next_agenda (y ∷ rest) made e).made
    of_action (actions.Pump n) h now = by_completes (completes (actions.Pump n) made e.kind)
      where
        by_completes : (b : Bool) → IsAtPhase phase (cond b (agenda_from rest []) (record { actions = actions.Pump n ∷ rest; made = made ++ e ∷ [] })).actions
            (cond b (agenda_from rest []) (record { actions = actions.Pump n ∷ rest; made = made ++ e ∷ [] })).made
        by_completes true = begins phase rest now
        by_completes false = now
    of_action (actions.Join job) h now = by_completes (completes (actions.Join job) made e.kind)
      where
        by_completes : (b : Bool) → IsAtPhase phase (cond b (agenda_from rest []) (record { actions = actions.Join job ∷ rest; made = made ++ e ∷ [] })).actions
            (cond b (agenda_from rest []) (record { actions = actions.Join job ∷ rest; made = made ++ e ∷ [] })).made
        by_completes true = begins phase rest now
        by_completes false = now
    of_action y h now = absurd cc

-- the phase fits the place of the driver
abbrev IsInStep : Plan → List Entry → Type 0
IsInStep script past = IsAtPhase (phase_of past) (agenda script (own_entries 0 past)).actions (agenda script (own_entries 0 past)).made

-- an entry that the driver's place wants
wanted_moves : (own : List Entry) (phase : Phase) (xs : List Action) (made : List Entry) (c : Current) (e : Entry) → first_of xs made ≡ Some c
    → wants own c.action c.made e.kind ≡ true → IsAtPhase phase xs made
    → IsAtPhase (phase_after phase e.kind) (next_agenda xs made e).actions (next_agenda xs made e).made
wanted_moves own phase [] made c e is w at = absurd (none-some c is)
wanted_moves own phase (x ∷ rest) made c e is w at =
    moves own phase x rest made e.seat e.kind (ap (λ (y : Current). wants own y.action y.made e.kind) (same_Some _ c is) ∙ w) at

-- an entry of a worker neither starts nor ends shutdown
same_phase : (script : Plan) (past : List Entry) (seat : ℕ) (kind : Kind) (phase : Phase) → eqb seat 0 ≡ false → may_come script past seat kind ≡ true
    → phase_after phase kind ≡ phase
unfolding may_come
same_phase script past seat kinds.Shutdown phase other h = absurd (eqb-false seat 0 other (by_driver script past seat kinds.Shutdown h))
same_phase script past seat kinds.Done phase other h =
    absurd (eqb-false seat 0 other (by_driver script past seat kinds.Done (and_parts _ _ (and_parts _ _ h).0).0))
same_phase script past seat kind phase other h = refl

-- at the start the phase fits
in_step_at_start : (script : Plan) → IsSound script → IsInStep script []
unfolding agenda phase_of
in_step_at_start script plan = begins phases.Running script.actions (record { once = plan.once.one_shutdown; running = λ h. refl })

-- so it does in every legal history
in_step : (script : Plan) (past : List Entry) → IsSound script → IsLegal script past → IsInStep script past
in_step script past plan legal = legal_induction script (IsInStep script) (in_step_at_start script plan) next past legal
  where
    next : (before : List Entry) (e : Entry) → IsLegal script before → IsAllowed script before e → IsInStep script before → IsInStep script (before ++ e ∷ [])
    next before e before_legal allowed now = rw (phase_of_push before e, own_entries_push before e 0) (by_seat (eqb e.seat 0) refl)
      where
        own : List Entry
        own = own_entries 0 before

        may : may_come script before e.seat e.kind ≡ true
        may = (and_parts (leb e.seat script.workers) (may_come script before e.seat e.kind) allowed).1

        by_seat : (b : Bool) → eqb e.seat 0 ≡ b
            → IsAtPhase (phase_after (phase_of before) e.kind) (agenda script (cond b (own ++ e ∷ []) own)).actions
            (agenda script (cond b (own ++ e ∷ []) own)).made
        by_seat true driver = rw (agenda_push script own e)
            (⊎_elim wanted inside (driver_entry script before e.seat e.kind plan.closed before_legal (eqb-true e.seat 0 driver) may))
          where
            Moved : Phase → Type 0
            Moved phase = IsAtPhase phase (next_agenda (agenda script own).actions (agenda script own).made e).actions
                (next_agenda (agenda script own).actions (agenda script own).made e).made

            wanted : by_script script before e.seat e.kind ≡ true → Moved (phase_after (phase_of before) e.kind)
            wanted h =
                let c = wanted_by script before e.seat e.kind plan.closed h in
                wanted_moves own (phase_of before) (agenda script own).actions (agenda script own).made c.value e
                (sym (current_is_first script own) ∙ c.is) c.passes now

            inside : IsInside script before e.kind → Moved (phase_after (phase_of before) e.kind)
            inside i = subst Moved (sym (i.still (phase_of before)))
                (inner_moves (phase_of before) (agenda script own).actions (agenda script own).made i.now e
                (sym (current_is_first script own) ∙ i.is) i.inside now)
        by_seat false other = rw (same_phase script before e.seat e.kind (phase_of before) other may) now

-- the driver is at this kind of entry of its script
abbrev IsDue : Plan → List Entry → Kind → Type 0
IsDue script past kind = Found Current (λ c. wants (own_entries 0 past) c.action c.made kind) (current script (own_entries 0 past))

-- what the place of the driver says of the phase, where the first action wants this
phase_by : (own : List Entry) (phase now : Phase) (kind : Kind)
    → ((x : Action) (rest : List Action) (made : List Entry) → wants own x made kind ≡ true → IsAtPhase phase (x ∷ rest) made → phase ≡ now)
    → (xs : List Action) (made : List Entry) (c : Current) → first_of xs made ≡ Some c → wants own c.action c.made kind ≡ true
    → IsAtPhase phase xs made → phase ≡ now
phase_by own phase now kind says [] made c is w at = absurd (none-some c is)
phase_by own phase now kind says (x ∷ rest) made c is w at =
    says x rest made (ap (λ (y : Current). wants own y.action y.made kind) (same_Some _ c is) ∙ w) at

-- where shutdown is to be started, it was not
pub at_start : (script : Plan) (past : List Entry) → IsSound script → IsLegal script past → IsDue script past kinds.Shutdown
    → phase_of past ≡ phases.Running
at_start script past plan legal due = phase_by own (phase_of past) phases.Running kinds.Shutdown (says (phase_of past)) (agenda script own).actions
    (agenda script own).made due.value (sym (current_is_first script own) ∙ due.is) due.passes (in_step script past plan legal)
  where
    own : List Entry
    own = own_entries 0 past

    says : (phase : Phase) (x : Action) (rest : List Action) (made : List Entry) → wants own x made kinds.Shutdown ≡ true → IsAtPhase phase (x ∷ rest) made
        → phase ≡ phases.Running
    says phase actions.Shutdown rest [] w at = at.1
    says phase actions.Shutdown rest (y ∷ made) w at = absurd (omega (arith, eqb-true _ _ w))
    says phase x rest made w at = absurd cc

-- where it is to be done, it was started
pub at_done : (script : Plan) (past : List Entry) → IsSound script → IsLegal script past → IsDue script past kinds.Done
    → phase_of past ≡ phases.Started
at_done script past plan legal due = phase_by own (phase_of past) phases.Started kinds.Done (says (phase_of past)) (agenda script own).actions
    (agenda script own).made due.value (sym (current_is_first script own) ∙ due.is) due.passes (in_step script past plan legal)
  where
    own : List Entry
    own = own_entries 0 past

    says : (phase : Phase) (x : Action) (rest : List Action) (made : List Entry) → wants own x made kinds.Done ≡ true → IsAtPhase phase (x ∷ rest) made
        → phase ≡ phases.Started
    says phase actions.Shutdown rest [] w at = absurd cc
    says phase actions.Shutdown rest (y ∷ made) w at = at.1
    says phase x rest made w at = absurd cc
