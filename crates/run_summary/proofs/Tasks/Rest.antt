-- A log whose script is finished ends with the pool at rest, so each accepted task of the pool was taken.
-- Cited by `Tasks/Cells`, `Tasks/Once`, `Tasks/Pumped`.
use Rattle.hist_model.proofs.Laws.JobEntries.{none_is}
use Rattle.std.proofs.Common.{◌≡◌, ℕ, ◌+◌, ◌<◌, ◌≤◌, Bool, true, false, cond, eqb, leb, List, [], ◌∷◌, ◌++◌}
use Rattle.std.proofs.Common.{length, refl, sym, ap, subst, ◌∙◌, None, inl, inr, arith}
use Rattle.std.specs.Prelude.{◌⊎◌, ◌&&◌, not, nat_lt, filter, Contains, is_none, slice_get}
use Rattle.std.specs.List.{list_any, list_all}
use Rattle.std.specs.Option.{option_map_or}
use Rattle.std.proofs.lemmas.Bool.{and_parts, and_from, or_right, eqb-true, lt-ltb, ltb-true, both_ways, true≢false, true_from_ne_false}
use Rattle.std.proofs.lemmas.Option.{none-some}
use Rattle.task_traits.specs.declared.traits.Priority.{Priority}
use Rattle.task_base.specs.Plan.{Plan}
use Rattle.task_base.specs.Groups.{Group, Foreground, Background, is_best_effort}
use Rattle.task_base.specs.Runners.{is_parallel, sequence_of, sequence_count}
use Rattle.task_base.specs.declared.entry.Entry.{Entry}
use Rattle.task_base.specs.declared.entry.Kind.{Kind}
use Rattle.task_base.specs.declared.entry.Kind.TheVariants as kinds
use Rattle.task_base.specs.declared.script.Action.{Action}
use Rattle.task_base.specs.declared.script.Action.TheVariants as actions
use Rattle.task_base.specs.declared.source.TaskSource.TheVariants.{Sequence}
use Rattle.task_traits.specs.Behaviour.{forbids}
use Rattle.list_laws.specs.Lists.{holds_of}
use Rattle.list_laws.proofs.Elements.{AllByRecursion-contains}
use Rattle.list_laws.proofs.Filters.{filter_none}
use Rattle.list_laws.proofs.Least.{no_least}
use Rattle.list_laws.proofs.Made.{contains_filter, contains_not_empty}
use Rattle.list_laws.proofs.Ranges.{AllByRecursion-range, range_all_at}
use Rattle.task_model.specs.Posts.{Posted, posts, is_taken}
use Rattle.task_model.specs.Policies.{is_held}
use Rattle.task_model.specs.Refusal.{effective_at}
use Rattle.task_model.specs.Seats.{worker_seats, is_quiet}
use Rattle.task_model.specs.Capacity.{work_at, is_in, is_best_in, load_of, load, capacity, best_load, best_capacity, limit, best_limit, has_room_in, has_room}
use Rattle.task_model.specs.Sources.{Candidate, sequence_candidate, waiting, is_takeable, goes_before, best_of}
use Rattle.pool_laws.specs.Choice.{IsWaiting}
use Rattle.pool_laws.proofs.Choice.Candidates.{sequence_in, candidate_would_wait, not_held_is_waiting, waiting_same}
use Rattle.pool_laws.proofs.Room.Capacity.{free_parts}
use Rattle.pool_laws.proofs.Seats.Running.{quiet_is_free, is_quiet_same}
use Rattle.hist_model.specs.Script.{wants, is_finished, IsFinished, IsWhole}
use Rattle.hist_model.specs.Views.{own_entries}
use Rattle.hist_model.specs.Allowed.{by_script, may_come}
use Rattle.hist_model.specs.Legal.{IsLegal}
use Rattle.hist_model.specs.Open.{IsClosed}
use Rattle.hist_model.specs.Laws.Agenda.{Agenda, first_of, completes, next_agenda, agenda_after}
use Rattle.hist_model.specs.Laws.Consistent.{is_pump, is_join}
use Rattle.hist_model.specs.Laws.Whole.{sequence_at, LeftTask, LosesNothing}
use Rattle.hist_model.specs.Laws.Whole.LeftTask.{Forbidden, Unripe, Waits}
use Rattle.hist_model.proofs.Laws.Agenda.{current_is_first}
use Rattle.hist_model.proofs.Laws.Legal.{legal_induction}
use Rattle.hist_model.proofs.Laws.Open.{closed_finished}
use Rattle.hist_model.proofs.Laws.Whole.Losing.{loses_nothing}
use Rattle.run_summary.proofs.Calm.{IsCalm, IsCalmScript, calm_logs}
use Rattle.run_summary.proofs.Tasks.Driver.{IsPlain, plan_of, plan_push, plan_begins, next_plan, next_is}
use Rattle.run_summary.proofs.Tasks.Comes.{Comes, comes, WantedAt, wanted_at, driver_does}
use Rattle.run_summary.proofs.Tasks.Adding.{AddsUp}
use Rattle.run_summary.proofs.Tasks.Posted.{plain_at, IsPlainPost, plain_posts}

-- ---- a script that is finished

-- a finished script has no action left
pub finished_plan : (script : Plan) (past : List Entry) → IsClosed script → IsFinished script past → (plan_of script past).actions ≡ []
finished_plan script past closed done = at (plan_of script past).actions (plan_of script past).made
    (ap is_none (sym (current_is_first script (own_entries 0 past))) ∙ (sym (closed_finished script past closed) ∙ done))
  where
    at : (xs : List Action) (made : List Entry) → is_none (first_of xs made) ≡ true → xs ≡ []
    at [] made h = refl
    at (x ∷ xs) made h = absurd cc

-- and one that has none left is finished
plan_finished : (script : Plan) (past : List Entry) → IsClosed script → (plan_of script past).actions ≡ [] → IsFinished script past
plan_finished script past closed none = closed_finished script past closed ∙ ap is_none (current_is_first script (own_entries 0 past))
    ∙ ap (λ xs. is_none (first_of xs (plan_of script past).made)) none

-- behind a quiet past of a finished script nothing comes
nothing_follows : (script : Plan) (past : List Entry) (seat : ℕ) (kind : Kind) → IsCalmScript script → IsLegal script past
    → IsFinished script past → is_quiet script past ≡ true → may_come script past seat kind ≡ true → ⊥
nothing_follows script past seat kind calm legal done quiet may = by_comes (comes script past seat kind calm may)
  where
    all : LosesNothing script past
    all = loses_nothing script past legal (and_from (is_finished script past) (is_quiet script past) done quiet)

    by_comes : Comes script past seat kind → ⊥
    by_comes (Comes.Wanted wanted) =
        let w : WantedAt script past kind = (wanted_at script past seat kind calm.closed wanted).1 in
        let none : w.action ∷ w.rest ≡ [] = ap (λ (p : Agenda). p.actions) (sym w.plan_is) ∙ finished_plan script past calm.closed done in
        absurd cc
    by_comes (Comes.Taken worker) = both_ways (is_finished script past) worker.goes_on done
    by_comes (Comes.Ran w runs) = none-some w (sym (all.nobody_runs seat) ∙ runs)
    by_comes (Comes.Held h holds) = none-some h (sym (all.nobody_holds seat) ∙ holds)

-- ---- the last entry

-- the past ends with the entry that finds the pool at rest: no seat is at anything, and no worker may take anything
pub record EndsAtRest (script : Plan) (past : List Entry) : Type 0 where
  pub before : List Entry
  pub seat : ℕ
  pub parts : past ≡ before ++ record { seat = seat; kind = kinds.Idle } ∷ []
  pub quiet : is_quiet script before ≡ true
  pub none_taken : (worker : ℕ) → 1 ≤ worker → worker ≤ script.workers → best_of script before worker ≡ None

-- it is quiet behind that entry, too
quiet_at_end : (script : Plan) (past : List Entry) → EndsAtRest script past → is_quiet script past ≡ true
quiet_at_end script past r = ap (is_quiet script) r.parts ∙ is_quiet_same script r.before (record { seat = r.seat; kind = kinds.Idle }) refl ∙ r.quiet

-- so it is where that entry may come
idle_is : (script : Plan) (past : List Entry) (seat : ℕ) → may_come script past seat kinds.Idle ≡ true
    → EndsAtRest script (past ++ record { seat = seat; kind = kinds.Idle } ∷ [])
unfolding may_come
idle_is script past seat may =
    let last = and_parts _ (list_all (λ worker. is_none (best_of script past worker)) (worker_seats script)) may in
    record {
      before = past;
      seat = seat;
      parts = refl;
      quiet = (and_parts (by_script script past seat kinds.Idle) (is_quiet script past) last.0).1;
      none_taken = λ worker from to. none_is (best_of script past worker)
          (range_all_at (λ w. is_none (best_of script past w)) 1 script.workers worker last.1 from (omega (arith, to)));
    }

-- the last action is a flush, which wants only that entry
last_is_flush : (size : ℕ) (x : Action) (rest : List Action) → IsPlain size x rest → rest ≡ [] → x ≡ actions.Flush
last_is_flush size (actions.Post t r d) rest plain none = absurd (plain.3 none)
last_is_flush size (actions.Main t q d) rest plain none = absurd (plain.3 none)
last_is_flush size (actions.Pump n) rest plain none = absurd (plain.2 none)
last_is_flush size (actions.StartJob j) rest plain none = absurd (plain none)
last_is_flush size (actions.Join j) rest plain none = absurd (plain none)
last_is_flush size actions.Flush rest plain none = refl
last_is_flush size action rest plain none = absurd plain

-- so what the driver enters there is that entry
flush_wants : (own : List Entry) (x : Action) (made : List Entry) (kind : Kind) → x ≡ actions.Flush
    → (wants own x made kind ≡ true) ⊎ ((is_pump x ≡ true) ⊎ (is_join x ≡ true)) → kind ≡ kinds.Idle
flush_wants own x made kind flush how = by_kind kind (subst (λ y. (wants own y made kind ≡ true) ⊎ ((is_pump y ≡ true) ⊎ (is_join y ≡ true))) flush how)
  where
    by_kind : (k : Kind) → (wants own actions.Flush made k ≡ true) ⊎ ((false ≡ true) ⊎ (false ≡ true)) → k ≡ kinds.Idle
    by_kind kinds.Idle h = refl
    by_kind k (inl h) = absurd cc
    by_kind k (inr (inl h)) = absurd cc
    by_kind k (inr (inr h)) = absurd cc

abbrev RestsAtEnd : Plan → List Entry → Type 0
RestsAtEnd script past = IsFinished script past → EndsAtRest script past

-- it stays so behind one more entry: only the entry of the flush finishes the script, and behind that none comes
rests_next : (script : Plan) (size : ℕ) (amount : ℕ → ℕ) → AddsUp script size amount → (past : List Entry) (e : Entry) → IsLegal script past
    → may_come script past e.seat e.kind ≡ true → RestsAtEnd script past → RestsAtEnd script (past ++ e ∷ [])
rests_next script size amount a past e legal may before done = by_seat (eqb e.seat 0) refl
    (subst (λ (p : Agenda). p.actions ≡ []) (plan_push script past e) (finished_plan script (past ++ e ∷ []) a.calm.closed done))
  where
    -- a script that was finished before had nothing more to come
    was_finished : (plan_of script past).actions ≡ [] → EndsAtRest script (past ++ e ∷ [])
    was_finished none =
        let finished : IsFinished script past = plan_finished script past a.calm.closed none in
        absurd (nothing_follows script past e.seat e.kind a.calm legal finished (quiet_at_end script past (before finished)) may)

    is_last : (x : Action) (rest : List Action) (made : List Entry) → e.seat ≡ 0 → plan_of script past ≡ record { actions = x ∷ rest; made = made }
        → rest ≡ [] → EndsAtRest script (past ++ e ∷ [])
    is_last x rest made driver is none =
        let here : may_come script past 0 e.kind ≡ true = subst (λ seat. may_come script past seat e.kind ≡ true) driver may in
        let idle : e.kind ≡ kinds.Idle = flush_wants (own_entries 0 past) x made e.kind
        (last_is_flush size x rest (plain_at script size amount past x rest made a is).0 none)
        (driver_does script past e.kind x rest made a.calm legal here is) in
        subst (λ k. EndsAtRest script (past ++ record { seat = e.seat; kind = k } ∷ [])) (sym idle)
        (idle_is script past e.seat (subst (λ k. may_come script past e.seat k ≡ true) idle may))

    own : (xs : List Action) (made : List Entry) → e.seat ≡ 0 → plan_of script past ≡ record { actions = xs; made = made }
        → (next_agenda xs made e).actions ≡ [] → EndsAtRest script (past ++ e ∷ [])
    own [] made driver is none = was_finished (ap (λ (p : Agenda). p.actions) is)
    own (x ∷ rest) made driver is none = step (completes x made e.kind)
        (subst (λ (p : Agenda). p.actions ≡ []) (next_is size x rest made e (plain_at script size amount past x rest made a is).1) none)
      where
        step : (b : Bool) → (next_plan b x rest made e).actions ≡ [] → EndsAtRest script (past ++ e ∷ [])
        step true k = is_last x rest made driver is k
        step false k = absurd cc

    by_seat : (b : Bool) → eqb e.seat 0 ≡ b → (cond b (agenda_after (plan_of script past) e) (plan_of script past)).actions ≡ []
        → EndsAtRest script (past ++ e ∷ [])
    by_seat true driver none = own (plan_of script past).actions (plan_of script past).made (eqb-true e.seat 0 driver) refl none
    by_seat false other none = was_finished none

-- at first no script of this kind is finished
nothing_rests : (script : Plan) (size : ℕ) (amount : ℕ → ℕ) → AddsUp script size amount → RestsAtEnd script []
nothing_rests script size amount a done =
    let none : script.actions ≡ [] = ap (λ (p : Agenda). p.actions) (sym (plan_begins script size a.plain)) ∙ finished_plan script [] a.calm.closed done in
    absurd (true≢false (sym a.pumps ∙ ap (list_any is_pump) none))

-- the legal log of a finished script ends at rest
pub ends_at_rest : (script : Plan) (size : ℕ) (amount : ℕ → ℕ) → AddsUp script size amount → (past : List Entry) → IsLegal script past
    → IsFinished script past → EndsAtRest script past
ends_at_rest script size amount a = legal_induction script (RestsAtEnd script) (nothing_rests script size amount a) (λ past e legal allowed before.
    rests_next script size amount a past e legal (and_parts (leb e.seat script.workers) (may_come script past e.seat e.kind) allowed).1 before)

-- ---- at rest there is room for all work

-- no group runs anything
no_load : (script : Plan) (past : List Entry) (test : Priority → Bool) → is_quiet script past ≡ true → load_of script past test ≡ 0
no_load script past test quiet = ap length (filter_none (λ seat. holds_of test (work_at script past seat)) (worker_seats script)
    (AllByRecursion-range (λ seat. holds_of test (work_at script past seat) ≡ false) 1 script.workers (λ seat from to.
    let free = free_parts past seat (quiet_is_free script past seat quiet (omega (arith, to))) in
    rw (free.0, free.1) refl)))

-- so there is room for each priority
room_at_rest : (script : Plan) (size : ℕ) (amount : ℕ → ℕ) (past : List Entry) (priority : Priority) → AddsUp script size amount
    → is_quiet script past ≡ true → has_room script past priority ≡ true
unfolding has_room load capacity best_load best_capacity
room_at_rest script size amount past priority a quiet = by_best_effort (is_best_effort priority && nat_lt 0 script.background) refl
  where
    in_group : (group : Group) → 1 ≤ limit script group → 1 ≤ best_limit script group → has_room_in script past group priority ≡ true
    in_group group some some_best =
        let all : load_of script past (is_in script group) ≡ 0 = no_load script past (is_in script group) quiet in
        let best : load_of script past (is_best_in script group) ≡ 0 = no_load script past (is_best_in script group) quiet in
        and_from _ _ (lt-ltb (load script past group) (capacity script past group) (omega (arith, some, all)))
        (or_right (not (is_best_effort priority)) _ (lt-ltb (best_load script past group) (best_capacity script past group) (omega (arith, some_best, best))))

    by_best_effort : (b : Bool) → (is_best_effort priority && nat_lt 0 script.background) ≡ b
        → has_room_in script past (cond b Background Foreground) priority ≡ true
    by_best_effort true back =
        let some : 0 < script.background = ltb-true 0 script.background (and_parts (is_best_effort priority) (nat_lt 0 script.background) back).1 in
        in_group Background (omega (arith, some)) (omega (arith, some))
    by_best_effort false front = in_group Foreground a.some_foreground a.some_best

-- ---- so nothing waits there

-- no source that any worker may take waits there
nothing_waits : (script : Plan) (size : ℕ) (amount : ℕ → ℕ) (past : List Entry) (c : Candidate) → AddsUp script size amount → EndsAtRest script past
    → c.seat ≡ None → IsWaiting script past c → ⊥
unfolding best_of
nothing_waits script size amount past c a r anywhere waits = contains_not_empty (filter (is_takeable script r.before 1) (waiting script r.before)) c
    (contains_filter (is_takeable script r.before 1) (waiting script r.before) c there takeable)
    (no_least goes_before (filter (is_takeable script r.before 1) (waiting script r.before)) (r.none_taken 1 (omega arith) a.some_workers))
  where
    same : waiting script past ≡ waiting script r.before
    same = ap (waiting script) r.parts ∙ waiting_same script r.before (record { seat = r.seat; kind = kinds.Idle }) refl

    there : Contains (waiting script r.before) c
    there = subst (λ cs. Contains cs c) same waits

    takeable : is_takeable script r.before 1 c ≡ true
    takeable = and_from (has_room script r.before c.priority) (option_map_or (λ only. eqb only 1) c.seat true)
        (room_at_rest script size amount r.before c.priority a r.quiet)
        (ap (λ o. option_map_or (λ only. eqb only 1) o true) anywhere)

-- the sequence of an accepted task is one of the script's
pub sequence_there : (script : Plan) (size : ℕ) (amount : ℕ → ℕ) (task home : ℕ) → AddsUp script size amount → task < size → home < 4
    → sequence_of script home task < sequence_count script
sequence_there script size amount task home a task_is home_is = by_parallel (holds_of (λ r. is_parallel r.kind) (slice_get script.runners home))
  where
    by_parallel : (b : Bool) → cond b (length script.runners + task) home < length script.runners + length script.tasks
    by_parallel true = omega (arith, a.tasks_are, task_is)
    by_parallel false = omega (arith, a.four_runners, home_is)

-- so each accepted task of the pool was taken
pub pool_tasks_taken : (script : Plan) (size : ℕ) (amount : ℕ → ℕ) (log : List Entry) (p : Posted) → AddsUp script size amount → IsLegal script log
    → IsWhole script log → Contains (posts log) p → is_taken log p.task ≡ true
pool_tasks_taken script size amount log p a legal whole among =
    true_from_ne_false (is_taken log p.task) (λ free. by_left_task ((loses_nothing script log legal whole).tasks_left p among free))
  where
    calm : IsCalm log
    calm = calm_logs script a.calm log legal

    plain : IsPlainPost false size p
    plain = AllByRecursion-contains (IsPlainPost false size) (posts log) p (plain_posts false script size amount a log legal) among

    free : (priority : Priority) → is_held log priority ≡ false
    free priority = rw (calm.phase, calm.policy) refl

    rest : EndsAtRest script log
    rest = ends_at_rest script size amount a log legal (and_parts (is_finished script log) (is_quiet script log) whole).0

    by_left_task : LeftTask script log p → ⊥
    by_left_task (Forbidden forbidden) = true≢false (sym forbidden ∙ ap (λ phase. forbids phase (effective_at script p.home p.delay)) calm.phase)
    by_left_task (Unripe unripe) = true≢false (sym unripe.delayed ∙ ap (λ n. nat_lt 0 n) plain.delay_is)
    by_left_task (Waits w) =
        let c : Candidate = sequence_candidate script log (sequence_at script p) w.head in
        nothing_waits script size amount log c a rest (a.no_single w.head.posted.home) (not_held_is_waiting script log c
        (candidate_would_wait script log (Sequence (sequence_at script p)) c
        (sequence_in script log (sequence_at script p) (sequence_there script size amount p.task p.home a plain.task_is plain.home_is) ∙ w.waits))
        (free c.priority))
