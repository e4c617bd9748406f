-- A legal log of a sound script has at most as many entries as the script's bound says.
-- Cited by `Laws/Progress/Ends`, `entries.rt`, `progress.rt`, `env_check`, `env_core`, `env_threads`, `order_answer`, `run_summary`,
-- `simulation`, `situation`.
use Rattle.std.proofs.Common.{◌≡◌, ℕ, suc, ◌+◌, ◌≤◌, ◌<◌, Bool, true, false, cond, eqb, leb, List, [], ◌∷◌, ◌++◌}
use Rattle.std.proofs.Common.{length, get_or, refl, sym, ap, ◌∙◌, Some, arith, ⊎_elim, length-append}
use Rattle.std.specs.Prelude.{◌||◌, not, flat_map}
use Rattle.std.specs.List.{AllByRecursion}
use Rattle.std.specs.Option.{option_map_or}
use Rattle.std.proofs.lemmas.Bool.{eq-eqb, and_parts, or_cases, leb-true, leb-false, false_from_ne_true}
use Rattle.std.proofs.lemmas.Option.{slice_get-get_or}
use Rattle.task_base.specs.declared.limits.TheConstants.{LAST_MOMENT, MOST_EVENTS}
use Rattle.task_base.specs.Plan.{Plan}
use Rattle.task_base.specs.declared.step.Step.{Step}
use Rattle.task_base.specs.declared.step.Step.TheVariants as steps
use Rattle.task_base.specs.declared.script.Action.{Action}
use Rattle.task_base.specs.declared.script.Action.TheVariants as actions
use Rattle.task_base.specs.declared.entry.Entry.{Entry}
use Rattle.task_base.specs.declared.entry.Kind.{Kind}
use Rattle.task_base.specs.declared.entry.Kind.TheVariants as kinds
use Rattle.list_laws.proofs.Elements.{AllByRecursion-map, AllByRecursion-from_index}
use Rattle.list_laws.proofs.Finds.{contained_counts}
use Rattle.script_model.specs.Bound.{events_bound_of}
use Rattle.script_model.specs.Laws.Sound.{IsSound, IsActionSound, IsStepSound}
use Rattle.script_model.specs.Laws.Postings.{posts_of_step, posts_of_action, postings, times}
use Rattle.task_model.specs.Phase.{phase_of, is_started}
use Rattle.task_model.specs.Time.{now_of}
use Rattle.task_model.specs.Posts.{posts, main_posts, is_taken, takes, is_main_taken, main_takes}
use Rattle.task_model.specs.Refusal.{is_refused, is_closed}
use Rattle.task_model.specs.Seats.{Running, running, is_quiet, steps_of}
use Rattle.task_model.specs.Jobs.{is_cancelled, is_empty}
use Rattle.hist_model.specs.Allowed.{by_script, by_task, may_come, IsAllowed}
use Rattle.hist_model.specs.Open.{IsClosed}
use Rattle.hist_model.specs.Legal.{IsLegal}
use Rattle.hist_model.proofs.Laws.Open.{closed_enters, closed_leaves, closed_main, closed_post}
use Rattle.hist_model.proofs.Laws.Legal.{legal_induction, is_legal_push}
use Rattle.hist_model.proofs.Laws.Takes.{take_is, main_take_is, end_is, main_end_is}
use Rattle.hist_model.proofs.Laws.Postings.Driver.{times-append}
use Rattle.hist_model.proofs.Laws.Postings.Counts.{of_task, Counted, counted}
use Rattle.hist_model.proofs.Laws.Postings.Tasks.{takes_nothing, is_untaken}
use Rattle.hist_model.proofs.Laws.Entries.Driver.{is_of_script, driver_left, driver_left_less, driver_left_falls, driver_left_begins}
use Rattle.hist_model.proofs.Laws.Entries.Tasks.{ends_some, seats_left, seats_left_less, seats_left_act, seats_left_end, seats_left_take}
use Rattle.hist_model.proofs.Laws.Entries.Tasks.{seats_left_begin, tasks_left, tasks_left_less, tasks_left_take, tasks_left_begin}
use Rattle.hist_model.proofs.Laws.Entries.Jobs.{jobs_left, jobs_left_less, jobs_left_begin, jobs_left_take, jobs_left_step}

-- ---- what a sound script posts is declared

-- a task that none of these posts is not posted by all of them
none_posts : {A : Type 0} (t : ℕ) (f : A → List ℕ) (xs : List A) → AllByRecursion (λ x. times t (f x) ≡ 0) xs → times t (flat_map f xs) ≡ 0
none_posts t f [] none = refl
none_posts t f (x ∷ xs) none = omega (arith, times-append t (f x) (flat_map f xs), none.0, none_posts t f xs none.1)

another : (t u : ℕ) → suc u ≤ t → times t (u ∷ []) ≡ 0
another t u le = let no : eqb u t ≡ false = grind arith in rw no refl

action_posts : (script : Plan) (t : ℕ) (action : Action) → length script.tasks ≤ t → IsActionSound script action → times t (posts_of_action action) ≡ 0
action_posts script t (actions.Post task runner delay) above sound = another t task (omega (arith, sound.0.task_declared))
action_posts script t (actions.Main task queue delay) above sound = another t task (omega (arith, sound.0.task_declared))
action_posts script t action above sound = refl

step_posts : (script : Plan) (t u : ℕ) (step : Step) → length script.tasks ≤ t → IsStepSound script u step → times t (posts_of_step step) ≡ 0
step_posts script t u (steps.Post task runner delay) above sound = another t task (omega (arith, sound.1.task_declared))
step_posts script t u (steps.Main task queue delay) above sound = another t task (omega (arith, sound.1.task_declared))
step_posts script t u step above sound = refl

undeclared_is_not_posted : (script : Plan) (t : ℕ) → IsSound script → length script.tasks ≤ t → times t (postings script) ≡ 0
unfolding postings
undeclared_is_not_posted script t sound above = omega (
  arith,
  times-append t (flat_map posts_of_action script.actions) (flat_map (λ task. flat_map posts_of_step task) script.tasks),
  none_posts t posts_of_action script.actions
      (AllByRecursion-map (IsActionSound script) (λ action. times t (posts_of_action action) ≡ 0) script.actions
      (λ action is. action_posts script t action above is) sound.actions.each_sound),
  none_posts t (λ task. flat_map posts_of_step task) script.tasks
      (AllByRecursion-from_index (λ task. times t (flat_map posts_of_step task) ≡ 0) script.tasks of_task_at),
)
  where
    of_task_at : (u : ℕ) (d : List Step) → u < length script.tasks → times t (flat_map posts_of_step (get_or script.tasks u d)) ≡ 0
    of_task_at u d within =
        let task : List Step = get_or script.tasks u d in
        none_posts t posts_of_step task (AllByRecursion-map (IsStepSound script u) (λ step. times t (posts_of_step step) ≡ 0) task
        (λ step is. step_posts script t u step above is)
        (sound.declarations.tasks_sound u task (slice_get-get_or script.tasks u d within)).steps_sound)

posted_is_declared : (script : Plan) (t : ℕ) → IsSound script → 1 ≤ times t (postings script) → t < length script.tasks
posted_is_declared script t sound posted = at (leb (length script.tasks) t) refl
  where
    at : (b : Bool) → leb (length script.tasks) t ≡ b → t < length script.tasks
    at true is = absurd (omega (arith, posted, undeclared_is_not_posted script t sound (leb-true (length script.tasks) t is)))
    at false is = omega (arith, leb-false (length script.tasks) t is)

-- ---- each entry is one of those that were left

-- how many entries are left: of the driver's actions, of tasks that were not taken, of what runs, and of jobs
left : Plan → List Entry → ℕ
left script past = driver_left script past + tasks_left script past + seats_left script past + jobs_left script past

-- the entry is one of those that were left
IsOne : Plan → List Entry → Entry → Type 0
IsOne script past e = left script (past ++ e ∷ []) + 1 ≤ left script past

by_script_one : (script : Plan) (past : List Entry) (e : Entry) → IsClosed script → e.seat ≤ script.workers → takes_nothing e.kind ≡ true
    → is_of_script e.kind ≡ true
    → by_script script past e.seat e.kind ≡ true → IsOne script past e
unfolding left IsOne
by_script_one script past e closed le none of by = omega (
  arith,
  driver_left_falls script past e closed by of,
  tasks_left_less script past e,
  seats_left_less script past e le none,
  jobs_left_less script past e,
)

by_task_one : (script : Plan) (past : List Entry) (e : Entry) → e.seat ≤ script.workers → by_task script past e.seat e.kind ≡ true → IsOne script past e
unfolding left IsOne
by_task_one script past e le by = omega (
  arith,
  driver_left_less script past e,
  tasks_left_less script past e,
  seats_left_act script past e le by,
  jobs_left_less script past e,
)

by_either_one : (script : Plan) (past : List Entry) (e : Entry) → IsClosed script → e.seat ≤ script.workers → takes_nothing e.kind ≡ true
    → is_of_script e.kind ≡ true
    → (by_script script past e.seat e.kind || by_task script past e.seat e.kind) ≡ true → IsOne script past e
by_either_one script past e closed le none of by = ⊎_elim (λ k. by_script_one script past e closed le none of k) (λ k. by_task_one script past e le k)
    (or_cases (by_script script past e.seat e.kind) (by_task script past e.seat e.kind) by)

end_one : (script : Plan) (past : List Entry) (e : Entry) (w : Running) → e.seat ≤ script.workers → running past e.seat ≡ Some w
    → takes_nothing e.kind ≡ true → ends_some e.kind ≡ true → IsOne script past e
unfolding left IsOne
end_one script past e w le is none ends = omega (
  arith,
  driver_left_less script past e,
  tasks_left_less script past e,
  seats_left_end script past e w le is ends,
  jobs_left_less script past e,
)

job_one : (script : Plan) (past : List Entry) (e : Entry) → e.seat ≤ script.workers → takes_nothing e.kind ≡ true
    → jobs_left script (past ++ e ∷ []) + 1 ≤ jobs_left script past → IsOne script past e
unfolding left IsOne
job_one script past e le none falls = omega (
  arith,
  driver_left_less script past e,
  tasks_left_less script past e,
  seats_left_less script past e le none,
  falls,
)

-- a task that is taken was taken neither from the pool nor from a main queue, and the script posts it
record IsTakenNow (script : Plan) (past : List Entry) (u : ℕ) : Type 0 where
  untaken : is_untaken past u ≡ true
  posted : 1 ≤ times u (postings script)

taken_now : (script : Plan) (past : List Entry) (seat task runner value : ℕ) → IsSound script → IsLegal script past
    → may_come script past seat (kinds.Take task runner value) ≡ true → IsTakenNow script past task
taken_now script past seat task runner value sound legal may =
    let known : Counted script past = counted script sound.once.posted_once past legal in
    let t = take_is script past seat task runner value may in
    let here : 1 ≤ of_task task (posts past) = contained_counts (λ p. eqb p.task task) (posts past) t.head.posted t.is_head.accepted
    (eq-eqb t.head.posted.task task t.task_is) in
    let other : is_main_taken past task ≡ false = false_from_ne_true (is_main_taken past task)
    (λ k. omega (arith, here, known.taken true task k, known.accepted task, known.once task)) in
    record { untaken = rw (t.not_taken, other) refl; posted = omega (arith, here, known.accepted task, known.within sound.closed task) }

main_taken_now : (script : Plan) (past : List Entry) (seat task queue value : ℕ) → IsSound script → IsLegal script past
    → may_come script past seat (kinds.MainTake task queue value) ≡ true → IsTakenNow script past task
main_taken_now script past seat task queue value sound legal may =
    let known : Counted script past = counted script sound.once.posted_once past legal in
    let t = main_take_is script past seat task queue value may in
    let here : 1 ≤ of_task task (main_posts past) = contained_counts (λ p. eqb p.task task) (main_posts past) t.is_front.accepted t.is_front.posted
    (eq-eqb t.is_front.accepted.task task (t.is_front.task_is ∙ t.task_is)) in
    let this : is_main_taken past task ≡ false = ap (is_main_taken past) (sym t.task_is) ∙ t.is_front.not_taken in
    let other : is_taken past task ≡ false = false_from_ne_true (is_taken past task)
    (λ k. omega (arith, here, known.taken false task k, known.accepted task, known.once task)) in
    record { untaken = rw (other, this) refl; posted = omega (arith, here, known.accepted task, known.within sound.closed task) }

take_one : (script : Plan) (u : ℕ) (past : List Entry) (e : Entry) → IsSound script → e.seat ≤ script.workers → (takes u e.kind || main_takes u e.kind) ≡ true
    → IsTakenNow script past u → IsOne script past e
unfolding left IsOne
take_one script u past e sound le takes_it now =
    let here = slice_get-get_or script.tasks u [] (posted_is_declared script u sound now.posted) in
    let same : steps_of script u ≡ get_or script.tasks u [] = ap (λ o. option_map_or (λ task. task) o []) here in
    let seats = seats_left_take script u past e le takes_it in
    omega (
      arith,
      driver_left_less script past e,
      tasks_left_take script u (get_or script.tasks u []) past e takes_it now.untaken here,
      rw same at seats,
      jobs_left_less script past e,
    )

-- an entry that is allowed is one of those that were left
one_goes : (script : Plan) (past : List Entry) (seat : ℕ) (kind : Kind) → IsSound script → IsLegal script past
    → IsLegal script (past ++ record { seat = seat; kind = kind } ∷ []) → seat ≤ script.workers → may_come script past seat kind ≡ true
    → IsOne script past (record { seat = seat; kind = kind })
unfolding may_come
one_goes script past seat (kinds.Post task runner delay ok) sound legal longer le h =
    by_either_one script past (record { seat = seat; kind = kinds.Post task runner delay ok }) sound.closed le refl refl
    (and_parts _ (cond (is_refused script past runner delay) (not ok) ok) (sym (closed_post script past seat task runner delay ok sound.closed) ∙ h)).0
one_goes script past seat (kinds.Main task queue delay ok) sound legal longer le h =
    by_either_one script past (record { seat = seat; kind = kinds.Main task queue delay ok }) sound.closed le refl refl
    (and_parts _ (cond (is_closed past queue) (not ok) ok) (sym (closed_main script past seat task queue delay ok sound.closed) ∙ h)).0
one_goes script past seat (kinds.Tick now) sound legal longer le h =
    by_script_one script past (record { seat = seat; kind = kinds.Tick now }) sound.closed le refl refl
    (and_parts _ (leb (now_of past) now) (and_parts _ (leb now LAST_MOMENT) h).0).0
one_goes script past seat (kinds.Take task runner value) sound legal longer le h =
    take_one script task past (record { seat = seat; kind = kinds.Take task runner value }) sound le (rw (eq-eqb task task refl) refl)
    (taken_now script past seat task runner value sound legal h)
one_goes script past seat (kinds.MainTake task queue value) sound legal longer le h =
    take_one script task past (record { seat = seat; kind = kinds.MainTake task queue value }) sound le (rw (eq-eqb task task refl) refl)
    (main_taken_now script past seat task queue value sound legal h)
one_goes script past seat (kinds.End task value) sound legal longer le h =
    let (w, is, pool, same) = end_is script past seat task value h in
    end_one script past (record { seat = seat; kind = kinds.End task value }) w le is refl refl
one_goes script past seat (kinds.MainEnd task value) sound legal longer le h =
    let (w, is, main, same) = main_end_is script past seat task value h in
    end_one script past (record { seat = seat; kind = kinds.MainEnd task value }) w le is refl refl
one_goes script past seat (kinds.Enter task scope) sound legal longer le h =
    by_task_one script past (record { seat = seat; kind = kinds.Enter task scope }) le (sym (closed_enters script past seat task scope sound.closed) ∙ h)
one_goes script past seat (kinds.Leave task) sound legal longer le h =
    by_task_one script past (record { seat = seat; kind = kinds.Leave task }) le (sym (closed_leaves script past seat task sound.closed) ∙ h)
one_goes script past seat (kinds.JobTake job id item) sound legal longer le h =
    job_one script past (record { seat = seat; kind = kinds.JobTake job id item }) le refl (jobs_left_take script past seat job id item longer)
one_goes script past seat (kinds.JobStep job id item value next) sound legal longer le h =
    job_one script past (record { seat = seat; kind = kinds.JobStep job id item value next }) le refl
    (jobs_left_step script past seat job id item value next longer)
one_goes script past seat kinds.MainNone sound legal longer le h =
    by_script_one script past (record { seat = seat; kind = kinds.MainNone }) sound.closed le refl refl
    (and_parts (by_script script past seat kinds.MainNone) _ h).0
one_goes script past seat (kinds.JobPost job ok) sound legal longer le h =
    by_script_one script past (record { seat = seat; kind = kinds.JobPost job ok }) sound.closed le refl refl
    (and_parts (by_script script past seat (kinds.JobPost job ok)) _ h).0
one_goes script past seat (kinds.Cancelled job) sound legal longer le h =
    by_script_one script past (record { seat = seat; kind = kinds.Cancelled job }) sound.closed le refl refl
    (and_parts (by_script script past seat (kinds.Cancelled job)) (is_cancelled past job) (and_parts _ (is_empty script past job) h).0).0
one_goes script past seat (kinds.Joined job reply) sound legal longer le h =
    by_script_one script past (record { seat = seat; kind = kinds.Joined job reply }) sound.closed le refl refl
    (and_parts (by_script script past seat (kinds.Joined job reply)) (is_empty script past job) (and_parts _ _ h).0).0
one_goes script past seat kinds.Idle sound legal longer le h =
    by_script_one script past (record { seat = seat; kind = kinds.Idle }) sound.closed le refl refl
    (and_parts (by_script script past seat kinds.Idle) (is_quiet script past) (and_parts _ _ h).0).0
one_goes script past seat kinds.Done sound legal longer le h =
    by_script_one script past (record { seat = seat; kind = kinds.Done }) sound.closed le refl refl
    (and_parts (by_script script past seat kinds.Done) (is_started (phase_of past)) (and_parts _ _ h).0).0
one_goes script past seat kind sound legal longer le h = by_script_one script past (record { seat = seat; kind = kind }) sound.closed le refl refl h

-- ---- the bound

-- the entries and those that are left are no more than the bound
Within : Plan → List Entry → Type 0
Within script past = length past + left script past ≤ events_bound_of script

within_next : (script : Plan) → IsSound script → (past : List Entry) (e : Entry) → IsLegal script past → IsAllowed script past e
    → Within script past → Within script (past ++ e ∷ [])
unfolding Within IsOne
within_next script sound past e legal allowed known =
    let longer : IsLegal script (past ++ e ∷ []) = is_legal_push script past e ∙ rw (legal, allowed) refl in
    let parts = and_parts (leb e.seat script.workers) (may_come script past e.seat e.kind) allowed in
    omega (
      arith,
      length-append past (e ∷ []),
      one_goes script past e.seat e.kind sound legal longer (leb-true e.seat script.workers parts.0) parts.1,
    )

within_at_first : (script : Plan) → Within script []
unfolding Within left
within_at_first script = omega (arith, driver_left_begins script, tasks_left_begin script, seats_left_begin script, jobs_left_begin script)

-- a legal log has no more entries than its script's bound
pub entries_within : (script : Plan) (log : List Entry) → IsSound script → IsLegal script log → length log ≤ events_bound_of script
unfolding Within
entries_within script log sound legal =
    let known : Within script log = legal_induction script (Within script) (within_at_first script) (within_next script sound) log legal in omega (arith, known)

-- so it has no more than the most that a script may make
pub entries_within_limit : (script : Plan) (log : List Entry) → IsSound script → IsLegal script log → length log ≤ MOST_EVENTS
entries_within_limit script log sound legal = omega (arith, entries_within script log sound legal, sound.limits.few_events)
