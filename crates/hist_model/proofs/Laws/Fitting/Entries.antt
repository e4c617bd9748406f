-- Each entry of a legal history of a sound script fits its types.
-- Cited by `entries.rt`, `env_app`, `env_threads`, `simulation`.
use Rattle.std.proofs.Common.{◌≡◌, ℕ, ◌+◌, ◌<◌, ◌≤◌, ◌^◌, Bool, true, false, cond, eqb, leb, List, []}
use Rattle.std.proofs.Common.{◌∷◌, length, refl, sym, subst, ◌∙◌, Option, Some, None, ⊎_elim, arith}
use Rattle.std.specs.Prelude.{◌&&◌, ◌||◌, not, All, slice_get}
use Rattle.std.specs.Option.{IfSome, option_map_or}
use Rattle.std.specs.List.{AllByRecursion}
use Rattle.std.proofs.lemmas.Bool.{and_parts, or_cases, eqb-true, eq-eqb, leb-true}
use Rattle.std.proofs.lemmas.Option.{same_Some, slice_get_within}
use Rattle.std.proofs.lemmas.List.Elements.{All-from_recursion}
use Rattle.std.proofs.lemmas.List.FromFn.{length-range_with_len}
use Rattle.task_base.specs.declared.limits.TheConstants.{LAST_MOMENT, MOST_MICROSECONDS}
use Rattle.task_base.specs.Plan.{Plan, JobPlan}
use Rattle.task_base.specs.Steps.{apply_step, after}
use Rattle.task_base.specs.Groups.{importance}
use Rattle.task_base.specs.Runners.{sequence_of}
use Rattle.task_base.specs.declared.step.Step.{Step}
use Rattle.task_base.specs.declared.step.Step.TheVariants as steps
use Rattle.task_base.specs.declared.script.Action.{Action}
use Rattle.task_base.specs.declared.script.Action.TheVariants as actions
use Rattle.task_base.specs.declared.entry.Entry.{Entry}
use Rattle.task_base.specs.declared.entry.JobReply.{JobReply}
use Rattle.task_base.specs.declared.entry.JobReply.TheVariants.{Refused, Finished, Cancelled, Stopped}
use Rattle.task_base.specs.declared.entry.Kind.{Kind}
use Rattle.task_base.specs.declared.entry.Kind.TheVariants as kinds
use Rattle.list_laws.specs.Lists.{holds_of}
use Rattle.list_laws.proofs.Counts.{count_le}
use Rattle.list_laws.proofs.Elements.{AllByRecursion-append, slice_get_all}
use Rattle.log_model.specs.Fits.{ReplyFits, NextFits, KindFits, Fits}
use Rattle.log_model.specs.LogText.{log_text, log_json}
use Rattle.log_model.proofs.Laws.LogTexts.{same_history}
use Rattle.log_model.proofs.Laws.LogJsons.{same_history_json}
use Rattle.script_model.specs.Laws.Sound.{IsStepWithin, IsStepSound, IsJobSound, IsActionSound, IsWithinLimits, IsSound}
use Rattle.task_model.specs.Refusal.{is_refused, is_closed, is_job_forbidden}
use Rattle.task_model.specs.Seats.{all_seats, holding, inside, steps_of}
use Rattle.task_model.specs.Jobs.{claimed, free_id, is_cancelled, is_empty, is_finished_job, items_of, job_post_of, job_steps_of, job_sum, item_value, reply_of}
use Rattle.task_model.specs.Sources.{leaves}
use Rattle.pool_laws.proofs.Jobs.Numbers.{free_id_is_first}
use Rattle.hist_model.specs.Script.{same_fence, wants}
use Rattle.hist_model.specs.Allowed.{by_script, by_task, enters, same_scope, may_come}
use Rattle.hist_model.specs.Legal.{IsLegal}
use Rattle.hist_model.proofs.Laws.Open.{closed_enters, closed_leaves, closed_main, closed_post}
use Rattle.hist_model.proofs.Laws.Legal.{entry_induction}
use Rattle.hist_model.proofs.Laws.BySound.{wanted_soundly, task_is_sound, entered_soundly}
use Rattle.hist_model.proofs.Laws.Entries.Jobs.{claims_one, declared}
use Rattle.hist_model.proofs.Laws.Fitting.Pasts.{running_fits, holding_fits, cell_fits, main_cell_fits, job_sum_fits, posted_fits, main_posted_fits}
use Rattle.hist_model.proofs.Laws.JobEntries.{entering_is, job_step_is, join_is}
use Rattle.hist_model.proofs.Laws.State.{ends_running, main_ends_running}
use Rattle.hist_model.proofs.Laws.Takes.{take_is, main_take_is}

-- ---- what the script wants, and what its tasks enter

-- a posting of a declared task to a declared home fits
posting_fits : (task home delay t h d tasks homes : ℕ) → (eqb task t && eqb home h && eqb delay d) ≡ true → t < tasks → h < homes → d ≤ MOST_MICROSECONDS
    → tasks ≤ 65536 → homes ≤ 65536 → (task < 2 ^ 32) × (home < 2 ^ 32) × (delay < 2 ^ 64)
posting_fits task home delay t h d tasks homes same task_within home_within delay_within few_tasks few_homes =
    let outer = and_parts (eqb task t && eqb home h) (eqb delay d) same in
    let inner = and_parts (eqb task t) (eqb home h) outer.0 in (
      omega (arith, eqb-true task t inner.0),
      omega (arith, eqb-true home h inner.1),
      omega (arith, eqb-true delay d outer.1),
    )

-- the numbers that an action gives its entry fit; the others are left to what is allowed
abbrev GivenFits : Kind → Type 0
GivenFits (kinds.Tick now) = Unit {0}
GivenFits (kinds.MainTake task queue found) = Unit {0}
GivenFits (kinds.JobTake job id item) = Unit {0}
GivenFits (kinds.Joined job reply) = job < 2 ^ 32
GivenFits kind = KindFits kind

wanted_fits : (script : Plan) (own : List Entry) (x : Action) (made : List Entry) (kind : Kind) → IsWithinLimits script → IsActionSound script x
    → wants own x made kind ≡ true → GivenFits kind
wanted_fits script own (actions.Tick count) made (kinds.Tick now) limits sound h = tt
wanted_fits script own (actions.Policy p) made (kinds.Policy policy) limits sound h = tt
wanted_fits script own (actions.Pump count) made (kinds.MainTake task queue found) limits sound h = tt
wanted_fits script own (actions.Pump count) made kinds.MainNone limits sound h = tt
wanted_fits script own actions.Flush made kinds.Idle limits sound h = tt
wanted_fits script own (actions.Join j) made (kinds.JobTake job id item) limits sound h = tt
wanted_fits script own actions.Shutdown made kinds.Shutdown limits sound h = tt
wanted_fits script own actions.Shutdown made kinds.Done limits sound h = tt
wanted_fits script own (actions.Post t r d) made (kinds.Post task runner delay ok) limits sound h =
    posting_fits task runner delay t r d (length script.tasks) (length script.runners) h sound.0.task_declared sound.0.runner_declared sound.1
    (omega arith) (omega arith)
wanted_fits script own (actions.Main t q d) made (kinds.Main task queue delay ok) limits sound h =
    posting_fits task queue delay t q d (length script.tasks) (length script.queues) h sound.0.task_declared sound.0.queue_declared sound.1
    (omega arith) (omega arith)
wanted_fits script own (actions.Reprio r p) made (kinds.Reprio runner priority) limits sound h =
    omega (arith, eqb-true runner r (and_parts (eqb runner r) (eqb (importance priority) (importance p)) h).0)
wanted_fits script own (actions.Fence q a) made (kinds.Fence queue at) limits sound h =
    omega (arith, eqb-true queue q (and_parts (eqb queue q) (same_fence at a) h).0)
wanted_fits script own (actions.Unfence q) made (kinds.Unfence queue) limits sound h = omega (arith, eqb-true queue q h)
wanted_fits script own (actions.Vote q v o) made (kinds.Vote queue voter on) limits sound h =
    let same = and_parts (eqb queue q) (eqb voter v) (and_parts (eqb queue q && eqb voter v) (cond o on (not on)) h).0 in
    (omega (arith, eqb-true queue q same.0, sound.0), omega (arith, eqb-true voter v same.1, sound.1))
wanted_fits script own (actions.Rank q c) made (kinds.Rank queue class) limits sound h =
    let same = and_parts (eqb queue q) (eqb class c) h in
    (omega (arith, eqb-true queue q same.0, sound.0), omega (arith, eqb-true class c same.1, sound.1))
wanted_fits script own (actions.Close q) made (kinds.Close queue) limits sound h = omega (arith, eqb-true queue q h)
wanted_fits script own (actions.StartJob j) made (kinds.JobPost job ok) limits sound h = omega (arith, eqb-true job j h)
wanted_fits script own (actions.Join j) made (kinds.Joined job reply) limits sound h = omega (arith, eqb-true job j (and_parts (eqb job j) _ h).0)
wanted_fits script own (actions.Cancel j) made (kinds.JobCancel job) limits sound h =
    omega (arith, eqb-true job j (and_parts (eqb job j) (eqb (length made) 0) h).0)
wanted_fits script own (actions.Cancel j) made (kinds.Cancelled job) limits sound h =
    omega (arith, eqb-true job j (and_parts (eqb job j) (eqb (length made) 1) h).0)
wanted_fits script own x made kind limits sound h = absurd cc

by_script_fits : (script : Plan) (past : List Entry) (seat : ℕ) (kind : Kind) → IsSound script → by_script script past seat kind ≡ true → GivenFits kind
by_script_fits script past seat kind sound h =
    let by = wanted_soundly script past seat kind sound h in
    wanted_fits script _ by.action by.made kind sound.limits by.sound by.wanted

entered_fits : (script : Plan) (t : ℕ) (step : Step) (kind : Kind) → IsWithinLimits script → t < 2 ^ 32 → IsStepWithin step → IsStepSound script t step
    → enters t step kind ≡ true → KindFits kind
entered_fits script t (steps.Post u r d) (kinds.Post task runner delay ok) limits small within sound h =
    posting_fits task runner delay u r d (length script.tasks) (length script.runners) h sound.1.task_declared sound.1.runner_declared within
    (omega arith) (omega arith)
entered_fits script t (steps.Main u q d) (kinds.Main task queue delay ok) limits small within sound h =
    posting_fits task queue delay u q d (length script.tasks) (length script.queues) h sound.1.task_declared sound.1.queue_declared within
    (omega arith) (omega arith)
entered_fits script t (steps.Block s) (kinds.Enter task scope) limits small within sound h =
    omega (arith, eqb-true task t (and_parts (eqb task t) (same_scope scope s) h).0)
entered_fits script t steps.Unblock (kinds.Leave task) limits small within sound h = omega (arith, eqb-true task t h)
entered_fits script t step kind limits small within sound h = absurd cc

by_task_fits : (script : Plan) (past : List Entry) (seat : ℕ) (kind : Kind) → IsSound script → AllByRecursion Fits past
    → by_task script past seat kind ≡ true → KindFits kind
by_task_fits script past seat kind sound all h =
    let by = entered_soundly script past seat kind sound h in
    entered_fits script by.now.task by.step kind sound.limits (running_fits past seat by.now all by.runs).0 by.within by.sound by.entered

-- by the script, where that fits, or by a task
either_fits : (script : Plan) (past : List Entry) (seat : ℕ) (kind : Kind) → IsSound script → AllByRecursion Fits past
    → (by_script script past seat kind ≡ true → KindFits kind) → (by_script script past seat kind || by_task script past seat kind) ≡ true → KindFits kind
either_fits script past seat kind sound all scripted h = ⊎_elim scripted (by_task_fits script past seat kind sound all)
    (or_cases (by_script script past seat kind) (by_task script past seat kind) h)

-- ---- values

step_fits : (step : Step) (value : ℕ) → IsStepWithin step → value < 2 ^ 64 → apply_step step value < 2 ^ 64
step_fits (steps.Add by) value within fits = omega arith
step_fits (steps.Mul by) value within fits = omega arith
step_fits (steps.Set to) value within fits = omega arith
step_fits step value within fits = fits

-- what sound steps make of a value that fits
after_fits : (xs : List Step) (value : ℕ) → AllByRecursion IsStepWithin xs → value < 2 ^ 64 → after xs value < 2 ^ 64
after_fits [] value within fits = fits
after_fits (x ∷ xs) value within fits = after_fits xs (apply_step x value) within.1 (step_fits x value within.0 fits)

-- what a task of a sound script leaves of a value that fits
left_fits : (script : Plan) (task value left : ℕ) → IsSound script → left ≡ after (steps_of script task) value → value < 2 ^ 64 → left < 2 ^ 64
left_fits script task value left sound is fits =
    omega (arith, is, after_fits (steps_of script task) value (task_is_sound script task sound).steps_within fits)

-- ---- jobs

job_is_sound : (script : Plan) (j : ℕ) (job : JobPlan) → IsSound script → slice_get script.jobs j ≡ Some job → IsJobSound job
job_is_sound script j job sound is = subst (λ o. IfSome o IsJobSound) is (slice_get_all IsJobSound script.jobs j sound.declarations.jobs_sound)

-- a job that has an item is declared, and the item's number fits
item_fits : (script : Plan) (j n : ℕ) → IsSound script → n + 1 ≤ items_of script j → (j < 2 ^ 32) × (n < 2 ^ 32)
item_fits script j n sound within =
    let (job, is, some) = declared script.jobs j n within in
    let sound_job = job_is_sound script j job sound is in
    let limits = sound.limits in
    (omega (arith, slice_get_within script.jobs j job is), omega arith)

item_value_fits : (script : Plan) (j item : ℕ) → IsSound script → item < 2 ^ 32 → item_value script j item < 2 ^ 64
item_value_fits script j item sound small = after_fits (job_steps_of script j) item (by_job (slice_get script.jobs j) refl) (omega arith)
  where
    by_job : (o : Option JobPlan) → slice_get script.jobs j ≡ o → AllByRecursion IsStepWithin (option_map_or (λ job. job.steps) o [])
    by_job None is = tt
    by_job (Some job) is = (job_is_sound script j job sound is).steps_within

-- a number inside a job is at most how many seats there are
number_fits : (script : Plan) (past : List Entry) (j id : ℕ) → IsSound script → free_id script past j ≡ Some id → id < 2 ^ 32
unfolding inside
number_fits script past j id sound is =
    let (n, found, first, few) = free_id_is_first script past j in
    let same : n ≡ id = same_Some n id (sym found ∙ is) in
    let config = sound.config in
    let all = count_le (λ seat. holds_of (λ h. eqb h.job j) (holding past seat)) (all_seats script) in
    omega (arith, few, same, all, length-range_with_len 0 (script.workers + 1))

-- the number of the next item is that of an item
next_fits : (script : Plan) (past : List Entry) (seat job id item value : ℕ) (next : Option ℕ) → IsSound script
    → may_come script past seat (kinds.JobStep job id item value next) ≡ true → NextFits next
next_fits script past seat job id item value None sound h = tt
next_fits script past seat job id item value (Some n) sound h =
    let is = (job_step_is script past seat job id item value (Some n) h).next_is in
    let one = claims_one script past seat (kinds.JobStep job id item value (Some n)) job h (rw (eq-eqb job job refl) refl) in
    omega (arith, claimed_next (leaves script past seat job) is, (item_fits script job (claimed past job) sound one).1)
  where
    claimed_next : (b : Bool) → Some n ≡ cond b None (Some (claimed past job)) → n ≡ claimed past job
    claimed_next true k = absurd cc
    claimed_next false k = same_Some n (claimed past job) k

reply_fits : (script : Plan) (past : List Entry) (j : ℕ) (reply : JobReply) → reply_of script past j ≡ Some reply → ReplyFits reply
reply_fits script past j (Finished sum) is =
    omega (
      arith,
      by_refused (holds_of (λ p. not p.ok) (job_post_of past j)) (is_finished_job script past j) (is_cancelled past j) (is_job_forbidden script past j) is,
      job_sum_fits past j,
    )
  where
    by_refused : (a b c d : Bool) → cond a (Some Refused) (cond b (Some (Finished (job_sum past j))) (cond c (Some Cancelled) (cond d (Some Stopped) None)))
        ≡ Some (Finished sum) → sum ≡ job_sum past j
    by_refused true b c d k = absurd cc
    by_refused false true c d k = cc
    by_refused false false true d k = absurd cc
    by_refused false false false true k = absurd cc
    by_refused false false false false k = absurd cc
reply_fits script past j reply is = tt

-- ---- each kind

kind_fits : (script : Plan) (past : List Entry) (seat : ℕ) (kind : Kind) → IsSound script → AllByRecursion Fits past
    → may_come script past seat kind ≡ true → KindFits kind
unfolding may_come
kind_fits script past seat (kinds.Post task runner delay ok) sound all h =
    either_fits script past seat (kinds.Post task runner delay ok) sound all (by_script_fits script past seat (kinds.Post task runner delay ok) sound)
    (and_parts _ (cond (is_refused script past runner delay) (not ok) ok) (sym (closed_post script past seat task runner delay ok sound.closed) ∙ h)).0
kind_fits script past seat (kinds.Main task queue delay ok) sound all h =
    either_fits script past seat (kinds.Main task queue delay ok) sound all (by_script_fits script past seat (kinds.Main task queue delay ok) sound)
    (and_parts _ (cond (is_closed past queue) (not ok) ok) (sym (closed_main script past seat task queue delay ok sound.closed) ∙ h)).0
kind_fits script past seat (kinds.Tick now) sound all h = omega (arith, leb-true now LAST_MOMENT (and_parts _ (leb now LAST_MOMENT) h).1)
kind_fits script past seat (kinds.Take task runner value) sound all h =
    let t = take_is script past seat task runner value h in
    let fits = posted_fits past t.head.posted all t.is_head.accepted in
    (omega (arith, t.task_is, fits.0), omega (arith, t.home_is, fits.1), omega (arith, t.found_is, cell_fits script past (sequence_of script runner task) all))
kind_fits script past seat (kinds.End task left) sound all h =
    let (home, value, runs, is) = ends_running script past seat task left h in
    let fits = running_fits past seat _ all runs in
    (fits.0, left_fits script task value left sound is fits.1)
kind_fits script past seat (kinds.Enter task scope) sound all h =
    by_task_fits script past seat (kinds.Enter task scope) sound all (sym (closed_enters script past seat task scope sound.closed) ∙ h)
kind_fits script past seat (kinds.Leave task) sound all h =
    by_task_fits script past seat (kinds.Leave task) sound all (sym (closed_leaves script past seat task sound.closed) ∙ h)
kind_fits script past seat (kinds.MainTake task queue value) sound all h =
    let t = main_take_is script past seat task queue value h in
    let fits = main_posted_fits past t.is_front.accepted all t.is_front.posted in (
      omega (arith, t.is_front.task_is, t.task_is, fits.0),
      omega (arith, t.is_front.queue_is, t.queue_is, fits.1),
      omega (arith, t.found_is, main_cell_fits past queue all),
    )
kind_fits script past seat (kinds.MainEnd task left) sound all h =
    let (home, value, runs, is) = main_ends_running script past seat task left h in
    let fits = running_fits past seat _ all runs in
    (fits.0, left_fits script task value left sound is fits.1)
kind_fits script past seat kinds.MainNone sound all h = tt
kind_fits script past seat (kinds.JobPost job ok) sound all h =
    by_script_fits script past seat (kinds.JobPost job ok) sound (and_parts (by_script script past seat (kinds.JobPost job ok)) _ h).0
kind_fits script past seat (kinds.JobTake job id item) sound all h =
    let t = entering_is script past seat job id item h in
    let fits = item_fits script job (claimed past job) sound (claims_one script past seat (kinds.JobTake job id item) job h (eq-eqb job job refl)) in
    (fits.0, number_fits script past job id sound t.number_is, omega (arith, t.item_is, fits.1))
kind_fits script past seat (kinds.JobStep job id item value next) sound all h =
    let s = job_step_is script past seat job id item value next h in
    let (job_small, id_small, item_small) = holding_fits past seat _ all s.held in (
      job_small,
      id_small,
      item_small,
      omega (arith, s.value_is, item_value_fits script job item sound item_small),
      next_fits script past seat job id item value next sound h,
    )
kind_fits script past seat (kinds.Cancelled job) sound all h =
    by_script_fits script past seat (kinds.Cancelled job) sound
    (and_parts (by_script script past seat (kinds.Cancelled job)) (is_cancelled past job) (and_parts _ (is_empty script past job) h).0).0
kind_fits script past seat (kinds.Joined job reply) sound all h = (
  by_script_fits script past seat (kinds.Joined job reply) sound
      (and_parts (by_script script past seat (kinds.Joined job reply)) (is_empty script past job) (and_parts _ _ h).0).0,
  reply_fits script past job reply (join_is script past seat job reply h).reply_is,
)
kind_fits script past seat kinds.Idle sound all h = tt
kind_fits script past seat kinds.Done sound all h = tt
kind_fits script past seat kind sound all h = by_script_fits script past seat kind sound h

-- ---- the histories

pub entries_fit : (script : Plan) (log : List Entry) → IsSound script → IsLegal script log → All Fits log
entries_fit script log sound legal = All-from_recursion Fits log (entry_induction script (AllByRecursion Fits) tt
    (λ past e known may all. AllByRecursion-append Fits past (e ∷ []) all (fits past e known may all, tt)) log legal)
  where
    fits : (past : List Entry) (e : Entry) → e.seat ≤ script.workers → may_come script past e.seat e.kind ≡ true → AllByRecursion Fits past → Fits e
    fits past e known may all =
        let config = sound.config in
        record { seat = omega arith; kind = kind_fits script past e.seat e.kind sound all may }

-- so no two of them have one text, or one JSON form
pub same_by_text : (a b : Plan) (first second : List Entry) → IsSound a → IsSound b → IsLegal a first → IsLegal b second
    → log_text first ≡ log_text second → first ≡ second
same_by_text a b first second sound_a sound_b legal_a legal_b =
    same_history first second (entries_fit a first sound_a legal_a) (entries_fit b second sound_b legal_b)

pub same_by_json : (a b : Plan) (first second : List Entry) → IsSound a → IsSound b → IsLegal a first → IsLegal b second
    → log_json first ≡ log_json second → first ≡ second
same_by_json a b first second sound_a sound_b legal_a legal_b =
    same_history_json first second (entries_fit a first sound_a legal_a) (entries_fit b second sound_b legal_b)
