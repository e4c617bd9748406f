-- The lines of the tasks and the jobs in the canonical text are read, behind those before them, as what they are made from.
-- Cited by `Laws/Canonical`.
use Rattle.std.proofs.Common.{◌≡◌, ℕ, ◌+◌, ◌<◌, ◌≤◌, Bool, true, false, List, [], ◌∷◌, ◌++◌, length}
use Rattle.std.proofs.Common.{refl, sym, ◌∙◌, arith}
use Rattle.std.specs.Prelude.{not, ◌&&◌, slice_index_or}
use Rattle.std.specs.List.{list_all, list_any, AllByRecursion}
use Rattle.std.proofs.lemmas.Bool.{lt-ltb, le-ltb, or_parts}
use Rattle.std.proofs.Math.ListN.{get_or-append}
use Rattle.task_base.specs.Plan.{Plan, JobPlan}
use Rattle.task_base.specs.Steps.{is_act}
use Rattle.task_base.specs.declared.step.Step.{Step}
use Rattle.task_base.specs.declared.step.Step.TheVariants.{Add, Mul, Set, Post as PostStep, Main as MainStep, Block, Unblock}
use Rattle.script_model.specs.Bound.{events_of_task, events_of_job}
use Rattle.script_model.specs.Laws.Postings.{IsPostedOnce}
use Rattle.script_model.specs.Draft.{is_declared, posted_in, is_any_posted}
use Rattle.script_model.specs.Draft.{is_bad_post, is_block, items_in, steps_in, events_in, opens_scope, may_block_on}
use Rattle.task_base.specs.declared.limits.TheConstants.{MOST_TASKS, MOST_JOBS, MOST_ITEMS, MOST_STEPS, MOST_EVENTS}
use Rattle.script_model.specs.Lines.{task_line, job_line, command_read}
use Rattle.script_model.specs.Canonical.{task_words, job_words}
use Rattle.script_model.specs.Laws.Sound.{IsSound, IsStepWithin, IsStepSound, IsTaskSound, IsJobSound}
use Rattle.list_laws.proofs.Values.{eqb-same}
use Rattle.script_model.proofs.Laws.Computing.{computing, computing_declared, computing_good, computing_posts}
use Rattle.script_model.proofs.Laws.Postings.{posts_of_task, posted_parts, posted_in_parts, posted_at, not_posted}
use Rattle.script_model.proofs.Laws.Words.{number_is, id_is, plain_id, priority_is, priority_plain, behaviour_is, behaviour_plain}
use Rattle.script_model.proofs.Laws.Words.{IsStepReadable, steps_are, steps_plain}
use Rattle.script_model.proofs.Laws.Lines.{IsLineRead, all_at, length_at, sum_at, get_at, draft_at}

pub good_post : (opens takes : Bool) → (opens ≡ true → takes ≡ true) → (opens && not takes) ≡ false
good_post true true h = refl
good_post true false h = absurd (let never : false ≡ true = h refl in cc)
good_post false takes h = refl

step_readable : (s : Plan) → IsSound s → (t : ℕ) → t ≤ 65536 → (step : Step) → IsStepWithin step → IsStepSound s t step → IsStepReadable step
step_readable s sound t low (Add by) within h = within
step_readable s sound t low (Mul by) within h = within
step_readable s sound t low (Set to) within h = within
step_readable s sound t low (PostStep task runner delay) within h =
    (omega (arith, low, h.0), omega (arith, h.1.runner_declared, sound.limits.few_runners), within)
step_readable s sound t low (MainStep task queue delay) within h =
    (omega (arith, low, h.0), omega (arith, h.1.queue_declared, sound.limits.few_queues), within)
step_readable s sound t low (Block scope) within h = tt
step_readable s sound t low Unblock within h = tt

steps_readable : (s : Plan) → IsSound s → (t : ℕ) → t ≤ 65536 → (steps : List Step) → AllByRecursion IsStepWithin steps
    → AllByRecursion (IsStepSound s t) steps → AllByRecursion IsStepReadable steps
steps_readable s sound t low [] within h = tt
steps_readable s sound t low (step ∷ steps) within h = (step_readable s sound t low step within.0 h.0, steps_readable s sound t low steps within.1 h.1)

step_declared : (s : Plan) (done : List (List Step)) (step : Step) → IsStepSound s (length done) step
    → is_declared (draft_at s s.runners s.queues done [] []) step ≡ true
step_declared s done (PostStep task runner delay) h = rw (lt-ltb task (length done) h.0, lt-ltb runner (length s.runners) h.1.runner_declared) refl
step_declared s done (MainStep task queue delay) h = rw (lt-ltb task (length done) h.0, lt-ltb queue (length s.queues) h.1.queue_declared) refl
step_declared s done (Add by) h = refl
step_declared s done (Mul by) h = refl
step_declared s done (Set to) h = refl
step_declared s done (Block scope) h = refl
step_declared s done Unblock h = refl

steps_declared : (s : Plan) (done : List (List Step)) (steps : List Step) → AllByRecursion (IsStepSound s (length done)) steps
    → list_all (is_declared (draft_at s s.runners s.queues done [] [])) steps ≡ true
steps_declared s done [] h = refl
steps_declared s done (step ∷ steps) h = rw (step_declared s done step h.0) (steps_declared s done steps h.1)

opens_same : (s : Plan) (done rest : List (List Step)) (task : ℕ) → done ++ rest ≡ s.tasks → task < length done
    → opens_scope s.tasks task ≡ list_any is_block (slice_index_or done task [])
opens_same s done rest task e here = rw (← e, get_or-append done rest [] task here) refl

step_good : (s : Plan) (done rest : List (List Step)) → done ++ rest ≡ s.tasks → (step : Step) → IsStepSound s (length done) step
    → is_bad_post (draft_at s s.runners s.queues done [] []) step ≡ false
step_good s done rest e (PostStep task runner delay) h =
    let same = opens_same s done rest task e h.0 in
    good_post (list_any is_block (slice_index_or done task [])) (may_block_on s.runners runner) (λ opens. h.1.may_block (same ∙ opens))
step_good s done rest e (MainStep task queue delay) h = sym (opens_same s done rest task e h.0) ∙ h.1.no_scope
step_good s done rest e (Add by) h = refl
step_good s done rest e (Mul by) h = refl
step_good s done rest e (Set to) h = refl
step_good s done rest e (Block scope) h = refl
step_good s done rest e Unblock h = refl

steps_good : (s : Plan) (done rest : List (List Step)) → done ++ rest ≡ s.tasks → (steps : List Step) → AllByRecursion (IsStepSound s (length done)) steps
    → list_any (is_bad_post (draft_at s s.runners s.queues done [] [])) steps ≡ false
steps_good s done rest e [] h = refl
steps_good s done rest e (step ∷ steps) h = rw (step_good s done rest e step h.0) (steps_good s done rest e steps h.1)

task_fresh : (s : Plan) → IsPostedOnce s → (done : List (List Step)) (steps : List Step) (rest : List (List Step)) → done ++ steps ∷ rest ≡ s.tasks
    → is_any_posted (posted_in (draft_at s s.runners s.queues done [] [])) (posts_of_task steps) ≡ false
task_fresh s once done steps rest e = not_posted (posted_in (draft_at s s.runners s.queues done [] [])) (posts_of_task steps) (λ t.
    let parts = posted_parts s t in
    let earlier = posted_in_parts (draft_at s s.runners s.queues done [] []) t in
    let here = posted_at posts_of_task done steps rest s.tasks e t in
    omega (arith, parts, earlier, here, once t))

pub task_read : (s : Plan) → IsSound s → (done : List (List Step)) (steps : List Step) (rest : List (List Step)) → done ++ steps ∷ rest ≡ s.tasks
    → IsLineRead (draft_at s s.runners s.queues done [] []) (task_words (length done) steps) (draft_at s s.runners s.queues (done ++ steps ∷ []) [] [])
unfolding command_read task_line
task_read s sound done steps rest e =
    let d = draft_at s s.runners s.queues done [] [] in
    let few : length done + 1 ≤ MOST_TASKS = omega (arith, length_at done steps rest s.tasks e, sound.limits.few_tasks) in
    let id : length done ≤ 65536 = omega (arith, few) in
    let few_steps : steps_in d + length steps ≤ MOST_STEPS =
    omega (arith, sum_at (λ (x : List Step). length x) done steps rest s.tasks e, sound.limits.few_steps) in
    let few_events : events_in d + events_of_task steps ≤ MOST_EVENTS =
    omega (arith, sum_at events_of_task done steps rest s.tasks e, sound.limits.few_events) in
    let made : IsTaskSound s (length done) steps = sound.declarations.tasks_sound (length done) steps (get_at done steps rest s.tasks e) in
    let readable = steps_readable s sound (length done) id steps made.steps_within made.steps_sound in
    record {
      reads = rw (
        id_is (length done) id,
        steps_are steps readable,
        eqb-same (length done),
        steps_declared s done steps made.steps_sound,
        task_fresh s sound.once.posted_once done steps rest e,
        made.scopes_in_turn,
        steps_good s done (steps ∷ rest) e steps made.steps_sound,
        le-ltb MOST_TASKS (length done + 1) few,
        le-ltb MOST_STEPS (steps_in d + length steps) few_steps,
        le-ltb MOST_EVENTS (events_in d + events_of_task steps) few_events,
      ) refl;
      starts = refl;
      plain = rw (plain_id (length done) id, steps_plain steps readable) refl;
    }

-- ---- jobs

computing_readable : (steps : List Step) → AllByRecursion IsStepWithin steps → list_any is_act steps ≡ false → AllByRecursion IsStepReadable steps
computing_readable [] within e = tt
computing_readable (step ∷ steps) within e =
    let both = or_parts (is_act step) (list_any is_act steps) e in
    (computing (λ x. IsStepWithin x → IsStepReadable x) (λ k h. h) (λ k h. h) (λ k h. h) step both.0 within.0, computing_readable steps within.1 both.1)

pub job_read : (s : Plan) → IsSound s → (done : List JobPlan) (job : JobPlan) (rest : List JobPlan) → done ++ job ∷ rest ≡ s.jobs
    → IsLineRead (draft_at s s.runners s.queues s.tasks done []) (job_words (length done) job) (draft_at s s.runners s.queues s.tasks (done ++ job ∷ []) [])
unfolding command_read job_line
job_read s sound done job rest e =
    let d = draft_at s s.runners s.queues s.tasks done [] in
    let steps = job.steps in
    let few : length done + 1 ≤ MOST_JOBS = omega (arith, length_at done job rest s.jobs e, sound.limits.few_jobs) in
    let id : length done ≤ 65536 = omega (arith, few) in
    let few_items : items_in d + job.items ≤ MOST_ITEMS =
    omega (arith, sum_at (λ (x : JobPlan). x.items) done job rest s.jobs e, sound.limits.few_items) in
    let few_steps : steps_in d + length steps ≤ MOST_STEPS =
    omega (arith, sum_at (λ (x : JobPlan). length x.steps) done job rest s.jobs e, sound.limits.few_steps) in
    let few_events : events_in d + events_of_job job ≤ MOST_EVENTS = omega (arith, sum_at events_of_job done job rest s.jobs e, sound.limits.few_events) in
    let made : IsJobSound job = all_at IsJobSound done job rest s.jobs e sound.declarations.jobs_sound in
    let readable = computing_readable steps made.steps_within made.steps_compute in
    record {
      reads = rw (
        id_is (length done) id,
        priority_is job.priority,
        behaviour_is job.behaviour,
        number_is 0 65536 job.items (omega arith) made.items_within (omega arith),
        number_is 1 64 job.cap made.some_cap made.cap_within (omega arith),
        steps_are steps readable,
        eqb-same (length done),
        computing_declared d steps made.steps_compute,
        computing_posts steps made.steps_compute,
        computing_good d steps made.steps_compute,
        made.steps_compute,
        le-ltb MOST_JOBS (length done + 1) few,
        le-ltb MOST_ITEMS (items_in d + job.items) few_items,
        le-ltb MOST_STEPS (steps_in d + length steps) few_steps,
        le-ltb MOST_EVENTS (events_in d + events_of_job job) few_events,
      ) refl;
      starts = refl;
      plain = rw (
        plain_id (length done) id,
        priority_plain job.priority,
        behaviour_plain job.behaviour,
        plain_id job.items made.items_within,
        plain_id job.cap (omega (arith, made.cap_within)),
        steps_plain steps readable,
      ) refl;
    }
