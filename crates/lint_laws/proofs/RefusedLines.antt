-- A command that is refused behind a draft has its objection.
-- Cited by `each_refused_line_has_its_place`, `FaultLines`.
use Rattle.std.proofs.Common.{◌≡◌, ℕ, ◌+◌, Bool, true, false, cond, eqb, ltb, List, [], ◌∷◌, length, flat_map, refl, Option, Some, None, Result, Ok, Err}
use Rattle.std.specs.Prelude.{not, is_some, option_map, slice_get}
use Rattle.std.specs.List.{list_any, list_all}
use Rattle.task_base.specs.Plan.{Plan, JobPlan}
use Rattle.task_base.specs.Steps.{is_act}
use Rattle.task_base.specs.declared.step.Step.{Step}
use Rattle.task_base.specs.declared.step.Step.TheVariants.{Post as PostStep, Main as MainStep}
use Rattle.task_base.specs.declared.script.RunnerKind.{RunnerKind}
use Rattle.task_base.specs.declared.script.RunnerKind.TheVariants.{Parallel, Sequenced, Single}
use Rattle.task_base.specs.declared.script.Runner.{Runner}
use Rattle.task_base.specs.declared.script.MainQueue.{MainQueue}
use Rattle.task_base.specs.declared.script.Action.{Action}
use Rattle.task_base.specs.declared.script.Action.TheVariants.{Post, Main, Tick, Policy, Reprio, Fence, Unfence, Vote, Rank, Close, Pump}
use Rattle.task_base.specs.declared.script.Action.TheVariants.{Flush, StartJob, Join, Cancel, Shutdown}
use Rattle.task_base.specs.declared.limits.TheConstants.{MOST_RUNNERS, MOST_QUEUES, MOST_TASKS, MOST_JOBS, MOST_ITEMS, MOST_STEPS, MOST_TICKS, MOST_EVENTS}
use Rattle.script_model.specs.Reasons.{◌>>◌, refuse, out_of_order, undeclared, posted_twice, declaration_late, bad_block, job_use}
use Rattle.script_model.specs.Reasons.{shutdown_twice, config_twice, too_many}
use Rattle.script_model.specs.Bound.{events_of_task, events_of_job, events_of_action}
use Rattle.script_model.specs.Laws.Postings.{posts_of_step}
use Rattle.script_model.specs.Draft.{Draft, script_of, has_no_actions, is_bare, is_above_workers, is_declared, has_runner, has_queue}
use Rattle.script_model.specs.Draft.{has_voter, has_job, posted_in, is_any_posted, has_bad_scopes, is_bad_post, is_started, has_shutdown}
use Rattle.script_model.specs.Draft.{ticks_of, items_in, steps_in, ticks_in, events_in}
use Rattle.script_model.specs.Lines.{acted, posted}
use Rattle.script_lines.specs.declared.command.Command.{Command}
use Rattle.script_lines.specs.declared.command.Command.TheVariants as commands
use Rattle.task_script.specs.Added.{workers_added, groups_added, threshold_added, runner_added, queue_added, task_added, job_added}
use Rattle.task_script.specs.Added.{on_runner, on_queue, on_voter, job_start, on_job, shutdown_start, action_added, added}
use Rattle.lint_text.specs.declared.complaint.Complaint.TheVariants.{NoVoter}
use Rattle.line_places.specs.declared.expected.Thing.TheVariants as things
use Rattle.lint_text.specs.declared.objection.Objection.{Objection}
use Rattle.lint_text.specs.Objections.{at, none_of}
use Rattle.script_lint.specs.Lines.{line_objection, is_late, declared_before, voter_objection, kind_objection}
use Rattle.lint_laws.specs.Told.{says_why, is_told}
use Rattle.lint_laws.proofs.ToldSteps.{undeclared_if_any, blocking_if_any, computing_if_any, undeclared_told, blocking_told, computing_told}
use Rattle.lint_laws.proofs.ToldSteps.{first_step-told, one_step-told, not_all, scopes_told, bad_posts_told}
use Rattle.lint_laws.proofs.PostedAgain.{posted_again-found}

-- what is wrong with the command is told, by its reason
abbrev told : Draft → List ℕ → Command → ℕ → Bool
told d front command reason = is_told (line_objection (script_of d) front command reason)

-- each reason of the result has the property
abbrev Tells : {B : Type 0} → (ℕ → Bool) → Result B ℕ → Type 0
Tells says result = (reason : ℕ) → result ≡ Err reason → says reason ≡ true

-- what is given has no reason
gives : {B : Type 0} (says : ℕ → Bool) (x : B) → Tells says (Ok x)
gives says x reason e = absurd cc

-- a refusal, and what may be refused behind it
or_refused : {B : Type 0} (says : ℕ → Bool) (test : Bool) (why : ℕ) (rest : Result B ℕ) → (test ≡ true → says why ≡ true) → Tells says rest
    → Tells says (refuse test why >> rest)
or_refused says true why rest here behind reason e = let same : why ≡ reason = cc in rw (← same) (here refl)
or_refused says false why rest here behind reason e = behind reason e

-- ---- where the objection takes a case

one_of_two : (b : Bool) (x y : Objection) → says_why x.complaint ≡ true → says_why y.complaint ≡ true → is_told (cond b (Some x) (Some y)) ≡ true
one_of_two true x y p q = p
one_of_two false x y p q = q

late : (front : List ℕ) (command : Command) → is_told (is_late front command) ≡ true
late front command = one_of_two (is_some (declared_before front command)) _ _ refl refl

twice : (objection : ℕ × ℕ → Objection) → ((found : ℕ × ℕ) → says_why (objection found).complaint ≡ true) → (o : Option (ℕ × ℕ)) → is_some o ≡ true
    → is_told (option_map objection o) ≡ true
twice objection told None e = absurd cc
twice objection told (Some found) e = told found

no_seat : (d : Draft) (kind : RunnerKind) → is_above_workers d kind ≡ true → is_told (kind_objection (script_of d) kind) ≡ true
no_seat d Parallel e = absurd cc
no_seat d Sequenced e = absurd cc
no_seat d (Single seat) e = refl

no_voter : (script : Plan) (queue : ℕ) → says_why (voter_objection script queue).complaint ≡ true
no_voter script queue = by_queue (slice_get script.queues queue)
  where
    by_queue : (o : Option MainQueue) → says_why (elim o as (λ _. Objection) [
      | None ↦ at 2 (none_of things.Queue (length script.queues))
      | Some declared ↦ at 3 (NoVoter declared.voters)
    ]).complaint ≡ true
    by_queue None = refl
    by_queue (Some declared) = refl

-- ---- configuration

workers_told : (d : Draft) (front : List ℕ) (count : ℕ) → Tells (told d front (commands.Workers count)) (workers_added d count)
unfolding workers_added
workers_told d front count =
    let says = told d front (commands.Workers count) in
    or_refused says (not (is_bare d)) declaration_late _ (λ _. late front (commands.Workers count))
    (or_refused says (is_some d.workers) config_twice _ (λ _. refl) (gives says _))

threshold_told : (d : Draft) (front : List ℕ) (microseconds : ℕ) → Tells (told d front (commands.Threshold microseconds)) (threshold_added d microseconds)
unfolding threshold_added
threshold_told d front microseconds =
    let says = told d front (commands.Threshold microseconds) in
    or_refused says (not (is_bare d)) declaration_late _ (λ _. late front (commands.Threshold microseconds))
    (or_refused says (is_some d.threshold) config_twice _ (λ _. refl) (gives says _))

groups_told : (d : Draft) (front : List ℕ) (f fb b : ℕ)
    → Tells (told d front (commands.Groups f fb b)) (groups_added d (record { foreground = f; foreground_best = fb; background = b }))
unfolding groups_added
groups_told d front f fb b =
    let says = told d front (commands.Groups f fb b) in
    or_refused says (not (is_bare d)) declaration_late _ (λ _. late front (commands.Groups f fb b))
    (or_refused says (is_some d.groups) config_twice _ (λ _. refl) (gives says _))

-- ---- declarations

runner_told : (d : Draft) (front : List ℕ) (number : ℕ) (runner : Runner) → Tells (told d front (commands.Runner number runner)) (runner_added d number runner)
unfolding runner_added
runner_told d front number runner =
    let says = told d front (commands.Runner number runner) in
    or_refused says (not (eqb number (length d.runners))) out_of_order _ (λ _. refl)
    (or_refused says (is_above_workers d runner.kind) undeclared _ (no_seat d runner.kind)
    (or_refused says (not (has_no_actions d)) declaration_late _ (λ _. late front (commands.Runner number runner))
    (or_refused says (ltb MOST_RUNNERS (length d.runners + 1)) too_many _ (λ _. refl) (gives says _))))

queue_told : (d : Draft) (front : List ℕ) (number : ℕ) (queue : MainQueue) → Tells (told d front (commands.Queue number queue)) (queue_added d number queue)
unfolding queue_added
queue_told d front number queue =
    let says = told d front (commands.Queue number queue) in
    or_refused says (not (eqb number (length d.queues))) out_of_order _ (λ _. refl)
    (or_refused says (not (has_no_actions d)) declaration_late _ (λ _. late front (commands.Queue number queue))
    (or_refused says (ltb MOST_QUEUES (length d.queues + 1)) too_many _ (λ _. refl) (gives says _)))

task_told : (d : Draft) (front : List ℕ) (number : ℕ) (steps : List Step) → Tells (told d front (commands.Task number steps)) (task_added d number steps)
unfolding task_added
task_told d front number steps =
    let says = told d front (commands.Task number steps) in
    or_refused says (not (eqb number (length d.tasks))) out_of_order _ (λ _. refl)
    (or_refused says (not (list_all (is_declared d) steps)) undeclared _
    (λ e. first_step-told (script_of d) _ (λ s. not (is_declared d s)) (undeclared_if_any (script_of d)) (undeclared_told d) steps 3
    (not_all (is_declared d) steps e))
    (or_refused says (is_any_posted (posted_in d) (flat_map posts_of_step steps)) posted_twice _
    (λ e. twice _ (λ found. refl) _ (posted_again-found d steps 3 e))
    (or_refused says (not (has_no_actions d)) declaration_late _ (λ _. late front (commands.Task number steps))
    (or_refused says (has_bad_scopes false steps) bad_block _ (λ e. scopes_told (script_of d) false steps 3 e (λ inside. absurd cc))
    (or_refused says (list_any (is_bad_post d) steps) bad_block _ (λ e. bad_posts_told d false steps 3 e)
    (or_refused says (ltb MOST_TASKS (length d.tasks + 1)) too_many _ (λ _. refl)
    (or_refused says (ltb MOST_STEPS (steps_in d + length steps)) too_many _ (λ _. refl)
    (or_refused says (ltb MOST_EVENTS (events_in d + events_of_task steps)) too_many _ (λ _. refl) (gives says _)))))))))

job_told : (d : Draft) (front : List ℕ) (number : ℕ) (job : JobPlan) → Tells (told d front (commands.Job number job)) (job_added d number job)
unfolding job_added
job_told d front number job =
    let says = told d front (commands.Job number job) in
    or_refused says (not (eqb number (length d.jobs))) out_of_order _ (λ _. refl)
    (or_refused says (not (list_all (is_declared d) job.steps)) undeclared _
    (λ e. first_step-told (script_of d) _ (λ s. not (is_declared d s)) (undeclared_if_any (script_of d)) (undeclared_told d) job.steps 7
    (not_all (is_declared d) job.steps e))
    (or_refused says (is_any_posted (posted_in d) (flat_map posts_of_step job.steps)) posted_twice _
    (λ e. twice _ (λ found. refl) _ (posted_again-found d job.steps 7 e))
    (or_refused says (not (has_no_actions d)) declaration_late _ (λ _. late front (commands.Job number job))
    (or_refused says (list_any (is_bad_post d) job.steps) bad_block _
    (λ e. first_step-told (script_of d) _ (is_bad_post d) (blocking_if_any (script_of d)) (blocking_told d) job.steps 7 e)
    (or_refused says (list_any is_act job.steps) job_use _
    (λ e. first_step-told (script_of d) _ is_act computing_if_any computing_told job.steps 7 e)
    (or_refused says (ltb MOST_JOBS (length d.jobs + 1)) too_many _ (λ _. refl)
    (or_refused says (ltb MOST_ITEMS (items_in d + job.items)) too_many _ (λ _. refl)
    (or_refused says (ltb MOST_STEPS (steps_in d + length job.steps)) too_many _ (λ _. refl)
    (or_refused says (ltb MOST_EVENTS (events_in d + events_of_job job)) too_many _ (λ _. refl) (gives says _))))))))))

-- ---- actions

acted_told : (d : Draft) (front : List ℕ) (action : Action) → Tells (told d front (commands.Act action)) (acted d action)
acted_told d front action =
    let says = told d front (commands.Act action) in
    or_refused says (ltb MOST_TICKS (ticks_in d + ticks_of action)) too_many _ (λ _. refl)
    (or_refused says (ltb MOST_EVENTS (events_in d + events_of_action action)) too_many _ (λ _. refl) (gives says _))

-- an action that needs a declaration
named_told : (d : Draft) (front : List ℕ) (action : Action) (test : Bool) → told d front (commands.Act action) undeclared ≡ true
    → Tells (told d front (commands.Act action)) (refuse test undeclared >> acted d action)
named_told d front action test here =
    or_refused (told d front (commands.Act action)) test undeclared _ (λ _. here) (acted_told d front action)

-- an action on a job
job_act_told : (d : Draft) (front : List ℕ) (action : Action) (no_job started : Bool) → told d front (commands.Act action) undeclared ≡ true
    → told d front (commands.Act action) job_use ≡ true
    → Tells (told d front (commands.Act action)) (refuse no_job undeclared >> (refuse started job_use >> acted d action))
job_act_told d front action no_job started here start =
    let says = told d front (commands.Act action) in
    or_refused says no_job undeclared _ (λ _. here) (or_refused says started job_use _ (λ _. start) (acted_told d front action))

post_told : (d : Draft) (front : List ℕ) (task runner delay : ℕ)
    → Tells (told d front (commands.Act (Post task runner delay))) (posted d (PostStep task runner delay) (Post task runner delay))
post_told d front task runner delay =
    let says = told d front (commands.Act (Post task runner delay)) in
    let step : Step = PostStep task runner delay in
    or_refused says (not (is_declared d step)) undeclared _
    (λ e. one_step-told (script_of d) _ (λ s. not (is_declared d s)) (undeclared_if_any (script_of d)) (undeclared_told d) step 1 e)
    (or_refused says (is_any_posted (posted_in d) (posts_of_step step)) posted_twice _
    (λ e. twice _ (λ found. refl) _ (posted_again-found d (step ∷ []) 1 e))
    (or_refused says (is_bad_post d step) bad_block _
    (λ e. one_step-told (script_of d) _ (is_bad_post d) (blocking_if_any (script_of d)) (blocking_told d) step 1 e)
    (acted_told d front (Post task runner delay))))

main_told : (d : Draft) (front : List ℕ) (task queue delay : ℕ)
    → Tells (told d front (commands.Act (Main task queue delay))) (posted d (MainStep task queue delay) (Main task queue delay))
main_told d front task queue delay =
    let says = told d front (commands.Act (Main task queue delay)) in
    let step : Step = MainStep task queue delay in
    or_refused says (not (is_declared d step)) undeclared _
    (λ e. one_step-told (script_of d) _ (λ s. not (is_declared d s)) (undeclared_if_any (script_of d)) (undeclared_told d) step 1 e)
    (or_refused says (is_any_posted (posted_in d) (posts_of_step step)) posted_twice _
    (λ e. twice _ (λ found. refl) _ (posted_again-found d (step ∷ []) 1 e))
    (or_refused says (is_bad_post d step) bad_block _
    (λ e. one_step-told (script_of d) _ (is_bad_post d) (blocking_if_any (script_of d)) (blocking_told d) step 1 e)
    (acted_told d front (Main task queue delay))))

shutdown_told : (d : Draft) (front : List ℕ) → Tells (told d front (commands.Act Shutdown)) (shutdown_start d)
unfolding shutdown_start
shutdown_told d front =
    or_refused (told d front (commands.Act Shutdown)) (has_shutdown d) shutdown_twice _ (λ _. refl) (acted_told d front Shutdown)

action_told : (d : Draft) (front : List ℕ) (action : Action) → Tells (told d front (commands.Act action)) (action_added d action)
unfolding action_added on_runner on_queue on_voter job_start on_job
action_told d front (Post task runner delay) = post_told d front task runner delay
action_told d front (Main task queue delay) = main_told d front task queue delay
action_told d front (Tick count) = acted_told d front (Tick count)
action_told d front (Policy policy) = acted_told d front (Policy policy)
action_told d front (Reprio runner priority) = named_told d front (Reprio runner priority) (not (has_runner d runner)) refl
action_told d front (Fence queue place) = named_told d front (Fence queue place) (not (has_queue d queue)) refl
action_told d front (Unfence queue) = named_told d front (Unfence queue) (not (has_queue d queue)) refl
action_told d front (Vote queue voter on) = named_told d front (Vote queue voter on) (not (has_voter d queue voter)) (no_voter (script_of d) queue)
action_told d front (Rank queue class) = named_told d front (Rank queue class) (not (has_queue d queue)) refl
action_told d front (Close queue) = named_told d front (Close queue) (not (has_queue d queue)) refl
action_told d front (Pump count) = acted_told d front (Pump count)
action_told d front Flush = acted_told d front Flush
action_told d front (StartJob job) = job_act_told d front (StartJob job) (not (has_job d job)) (is_started d job) refl refl
action_told d front (Join job) = job_act_told d front (Join job) (not (has_job d job)) (not (is_started d job)) refl refl
action_told d front (Cancel job) = job_act_told d front (Cancel job) (not (has_job d job)) (not (is_started d job)) refl refl
action_told d front Shutdown = shutdown_told d front

-- ---- a command

-- what is wrong with a command that is refused is told
pub refused_told : (d : Draft) (front : List ℕ) (command : Command) (reason : ℕ) → added d command ≡ Err reason
    → is_told (line_objection (script_of d) front command reason) ≡ true
unfolding added
refused_told d front commands.Nothing reason e = absurd cc
refused_told d front (commands.Workers count) reason e = workers_told d front count reason e
refused_told d front (commands.Groups f fb b) reason e = groups_told d front f fb b reason e
refused_told d front (commands.Threshold microseconds) reason e = threshold_told d front microseconds reason e
refused_told d front (commands.Runner number runner) reason e = runner_told d front number runner reason e
refused_told d front (commands.Queue number queue) reason e = queue_told d front number queue reason e
refused_told d front (commands.Task number task) reason e = task_told d front number task reason e
refused_told d front (commands.Job number job) reason e = job_told d front number job reason e
refused_told d front (commands.Act action) reason e = action_told d front action reason e
