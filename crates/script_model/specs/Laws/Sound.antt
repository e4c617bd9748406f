-- What every script that is read is like: its numbers are in their ranges, what it names is declared, no task is
-- posted twice, and jobs and shutdown are used in their order.
use Rattle.std.specs.Prelude.{◌≡◌, ℕ, ◌+◌, ◌-◌, ◌^◌, ◌<◌, ◌≤◌, true, false, List, length, take, slice_get, Some, sum_by}
use Rattle.std.specs.List.{list_any, AllByRecursion}
use Rattle.task_base.specs.Plan.{Plan, JobPlan}
use Rattle.task_base.specs.Steps.{is_act}
use Rattle.task_base.specs.declared.step.Step.{Step}
use Rattle.task_base.specs.declared.step.Step.TheVariants.{Add, Mul, Set, Post as PostStep, Main as MainStep, Block, Unblock}
use Rattle.task_base.specs.declared.script.RunnerKind.{RunnerKind}
use Rattle.task_base.specs.declared.script.RunnerKind.TheVariants.{Parallel, Sequenced, Single}
use Rattle.task_base.specs.declared.script.MainQueue.{MainQueue}
use Rattle.task_base.specs.declared.script.Action.{Action}
use Rattle.task_base.specs.declared.script.Action.TheVariants.{Post, Main, Tick, Policy, Reprio, Fence, Unfence, Vote, Rank, Close, Pump, Flush, StartJob, Join, Cancel, Shutdown}
use Rattle.list_laws.specs.Lists.{count}
use Rattle.script_model.specs.Bound.{events_bound_of}
use Rattle.script_model.specs.Laws.Postings.{IsPostedOnce}
use Rattle.script_model.specs.Draft.{opens_scope, may_block_on, is_voter, has_bad_scopes, is_start_of, is_shutdown, ticks_of}
use Rattle.task_base.specs.declared.limits.TheConstants.{MOST_WORKERS, MOST_RUNNERS, MOST_QUEUES, MOST_TASKS, MOST_JOBS, MOST_ITEMS, MOST_STEPS, MOST_TICKS, MOST_EVENTS, MOST_MICROSECONDS}

-- ---- what is declared

-- a post to a runner: both are declared, and a task that opens a scope goes only where it may block
pub record IsRunnerPost (script : Plan) (task runner : ℕ) : Type 0 where
  pub task_declared : task < length script.tasks
  pub runner_declared : runner < length script.runners
  pub may_block : opens_scope script.tasks task ≡ true → may_block_on script.runners runner ≡ true

-- a post to a main queue: both are declared, and the task opens no scope
pub record IsQueuePost (script : Plan) (task queue : ℕ) : Type 0 where
  pub task_declared : task < length script.tasks
  pub queue_declared : queue < length script.queues
  pub no_scope : opens_scope script.tasks task ≡ false

-- ---- parts of a script

-- the worker seat that the kind names, if it names one, is from 1 to the number of workers
abbrev pub IsSeatThere : Plan → RunnerKind → Type 0
IsSeatThere script (Single seat) = (1 ≤ seat) × (seat ≤ script.workers)
IsSeatThere script Parallel = Unit {0}
IsSeatThere script Sequenced = Unit {0}

-- class and voters are in their ranges
pub record IsQueueWithin (queue : MainQueue) : Type 0 where
  pub class_within : queue.class ≤ 7
  pub voters_within : queue.voters ≤ 16

-- the numbers of a step are in their ranges: 64 bits, and a million seconds of delay
abbrev pub IsStepWithin : Step → Type 0
IsStepWithin (Add by) = by ≤ 2 ^ 64 - 1
IsStepWithin (Mul by) = by ≤ 2 ^ 64 - 1
IsStepWithin (Set to) = to ≤ 2 ^ 64 - 1
IsStepWithin (PostStep task runner delay) = delay ≤ MOST_MICROSECONDS
IsStepWithin (MainStep task queue delay) = delay ≤ MOST_MICROSECONDS
IsStepWithin (Block scope) = Unit {0}
IsStepWithin Unblock = Unit {0}

-- a step of task t posts only tasks of lesser numbers, and rightly
abbrev pub IsStepSound : Plan → ℕ → Step → Type 0
IsStepSound script t (PostStep task runner delay) = (task < t) × IsRunnerPost script task runner
IsStepSound script t (MainStep task queue delay) = (task < t) × IsQueuePost script task queue
IsStepSound script t (Add by) = Unit {0}
IsStepSound script t (Mul by) = Unit {0}
IsStepSound script t (Set to) = Unit {0}
IsStepSound script t (Block scope) = Unit {0}
IsStepSound script t Unblock = Unit {0}

-- the steps of task t, whose scopes open and close in turn
pub record IsTaskSound (script : Plan) (t : ℕ) (steps : List Step) : Type 0 where
  pub steps_within : AllByRecursion IsStepWithin steps
  pub steps_sound : AllByRecursion (IsStepSound script t) steps
  pub scopes_in_turn : has_bad_scopes false steps ≡ false

-- a job, whose steps all compute
pub record IsJobSound (job : JobPlan) : Type 0 where
  pub items_within : job.items ≤ 65536
  pub some_cap : 1 ≤ job.cap
  pub cap_within : job.cap ≤ 64
  pub steps_within : AllByRecursion IsStepWithin job.steps
  pub steps_compute : list_any is_act job.steps ≡ false

-- an action names what is declared, and its numbers are in their ranges
abbrev pub IsActionSound : Plan → Action → Type 0
IsActionSound script (Post task runner delay) = IsRunnerPost script task runner × (delay ≤ MOST_MICROSECONDS)
IsActionSound script (Main task queue delay) = IsQueuePost script task queue × (delay ≤ MOST_MICROSECONDS)
IsActionSound script (Tick count) = (1 ≤ count) × (count ≤ 65536)
IsActionSound script (Policy policy) = Unit {0}
IsActionSound script (Reprio runner priority) = runner < length script.runners
IsActionSound script (Fence queue place) = queue < length script.queues
IsActionSound script (Unfence queue) = queue < length script.queues
IsActionSound script (Vote queue voter on) = (queue < length script.queues) × (voter ≤ 255) × (is_voter script.queues queue voter ≡ true)
IsActionSound script (Rank queue class) = (queue < length script.queues) × (class ≤ 7)
IsActionSound script (Close queue) = queue < length script.queues
IsActionSound script (Pump count) = (1 ≤ count) × (count ≤ 16384)
IsActionSound script Flush = Unit {0}
IsActionSound script (StartJob job) = job < length script.jobs
IsActionSound script (Join job) = job < length script.jobs
IsActionSound script (Cancel job) = job < length script.jobs
IsActionSound script Shutdown = Unit {0}

-- behind these actions this one may stand: a job is started where it was not, and joined or cancelled where it was;
-- shutdown starts where it did not
abbrev pub IsInOrder : List Action → Action → Type 0
IsInOrder earlier (StartJob job) = list_any (is_start_of job) earlier ≡ false
IsInOrder earlier (Join job) = list_any (is_start_of job) earlier ≡ true
IsInOrder earlier (Cancel job) = list_any (is_start_of job) earlier ≡ true
IsInOrder earlier Shutdown = list_any is_shutdown earlier ≡ false
IsInOrder earlier action = Unit {0}

-- ---- the script

-- the configuration is in its ranges
pub record IsConfigSound (script : Plan) : Type 0 where
  pub some_workers : 1 ≤ script.workers
  pub few_workers : script.workers ≤ MOST_WORKERS
  pub some_foreground : 1 ≤ script.foreground
  pub few_foreground : script.foreground ≤ 64
  pub some_best : 1 ≤ script.foreground_best
  pub best_within : script.foreground_best ≤ script.foreground
  pub few_background : script.background ≤ 64
  pub threshold_within : script.threshold ≤ MOST_MICROSECONDS

-- nothing is more than the limits allow
pub record IsWithinLimits (script : Plan) : Type 0 where
  pub few_runners : length script.runners ≤ MOST_RUNNERS
  pub few_queues : length script.queues ≤ MOST_QUEUES
  pub few_tasks : length script.tasks ≤ MOST_TASKS
  pub few_jobs : length script.jobs ≤ MOST_JOBS
  pub few_items : sum_by (λ job. job.items) script.jobs ≤ MOST_ITEMS
  pub few_steps : sum_by (λ steps. length steps) script.tasks + sum_by (λ job. length job.steps) script.jobs ≤ MOST_STEPS
  pub few_ticks : sum_by ticks_of script.actions ≤ MOST_TICKS
  pub few_events : events_bound_of script ≤ MOST_EVENTS

-- each declaration is sound
pub record AreDeclarationsSound (script : Plan) : Type 0 where
  pub seats_there : AllByRecursion (λ runner. IsSeatThere script runner.kind) script.runners
  pub queues_within : AllByRecursion IsQueueWithin script.queues
  pub tasks_sound : (t : ℕ) (steps : List Step) → slice_get script.tasks t ≡ Some steps → IsTaskSound script t steps
  pub jobs_sound : AllByRecursion IsJobSound script.jobs

-- each action is sound, and may stand behind those before it
pub record AreActionsSound (script : Plan) : Type 0 where
  pub each_sound : AllByRecursion (IsActionSound script) script.actions
  pub in_order : (k : ℕ) (action : Action) → slice_get script.actions k ≡ Some action → IsInOrder (take k script.actions) action

-- no task is posted twice, no job started twice, and shutdown not started twice
pub record IsDoneOnce (script : Plan) : Type 0 where
  pub posted_once : IsPostedOnce script
  pub started_once : (j : ℕ) → count (is_start_of j) script.actions ≤ 1
  pub one_shutdown : count is_shutdown script.actions ≤ 1

-- what every script that is read is like (this project's own notion)
pub record IsSound (script : Plan) : Type 0 where
  pub closed : script.is_open ≡ false
  pub config : IsConfigSound script
  pub limits : IsWithinLimits script
  pub declarations : AreDeclarationsSound script
  pub actions : AreActionsSound script
  pub once : IsDoneOnce script
