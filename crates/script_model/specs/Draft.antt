-- The script that the lines read so far give, and what a line asks of it.
use Rattle.std.specs.Prelude.{ℕ, ◌+◌, ◌==◌, Bool, true, false, not, ◌&&◌, ◌||◌, nat_lt, List, [], ◌∷◌, ◌++◌, length, slice_get, slice_index_or, Option, None, option_map, unwrap_or, sum_by, flat_map}
use Rattle.std.specs.List.{list_any}
use Rattle.task_base.specs.Plan.{Plan, JobPlan}
use Rattle.task_base.specs.declared.step.Step.{Step}
use Rattle.task_base.specs.declared.step.Step.TheVariants.{Post as PostStep, Main as MainStep, Block, Unblock}
use Rattle.task_base.specs.declared.script.Runner.{Runner}
use Rattle.task_base.specs.declared.script.RunnerKind.{RunnerKind}
use Rattle.task_base.specs.declared.script.RunnerKind.TheVariants.{Single}
use Rattle.task_base.specs.declared.script.MainQueue.{MainQueue}
use Rattle.task_base.specs.declared.script.Action.{Action}
use Rattle.task_base.specs.declared.script.Action.TheVariants.{Tick, StartJob, Shutdown}
use Rattle.script_model.specs.Bound.{events_bound_of}
use Rattle.script_model.specs.Laws.Postings.{posts_of_step, posts_of_action}

-- how many tasks run at once: of the foreground, of best effort in the foreground, and of the background
pub record Groups : Type 0 where
  pub foreground : ℕ
  pub foreground_best : ℕ
  pub background : ℕ

-- what was said of the configuration, the declarations, and the actions
pub record Draft : Type 0 where
  pub workers : Option ℕ
  pub groups : Option Groups
  pub threshold : Option ℕ
  pub runners : List Runner
  pub queues : List MainQueue
  pub tasks : List (List Step)
  pub jobs : List JobPlan
  pub actions : List Action

-- what no line gives
abbrev pub empty_draft : Draft
empty_draft = record { workers = None; groups = None; threshold = None; runners = []; queues = []; tasks = []; jobs = []; actions = [] }

-- two workers where nothing is said (this project's own default)
abbrev pub workers_in : Draft → ℕ
workers_in d = unwrap_or d.workers 2

-- the groups 4 2 0 where nothing is said (this project's own default)
abbrev pub groups_in : Draft → Groups
groups_in d = unwrap_or d.groups (record { foreground = 4; foreground_best = 2; background = 0 })

-- the script of a draft, with the defaults where nothing is said: a threshold of one second (this project's own)
abbrev pub script_of : Draft → Plan
script_of d = record {
  workers = workers_in d;
  foreground = (groups_in d).foreground;
  foreground_best = (groups_in d).foreground_best;
  background = (groups_in d).background;
  threshold = unwrap_or d.threshold 1000000;
  runners = d.runners;
  queues = d.queues;
  tasks = d.tasks;
  jobs = d.jobs;
  actions = d.actions;
  is_open = false;
}

-- nothing is done yet
abbrev pub has_no_actions : Draft → Bool
has_no_actions d = length d.actions == 0

-- nothing was declared yet, and nothing is done yet
abbrev pub is_bare : Draft → Bool
is_bare d = length d.runners == 0 && length d.queues == 0 && length d.tasks == 0 && length d.jobs == 0 && has_no_actions d

-- ---- what was declared

-- the kind names a worker seat that the script does not have
abbrev pub is_above_workers : Draft → RunnerKind → Bool
is_above_workers d (Single seat) = nat_lt (workers_in d) seat
is_above_workers d kind = false

-- the task and the runner or queue of a step that posts were declared
abbrev pub is_declared : Draft → Step → Bool
is_declared d (PostStep task runner delay) = nat_lt task (length d.tasks) && nat_lt runner (length d.runners)
is_declared d (MainStep task queue delay) = nat_lt task (length d.tasks) && nat_lt queue (length d.queues)
is_declared d step = true

-- the runner was declared
abbrev pub has_runner : Draft → ℕ → Bool
has_runner d runner = nat_lt runner (length d.runners)

-- the queue was declared
abbrev pub has_queue : Draft → ℕ → Bool
has_queue d queue = nat_lt queue (length d.queues)

-- the queue has this voter
abbrev pub is_voter : List MainQueue → ℕ → ℕ → Bool
is_voter queues queue voter = unwrap_or (option_map (λ declared. nat_lt voter declared.voters) (slice_get queues queue)) false

-- the queue was declared with this voter
abbrev pub has_voter : Draft → ℕ → ℕ → Bool
has_voter d queue voter = is_voter d.queues queue voter

-- the job was declared
abbrev pub has_job : Draft → ℕ → Bool
has_job d job = nat_lt job (length d.jobs)

-- ---- what is posted

-- the tasks that the steps of tasks and the actions post
abbrev pub posted_in : Draft → List ℕ
posted_in d = flat_map (λ steps. flat_map posts_of_step steps) d.tasks ++ flat_map posts_of_action d.actions

-- one of the tasks is among those posted earlier, or stands before among the tasks
abbrev pub is_any_posted : List ℕ → List ℕ → Bool
is_any_posted earlier [] = false
is_any_posted earlier (task ∷ tasks) = list_any (λ posted. posted == task) earlier || is_any_posted (task ∷ earlier) tasks

-- ---- what blocks

-- the step opens a blocking scope
abbrev pub is_block : Step → Bool
is_block (Block scope) = true
is_block step = false

-- `block` while a scope is open, `unblock` while none is, or a scope open at the end
abbrev pub has_bad_scopes : Bool → List Step → Bool
has_bad_scopes inside [] = inside
has_bad_scopes inside (Block scope ∷ steps) = inside || has_bad_scopes true steps
has_bad_scopes inside (Unblock ∷ steps) = not inside || has_bad_scopes false steps
has_bad_scopes inside (step ∷ steps) = has_bad_scopes inside steps

-- the task opens a blocking scope
abbrev pub opens_scope : List (List Step) → ℕ → Bool
opens_scope tasks task = list_any is_block (slice_index_or tasks task [])

-- the task that was declared opens a blocking scope
abbrev pub has_block : Draft → ℕ → Bool
has_block d task = opens_scope d.tasks task

-- the runner takes tasks that may block
abbrev pub may_block_on : List Runner → ℕ → Bool
may_block_on runners runner = unwrap_or (option_map (λ declared. declared.traits.may_block) (slice_get runners runner)) false

-- the runner that was declared takes tasks that may block
abbrev pub takes_block : Draft → ℕ → Bool
takes_block d runner = may_block_on d.runners runner

-- the step posts a task that opens a scope to a main queue, or to a runner that takes none
abbrev pub is_bad_post : Draft → Step → Bool
is_bad_post d (PostStep task runner delay) = has_block d task && not (takes_block d runner)
is_bad_post d (MainStep task queue delay) = has_block d task
is_bad_post d step = false

-- ---- what is done

-- the action starts the job
abbrev pub is_start_of : ℕ → Action → Bool
is_start_of j (StartJob job) = job == j
is_start_of j action = false

-- some action starts the job
abbrev pub is_started : Draft → ℕ → Bool
is_started d job = list_any (is_start_of job) d.actions

-- the action starts shutdown
abbrev pub is_shutdown : Action → Bool
is_shutdown Shutdown = true
is_shutdown action = false

-- some action starts shutdown
abbrev pub has_shutdown : Draft → Bool
has_shutdown d = list_any is_shutdown d.actions

-- how often an action reads the clock
abbrev pub ticks_of : Action → ℕ
ticks_of (Tick count) = count
ticks_of action = 0

-- ---- sums over all lines

-- the items of all jobs
abbrev pub items_in : Draft → ℕ
items_in d = sum_by (λ job. job.items) d.jobs

-- the steps of all tasks and jobs
abbrev pub steps_in : Draft → ℕ
steps_in d = sum_by (λ steps. length steps) d.tasks + sum_by (λ job. length job.steps) d.jobs

-- the ticks of all actions
abbrev pub ticks_in : Draft → ℕ
ticks_in d = sum_by ticks_of d.actions

-- the entries bound of what was said so far
abbrev pub events_in : Draft → ℕ
events_in d = events_bound_of (script_of d)
