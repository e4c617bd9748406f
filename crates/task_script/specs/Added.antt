-- What a command adds to the draft of the earlier lines, or the first of the reasons, in their order, that holds of it
-- and that draft. (The lines are this project's own.)
use Rattle.std.specs.Prelude.{ℕ, ◌+◌, ◌==◌, false, not, nat_lt, is_some, List, [], ◌∷◌, ◌++◌, length, flat_map, Some, Result, Ok}
use Rattle.std.specs.List.{list_any, list_all}
use Rattle.task_base.specs.Plan.{JobPlan}
use Rattle.task_base.specs.Steps.{is_act}
use Rattle.task_base.specs.declared.step.Step.{Step}
use Rattle.task_base.specs.declared.step.Step.TheVariants.{Post as PostStep, Main as MainStep}
use Rattle.task_base.specs.declared.script.Runner.{Runner}
use Rattle.task_base.specs.declared.script.MainQueue.{MainQueue}
use Rattle.task_base.specs.declared.script.Action.{Action}
use Rattle.task_base.specs.declared.script.Action.TheVariants.{Post, Main, Tick, Policy, Reprio, Fence, Unfence, Vote, Rank, Close, Pump, Flush, StartJob, Join, Cancel, Shutdown}
use Rattle.task_base.specs.declared.limits.TheConstants.{MOST_RUNNERS, MOST_QUEUES, MOST_TASKS, MOST_JOBS, MOST_ITEMS, MOST_STEPS, MOST_EVENTS}
use Rattle.script_model.specs.Reasons.{◌>>◌, refuse, out_of_order, undeclared, posted_twice, declaration_late, bad_block, job_use, shutdown_twice, config_twice, too_many}
use Rattle.script_model.specs.Bound.{events_of_task, events_of_job}
use Rattle.script_model.specs.Laws.Postings.{posts_of_step}
use Rattle.script_model.specs.Draft.{Draft, Groups, has_no_actions, is_bare, is_above_workers, is_declared, has_runner, has_queue, has_voter, has_job, posted_in, is_any_posted, has_bad_scopes, is_bad_post, is_started, has_shutdown, items_in, steps_in, events_in}
use Rattle.script_model.specs.Lines.{acted, posted}
use Rattle.script_lines.specs.declared.command.Command.{Command}
use Rattle.script_lines.specs.declared.command.Command.TheVariants as commands

-- ---- configuration

-- this many worker seats
unfoldable pub workers_added : Draft → ℕ → Result Draft ℕ
workers_added d count = do
  refuse (not (is_bare d)) declaration_late
  refuse (is_some d.workers) config_twice
  Ok (record d { workers = Some count })

-- these limits of the groups
unfoldable pub groups_added : Draft → Groups → Result Draft ℕ
groups_added d groups = do
  refuse (not (is_bare d)) declaration_late
  refuse (is_some d.groups) config_twice
  Ok (record d { groups = Some groups })

-- this threshold, in microseconds
unfoldable pub threshold_added : Draft → ℕ → Result Draft ℕ
threshold_added d microseconds = do
  refuse (not (is_bare d)) declaration_late
  refuse (is_some d.threshold) config_twice
  Ok (record d { threshold = Some microseconds })

-- ---- declarations

-- a runner
unfoldable pub runner_added : Draft → ℕ → Runner → Result Draft ℕ
runner_added d number runner = do
  refuse (not (number == length d.runners)) out_of_order
  refuse (is_above_workers d runner.kind) undeclared
  refuse (not (has_no_actions d)) declaration_late
  refuse (nat_lt MOST_RUNNERS (length d.runners + 1)) too_many
  Ok (record d { runners = d.runners ++ runner ∷ [] })

-- a main queue
unfoldable pub queue_added : Draft → ℕ → MainQueue → Result Draft ℕ
queue_added d number queue = do
  refuse (not (number == length d.queues)) out_of_order
  refuse (not (has_no_actions d)) declaration_late
  refuse (nat_lt MOST_QUEUES (length d.queues + 1)) too_many
  Ok (record d { queues = d.queues ++ queue ∷ [] })

-- a task
unfoldable pub task_added : Draft → ℕ → List Step → Result Draft ℕ
task_added d number steps = do
  refuse (not (number == length d.tasks)) out_of_order
  refuse (not (list_all (is_declared d) steps)) undeclared
  refuse (is_any_posted (posted_in d) (flat_map posts_of_step steps)) posted_twice
  refuse (not (has_no_actions d)) declaration_late
  refuse (has_bad_scopes false steps) bad_block
  refuse (list_any (is_bad_post d) steps) bad_block
  refuse (nat_lt MOST_TASKS (length d.tasks + 1)) too_many
  refuse (nat_lt MOST_STEPS (steps_in d + length steps)) too_many
  refuse (nat_lt MOST_EVENTS (events_in d + events_of_task steps)) too_many
  Ok (record d { tasks = d.tasks ++ steps ∷ [] })

-- a job
unfoldable pub job_added : Draft → ℕ → JobPlan → Result Draft ℕ
job_added d number job = do
  refuse (not (number == length d.jobs)) out_of_order
  refuse (not (list_all (is_declared d) job.steps)) undeclared
  refuse (is_any_posted (posted_in d) (flat_map posts_of_step job.steps)) posted_twice
  refuse (not (has_no_actions d)) declaration_late
  refuse (list_any (is_bad_post d) job.steps) bad_block
  refuse (list_any is_act job.steps) job_use
  refuse (nat_lt MOST_JOBS (length d.jobs + 1)) too_many
  refuse (nat_lt MOST_ITEMS (items_in d + job.items)) too_many
  refuse (nat_lt MOST_STEPS (steps_in d + length job.steps)) too_many
  refuse (nat_lt MOST_EVENTS (events_in d + events_of_job job)) too_many
  Ok (record d { jobs = d.jobs ++ job ∷ [] })

-- ---- actions

-- an action on a runner
unfoldable pub on_runner : Draft → ℕ → Action → Result Draft ℕ
on_runner d runner action = do
  refuse (not (has_runner d runner)) undeclared
  acted d action

-- an action on a main queue
unfoldable pub on_queue : Draft → ℕ → Action → Result Draft ℕ
on_queue d queue action = do
  refuse (not (has_queue d queue)) undeclared
  acted d action

-- a vote
unfoldable pub on_voter : Draft → ℕ → ℕ → Action → Result Draft ℕ
on_voter d queue voter action = do
  refuse (not (has_voter d queue voter)) undeclared
  acted d action

-- the start of a job
unfoldable pub job_start : Draft → ℕ → Result Draft ℕ
job_start d job = do
  refuse (not (has_job d job)) undeclared
  refuse (is_started d job) job_use
  acted d (StartJob job)

-- an action on a job that was started
unfoldable pub on_job : Draft → ℕ → Action → Result Draft ℕ
on_job d job action = do
  refuse (not (has_job d job)) undeclared
  refuse (not (is_started d job)) job_use
  acted d action

-- the start of shutdown
unfoldable pub shutdown_start : Draft → Result Draft ℕ
shutdown_start d = do
  refuse (has_shutdown d) shutdown_twice
  acted d Shutdown

-- an action
unfoldable pub action_added : Draft → Action → Result Draft ℕ
action_added d (Post task runner delay) = posted d (PostStep task runner delay) (Post task runner delay)
action_added d (Main task queue delay) = posted d (MainStep task queue delay) (Main task queue delay)
action_added d (Tick count) = acted d (Tick count)
action_added d (Policy policy) = acted d (Policy policy)
action_added d (Reprio runner priority) = on_runner d runner (Reprio runner priority)
action_added d (Fence queue place) = on_queue d queue (Fence queue place)
action_added d (Unfence queue) = on_queue d queue (Unfence queue)
action_added d (Vote queue voter on) = on_voter d queue voter (Vote queue voter on)
action_added d (Rank queue class) = on_queue d queue (Rank queue class)
action_added d (Close queue) = on_queue d queue (Close queue)
action_added d (Pump count) = acted d (Pump count)
action_added d Flush = acted d Flush
action_added d (StartJob job) = job_start d job
action_added d (Join job) = on_job d job (Join job)
action_added d (Cancel job) = on_job d job (Cancel job)
action_added d Shutdown = shutdown_start d

-- ---- a command

-- the draft with what the command says, or its reason
unfoldable pub added : Draft → Command → Result Draft ℕ
added d commands.Nothing = Ok d
added d (commands.Workers count) = workers_added d count
added d (commands.Groups foreground foreground_best background) = groups_added d
    (record { foreground = foreground; foreground_best = foreground_best; background = background })
added d (commands.Threshold microseconds) = threshold_added d microseconds
added d (commands.Runner number runner) = runner_added d number runner
added d (commands.Queue number queue) = queue_added d number queue
added d (commands.Task number task) = task_added d number task
added d (commands.Job number job) = job_added d number job
added d (commands.Act action) = action_added d action
