-- Which limit a line passes with what it adds to the script before it.
use Rattle.std.specs.Prelude.{ℕ, ◌+◌, nat_lt, if◌then◌else◌, List, length, sum_by}
use Rattle.task_base.specs.Plan.{Plan, JobPlan}
use Rattle.task_base.specs.declared.step.Step.{Step}
use Rattle.task_base.specs.declared.script.Action.{Action}
use Rattle.task_base.specs.declared.limits.TheConstants.{MOST_RUNNERS, MOST_QUEUES, MOST_TASKS, MOST_JOBS, MOST_ITEMS, MOST_STEPS, MOST_TICKS, MOST_EVENTS}
use Rattle.script_model.specs.Bound.{events_bound_of, events_of_action, events_of_job, events_of_task}
use Rattle.script_lines.specs.declared.command.Command.{Command}
use Rattle.script_lines.specs.declared.command.Command.TheVariants as commands
use Rattle.lint_text.specs.declared.complaint.Limited.{Limited}
use Rattle.lint_text.specs.declared.complaint.Limited.TheVariants.{Runners, Queues, Tasks, Jobs, Items, Steps, Ticks, Entries, Actions}

-- what there is too much of with a task
abbrev pub task_limit : Plan → List Step → Limited
task_limit script steps =
    if nat_lt MOST_TASKS (length script.tasks + 1) then Tasks
    else (if nat_lt MOST_EVENTS (events_bound_of script + events_of_task steps) then Entries else Steps)

-- what there is too much of with a job
abbrev pub job_limit : Plan → JobPlan → Limited
job_limit script job =
    if nat_lt MOST_JOBS (length script.jobs + 1) then Jobs
    else (if nat_lt MOST_EVENTS (events_bound_of script + events_of_job job) then Entries
    else (if nat_lt MOST_ITEMS (sum_by (λ job. job.items) script.jobs + job.items) then Items else Steps))

-- what there is too much of with an action
abbrev pub action_limit : Plan → Action → Limited
action_limit script action = if nat_lt MOST_EVENTS (events_bound_of script + events_of_action action) then Entries else Ticks

-- what there is too much of with the command behind the script
abbrev pub limit_passed : Plan → Command → Limited
limit_passed script (commands.Runner number runner) = Runners
limit_passed script (commands.Queue number queue) = Queues
limit_passed script (commands.Task number steps) = task_limit script steps
limit_passed script (commands.Job number job) = job_limit script job
limit_passed script (commands.Act action) = action_limit script action
limit_passed script command = Entries

-- how many there may be
abbrev pub most_of : Limited → ℕ
most_of Runners = MOST_RUNNERS
most_of Queues = MOST_QUEUES
most_of Tasks = MOST_TASKS
most_of Jobs = MOST_JOBS
most_of Items = MOST_ITEMS
most_of Steps = MOST_STEPS
most_of Ticks = MOST_TICKS
most_of Entries = MOST_EVENTS
most_of Actions = MOST_EVENTS
