-- How many steps a script has, and how many entries a run of it may have at most.
use Rattle.std.specs.Prelude.{ℕ, ◌+◌, ◌*◌, List, length, sum_by, count_by}
use Rattle.task_base.specs.Plan.{Plan, JobPlan}
use Rattle.task_base.specs.Steps.{is_act}
use Rattle.task_base.specs.declared.step.Step.{Step}
use Rattle.task_base.specs.declared.script.Action.{Action}
use Rattle.task_base.specs.declared.script.Action.TheVariants.{Tick, Cancel, Shutdown}

-- a task: its take, its end, and an entry for each act step (this project's own rule)
abbrev pub events_of_task : List Step → ℕ
events_of_task steps = 2 + count_by is_act steps

-- a job: a take and a step for each item (this project's own rule)
abbrev pub events_of_job : JobPlan → ℕ
events_of_job job = 2 * job.items

-- an action: a tick for each reading of the clock, a start and an end of a wait, or one entry (this project's
-- own rule)
abbrev pub events_of_action : Action → ℕ
events_of_action (Tick count) = count
events_of_action (Cancel job) = 2
events_of_action Shutdown = 2
events_of_action action = 1

-- the entries bound: the sum over all tasks, jobs and actions (this project's own rule)
abbrev pub events_bound_of : Plan → ℕ
events_bound_of script = sum_by events_of_task script.tasks + sum_by events_of_job script.jobs + sum_by events_of_action script.actions

-- the steps of all tasks and jobs
abbrev pub steps_of_plan : Plan → ℕ
steps_of_plan script = sum_by (λ steps. length steps) script.tasks + sum_by (λ job. length job.steps) script.jobs
