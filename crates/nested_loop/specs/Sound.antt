-- What every nest that is read is like: its numbers are in their ranges and within the limits, what it names is declared,
-- a task posts only tasks declared before it, and no task is posted twice.
use Rattle.std.specs.Prelude.{◌≡◌, ℕ, ◌-◌, ◌^◌, ◌<◌, ◌≤◌, List, [], ◌∷◌, ◌++◌, flat_map, length, slice_get, Some, sum_by}
use Rattle.std.specs.List.{AllByRecursion}
use Rattle.task_base.specs.declared.limits.TheConstants.{MOST_QUEUES}
use Rattle.script_model.specs.Laws.Postings.{times}
use Rattle.nested_loop.specs.Plan.{NestPlan, NestTaskPlan}
use Rattle.nested_loop.specs.declared.limits.TheConstants.{MOST_NEST_TASKS, MOST_NEST_STEPS, MOST_NEST_ACTIONS, MOST_LOOP_TASKS}
use Rattle.nested_loop.specs.declared.nest.NestStep.{NestStep}
use Rattle.nested_loop.specs.declared.nest.NestStep.TheVariants as steps
use Rattle.nested_loop.specs.declared.nest.NestAction.{NestAction}
use Rattle.nested_loop.specs.declared.nest.NestAction.TheVariants as actions

-- ---- what is posted

-- the task that a step posts
abbrev pub posts_of_nest_step : NestStep → List ℕ
posts_of_nest_step (steps.Post task queue) = task ∷ []
posts_of_nest_step (steps.Say value) = []
posts_of_nest_step (steps.Loop bound) = []

-- the task that an action posts
abbrev pub posts_of_nest_action : NestAction → List ℕ
posts_of_nest_action (actions.Post task queue) = task ∷ []
posts_of_nest_action (actions.Run bound) = []

-- the tasks that the steps of a task post
abbrev pub posts_of_task : NestTaskPlan → List ℕ
posts_of_task task = flat_map posts_of_nest_step task.steps

-- the tasks that the nest posts: those of the steps of its tasks, and those of its actions, in order
abbrev pub nest_postings : NestPlan → List ℕ
nest_postings nest = flat_map posts_of_task nest.tasks ++ flat_map posts_of_nest_action nest.actions

-- how many steps the tasks have, together
abbrev pub nest_steps_in : NestPlan → ℕ
nest_steps_in nest = sum_by (λ task. length task.steps) nest.tasks

-- ---- parts of a nest

-- how many tasks a loop is told to run at most: at least one, and within the limit
abbrev pub IsLoopBound : ℕ → Type 0
IsLoopBound bound = (1 ≤ bound) × (bound ≤ MOST_LOOP_TASKS)

-- a step of task t: it posts only a task of a lesser number, to a queue that is declared, and its numbers are in their
-- ranges
abbrev pub IsNestStepSound : NestPlan → ℕ → NestStep → Type 0
IsNestStepSound nest t (steps.Say value) = value ≤ 2 ^ 64 - 1
IsNestStepSound nest t (steps.Post task queue) = (task < t) × (queue < length nest.classes)
IsNestStepSound nest t (steps.Loop bound) = IsLoopBound bound

-- an action names what is declared, and its number is in its range
abbrev pub IsNestActionSound : NestPlan → NestAction → Type 0
IsNestActionSound nest (actions.Post task queue) = (task < length nest.tasks) × (queue < length nest.classes)
IsNestActionSound nest (actions.Run bound) = IsLoopBound bound

-- ---- the nest

-- nothing is more than the limits allow
pub record IsNestWithinLimits (nest : NestPlan) : Type 0 where
  pub few_queues : length nest.classes ≤ MOST_QUEUES
  pub few_tasks : length nest.tasks ≤ MOST_NEST_TASKS
  pub few_steps : nest_steps_in nest ≤ MOST_NEST_STEPS
  pub few_actions : length nest.actions ≤ MOST_NEST_ACTIONS

-- what every nest that is read is like (this project's own notion)
pub record IsSoundNest (nest : NestPlan) : Type 0 where
  pub limits : IsNestWithinLimits nest
  pub classes_within : AllByRecursion (λ class. class ≤ 7) nest.classes
  pub tasks_sound : (t : ℕ) (task : NestTaskPlan) → slice_get nest.tasks t ≡ Some task → AllByRecursion (IsNestStepSound nest t) task.steps
  pub actions_sound : AllByRecursion (IsNestActionSound nest) nest.actions
  pub posted_once : (t : ℕ) → times t (nest_postings nest) ≤ 1
