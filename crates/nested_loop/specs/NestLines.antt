-- What one line adds to the nest that the earlier lines give, or its reason: the first that holds (this project's own
-- rules).
use Rattle.std.specs.Prelude.{ℕ, ◌+◌, ◌==◌, Bool, true, not, nat_lt, ◌&&◌, List, [], ◌∷◌, ◌++◌, length, Option, Some, None, Result, Ok, Err}
use Rattle.std.specs.List.{list_all}
use Rattle.task_base.specs.declared.limits.TheConstants.{MOST_QUEUES}
use Rattle.script_model.specs.Reasons.{◌>>◌, refuse}
use Rattle.script_model.specs.Draft.{is_any_posted}
use Rattle.nested_loop.specs.declared.limits.TheConstants.{MOST_NEST_TASKS, MOST_NEST_STEPS, MOST_NEST_ACTIONS}
use Rattle.nested_loop.specs.declared.nest.NestStep.{NestStep}
use Rattle.nested_loop.specs.declared.nest.NestStep.TheVariants as steps
use Rattle.nested_loop.specs.declared.nest.NestAction.{NestAction}
use Rattle.nested_loop.specs.declared.nest.NestAction.TheVariants as actions
use Rattle.nested_loop.specs.declared.line.NestLine.{NestLine}
use Rattle.nested_loop.specs.declared.line.NestLine.TheVariants.{Nothing, Queue, Task, Act}
use Rattle.nested_loop.specs.Plan.{NestPlan, NestTaskPlan}
use Rattle.nested_loop.specs.Sound.{posts_of_task, posts_of_nest_action, nest_postings, nest_steps_in}
use Rattle.nested_loop.specs.NestReasons.{bad_nest_line, nest_out_of_order, nest_undeclared, nest_posted_twice, late, nest_too_many}
use Rattle.nested_loop.specs.NestWords.{nest_line_said}

-- nothing is done yet
abbrev pub nest_has_no_actions : NestPlan → Bool
nest_has_no_actions nest = length nest.actions == 0

-- the task and the queue were declared
abbrev pub are_declared : NestPlan → ℕ → ℕ → Bool
are_declared nest task queue = nat_lt task (length nest.tasks) && nat_lt queue (length nest.classes)

-- what a step names was declared
abbrev pub is_declared_step : NestPlan → NestStep → Bool
is_declared_step nest (steps.Post task queue) = are_declared nest task queue
is_declared_step nest (steps.Say value) = true
is_declared_step nest (steps.Loop bound) = true

-- what an action names was declared
abbrev pub is_declared_action : NestPlan → NestAction → Bool
is_declared_action nest (actions.Post task queue) = are_declared nest task queue
is_declared_action nest (actions.Run bound) = true

-- the nest with a queue more
unfoldable pub queue_added : NestPlan → ℕ → ℕ → Result NestPlan ℕ
queue_added nest number class = do
  refuse (not (number == length nest.classes)) nest_out_of_order
  refuse (not (nest_has_no_actions nest)) late
  refuse (nat_lt MOST_QUEUES (length nest.classes + 1)) nest_too_many
  Ok (record nest { classes = nest.classes ++ class ∷ [] })

-- the nest with a task more
unfoldable pub task_added : NestPlan → ℕ → NestTaskPlan → Result NestPlan ℕ
task_added nest number task = do
  refuse (not (number == length nest.tasks)) nest_out_of_order
  refuse (not (list_all (is_declared_step nest) task.steps)) nest_undeclared
  refuse (is_any_posted (nest_postings nest) (posts_of_task task)) nest_posted_twice
  refuse (not (nest_has_no_actions nest)) late
  refuse (nat_lt MOST_NEST_TASKS (length nest.tasks + 1)) nest_too_many
  refuse (nat_lt MOST_NEST_STEPS (nest_steps_in nest + length task.steps)) nest_too_many
  Ok (record nest { tasks = nest.tasks ++ task ∷ [] })

-- the nest with an action more
unfoldable pub action_added : NestPlan → NestAction → Result NestPlan ℕ
action_added nest action = do
  refuse (not (is_declared_action nest action)) nest_undeclared
  refuse (is_any_posted (nest_postings nest) (posts_of_nest_action action)) nest_posted_twice
  refuse (nat_lt MOST_NEST_ACTIONS (length nest.actions + 1)) nest_too_many
  Ok (record nest { actions = nest.actions ++ action ∷ [] })

-- the nest with what a line says, if it says something
unfoldable pub added : NestPlan → Option NestLine → Result NestPlan ℕ
added nest None = Err bad_nest_line
added nest (Some Nothing) = Ok nest
added nest (Some (Queue number class)) = queue_added nest number class
added nest (Some (Task number task)) = task_added nest number task
added nest (Some (Act action)) = action_added nest action

-- a line, by its bytes
abbrev pub nest_line_read : NestPlan → List ℕ → Result NestPlan ℕ
nest_line_read nest line = added nest (nest_line_said line)
