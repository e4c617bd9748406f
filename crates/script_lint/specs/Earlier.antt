-- Which earlier line is looked for.
use Rattle.std.specs.Prelude.{ℕ, ◌==◌, Bool, true, false, List, Option, Result, Ok, Err}
use Rattle.std.specs.List.{list_any, position_from}
use Rattle.task_base.specs.declared.step.Step.{Step}
use Rattle.task_base.specs.declared.step.Step.TheVariants as steps
use Rattle.task_base.specs.declared.script.Action.{Action}
use Rattle.task_base.specs.declared.script.Action.TheVariants as actions
use Rattle.script_model.specs.Words.{lines_of}
use Rattle.script_lines.specs.declared.command.Command.{Command}
use Rattle.script_lines.specs.declared.command.Command.TheVariants as commands
use Rattle.script_lines.specs.Said.{line_said}
use Rattle.script_lint.specs.declared.earlier.Sought.{Sought}
use Rattle.script_lint.specs.declared.earlier.Sought.TheVariants.{Posts, Starts, ShutsDown, Acts, Declares, Workers, Groups, Threshold}

-- the step posts the task
abbrev pub step_posts : ℕ → Step → Bool
step_posts t (steps.Post task runner delay) = task == t
step_posts t (steps.Main task queue delay) = task == t
step_posts t step = false

-- the action posts the task
abbrev pub action_posts : ℕ → Action → Bool
action_posts t (actions.Post task runner delay) = task == t
action_posts t (actions.Main task queue delay) = task == t
action_posts t action = false

-- the action is what is looked for
abbrev pub is_sought_action : Sought → Action → Bool
is_sought_action (Posts task) action = action_posts task action
is_sought_action (Starts job) (actions.StartJob started) = started == job
is_sought_action ShutsDown actions.Shutdown = true
is_sought_action Acts action = true
is_sought_action sought action = false

-- the command is what is looked for
abbrev pub is_sought : Sought → Command → Bool
is_sought (Posts task) (commands.Task number steps) = list_any (step_posts task) steps
is_sought sought (commands.Act action) = is_sought_action sought action
is_sought Declares (commands.Runner number runner) = true
is_sought Declares (commands.Queue number queue) = true
is_sought Declares (commands.Task number task) = true
is_sought Declares (commands.Job number job) = true
is_sought Workers (commands.Workers count) = true
is_sought Groups (commands.Groups foreground foreground_best background) = true
is_sought Threshold (commands.Threshold microseconds) = true
is_sought sought command = false

-- the line says a command that is what is looked for
abbrev pub is_sought_said : Sought → Result Command ℕ → Bool
is_sought_said sought (Ok command) = is_sought sought command
is_sought_said sought (Err reason) = false

abbrev pub says : Sought → List ℕ → Bool
says sought line = is_sought_said sought (line_said line)

-- the first line of a text, counted from 1, that says what is looked for
unfoldable pub first_line : Sought → List ℕ → Option ℕ
first_line sought text = position_from (says sought) 1 (lines_of text)
