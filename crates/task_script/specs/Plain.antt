-- Actions that only stand in the list of actions.
use Rattle.std.specs.Prelude.{Bool, true, false}
use Rattle.task_base.specs.declared.script.Action.{Action}
use Rattle.task_base.specs.declared.script.Action.TheVariants.{Post, Main, StartJob, Shutdown}

-- the action posts no task, and starts no job and no shutdown
abbrev pub is_plain : Action → Bool
is_plain (Post task runner delay) = false
is_plain (Main task queue delay) = false
is_plain (StartJob job) = false
is_plain Shutdown = false
is_plain action = true
