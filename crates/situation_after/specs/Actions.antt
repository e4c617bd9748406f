-- Actions that ask for no entry.
use Rattle.std.specs.Prelude.{◌==◌, Bool, false}
use Rattle.task_base.specs.declared.script.Action.{Action}
use Rattle.task_base.specs.declared.script.Action.TheVariants as actions

-- the action asks for no entry at all; a sound script has no such action
abbrev pub is_nothing : Action → Bool
is_nothing (actions.Tick count) = count == 0
is_nothing action = false
