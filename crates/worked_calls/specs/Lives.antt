-- How far the script of three tasks is done.
use Rattle.std.specs.Prelude.{true}
use Rattle.task_base.specs.declared.entry.Kind.TheVariants as kinds
use Rattle.env_core.specs.Views.{EnvView}
use Rattle.worked_calls.specs.Known.{at_start, with_entry}
use Rattle.worked_calls.specs.Plans.{late_plan}

-- a worker did the first task
abbrev pub first_done : EnvView
first_done = with_entry (with_entry (with_entry (at_start late_plan) 0 (kinds.Post 0 0 0 true)) 1 (kinds.Take 0 0 0)) 1 (kinds.End 0 5)

-- and the driver the second one
abbrev pub main_done : EnvView
main_done = with_entry (with_entry (with_entry first_done 0 (kinds.Main 1 0 0 true)) 0 (kinds.MainTake 1 0 0)) 0 (kinds.MainEnd 1 5)
