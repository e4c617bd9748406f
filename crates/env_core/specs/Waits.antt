-- What the driver waits for.
use Rattle.std.specs.Prelude.{ℕ, ◌==◌, Bool, true, not, ◌&&◌, ◌||◌, List, length, is_some}
use Rattle.std.specs.Option.{option_map_or}
use Rattle.task_base.specs.Plan.{Plan}
use Rattle.task_base.specs.declared.entry.Entry.{Entry}
use Rattle.task_base.specs.declared.script.Action.{Action}
use Rattle.task_base.specs.declared.script.Action.TheVariants as actions
use Rattle.task_model.specs.Blockers.{blockers_of}
use Rattle.task_model.specs.Jobs.{is_empty, may_enter}
use Rattle.hist_model.specs.Script.{current}
use Rattle.hist_model.specs.Views.{own_entries}
use Rattle.pool_core.specs.Calls.{running_tasks, is_any_ready}
use Rattle.pool_core.specs.JobCalls.{joined_of}

-- what an action waits for has come, where it has made so many entries: a flush waits until nothing of the pool runs and none
-- may be taken; a join until the driver may go into the job, or gets its reply; a cancel behind its first entry until nobody is
-- inside the job; a shutdown behind its first entry until nothing blocks it; and no other action waits
abbrev pub has_come : Plan → List Entry → Action → ℕ → Bool
has_come script past actions.Flush made = running_tasks script past == 0 && not (is_any_ready script past)
has_come script past (actions.Join job) made = may_enter script past job || is_some (joined_of script past job)
has_come script past (actions.Cancel job) made = made == 0 || is_empty script past job
has_come script past actions.Shutdown made = made == 0 || blockers_of script past == 0
has_come script past action made = true

-- what the driver's action waits for has come; a driver that has finished the script waits for nothing
unfoldable pub may_go_on : Plan → List Entry → Bool
may_go_on script past = option_map_or (λ c. has_come script past c.action (length c.made)) (current script (own_entries 0 past)) true
