-- Whether what a seat may wait for has come (this project's own rules).
use Rattle.std.specs.Prelude.{◌==◌, Bool, true, not, ◌&&◌, ◌||◌, nat_le, nat_lt, List, length, is_some}
use Rattle.task_base.specs.Plan.{Plan}
use Rattle.task_base.specs.declared.entry.Entry.{Entry}
use Rattle.task_model.specs.Blockers.{blockers_of}
use Rattle.task_model.specs.Jobs.{is_empty, may_enter}
use Rattle.task_model.specs.Sources.{best_of}
use Rattle.pool_core.specs.Calls.{is_any_ready, running_tasks}
use Rattle.pool_core.specs.JobCalls.{joined_of}
use Rattle.live_core.specs.declared.call.Call.{Call}
use Rattle.live_core.specs.declared.call.Call.TheVariants as calls

-- what the call asks for has come: a worker may take a source; nobody is inside the job; the job's reply is there, or the driver
-- may go in; nothing of the pool runs, and none may be taken; nothing blocks shutdown. No other call waits
abbrev pub has_come : Plan → List Entry → Call → Bool
has_come plan past (calls.Take seat) = nat_le seat plan.workers && is_some (best_of plan past seat)
has_come plan past (calls.Cancelled job) = nat_lt job (length plan.jobs) && is_empty plan past job
has_come plan past (calls.Joined job) = nat_lt job (length plan.jobs) && (may_enter plan past job || is_some (joined_of plan past job))
has_come plan past calls.Idle = running_tasks plan past == 0 && not (is_any_ready plan past)
has_come plan past calls.Done = blockers_of plan past == 0
has_come plan past call = true
