-- How far the script of a job and a task is done.
use Rattle.std.specs.Prelude.{true, None, Some}
use Rattle.task_base.specs.declared.entry.Kind.TheVariants as kinds
use Rattle.env_core.specs.Views.{EnvView}
use Rattle.worked_calls.specs.Known.{at_start, with_entry}
use Rattle.worked_calls.specs.Plans.{yield_plan}

-- a worker took the job's first item, and the driver posted the task
abbrev pub item_taken : EnvView
item_taken =
    with_entry (with_entry (with_entry (at_start yield_plan) 0 (kinds.JobPost 0 true)) 1 (kinds.JobTake 0 0 0)) 0 (kinds.Post 0 0 0 true)

-- the worker left the job, and did the task
abbrev pub yielded : EnvView
yielded =
    with_entry (with_entry (with_entry item_taken 1 (kinds.JobStep 0 0 0 1 None)) 1 (kinds.Take 0 0 0)) 1 (kinds.End 0 1)

-- and then the other items
abbrev pub job_done : EnvView
job_done =
    with_entry (with_entry (with_entry yielded 1 (kinds.JobTake 0 0 1)) 1 (kinds.JobStep 0 0 1 2 (Some 2))) 1 (kinds.JobStep 0 0 2 3 None)
