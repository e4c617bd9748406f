-- What a seat does after a past, as far as the limits look at it.
use Rattle.std.specs.Prelude.{◌≡◌, ℕ, ◌==◌, if◌then◌else◌, List, Option, Some, None}
use Rattle.std.specs.Option.{option_map}
use Rattle.task_base.specs.Plan.{Plan}
use Rattle.task_base.specs.declared.entry.Entry.{Entry}
use Rattle.task_base.specs.declared.entry.Kind.{Kind}
use Rattle.task_base.specs.declared.entry.Kind.TheVariants as kinds
use Rattle.task_model.specs.Capacity.{OpenScope, taken_after, taken_with}
use Rattle.task_model.specs.Seats.{holding, running}
use Rattle.log_context.specs.declared.scopes.Opened.{Opened}
use Rattle.log_context.specs.declared.work.Work.{Work}

-- the task that a seat runs after an entry of its own
abbrev pub task_after : Option ℕ → Kind → Option ℕ
task_after now (kinds.Take task runner found) = Some task
task_after now (kinds.MainTake task queue found) = Some task
task_after now (kinds.End task left) = None
task_after now (kinds.MainEnd task left) = None
task_after now kind = now

-- the job of which a seat holds an item after an entry of its own
abbrev pub job_after : Option ℕ → Kind → Option ℕ
job_after now (kinds.JobTake job id item) = Some job
job_after now (kinds.JobStep job id item value (Some next)) = Some job
job_after now (kinds.JobStep job id item value None) = None
job_after now kind = now

-- the work of a seat after an entry
abbrev pub work_after : Plan → List Entry → ℕ → Work → Entry → Work
work_after script before seat now e = record {
  task = if e.seat == seat then task_after now.task e.kind else now.task;
  taken = if e.seat == seat then taken_after script before now.taken e.kind else now.taken;
  job = if e.seat == seat then job_after now.job e.kind else now.job;
}

-- this is the work of a seat: the task that it runs, the priority that it was taken with, and the job of which it holds an item
pub record IsWorkOf (script : Plan) (past : List Entry) (seat : ℕ) (work : Work) : Type 0 where
  pub task : work.task ≡ option_map (λ w. w.task) (running past seat)
  pub taken : work.taken ≡ taken_with script past seat
  pub job : work.job ≡ option_map (λ h. h.job) (holding past seat)

-- a blocking scope that is open
abbrev pub opened : Opened → OpenScope
opened o = record { scope = o.scope; since = o.since }
