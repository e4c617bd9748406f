-- Words of the laws on what entries name.
use Rattle.std.specs.Prelude.{◌<◌, length}
use Rattle.task_base.specs.Plan.{Plan}
use Rattle.task_base.specs.declared.entry.Kind.{Kind}
use Rattle.task_base.specs.declared.entry.Kind.TheVariants as kinds

-- the runner or the job that the entry names is declared
abbrev pub NamesDeclared : Plan → Kind → Type 0
NamesDeclared script (kinds.Post task runner delay ok) = runner < length script.runners
NamesDeclared script (kinds.Reprio runner priority) = runner < length script.runners
NamesDeclared script (kinds.JobPost job ok) = job < length script.jobs
NamesDeclared script (kinds.JobTake job id item) = job < length script.jobs
NamesDeclared script (kinds.JobStep job id item value next) = job < length script.jobs
NamesDeclared script (kinds.JobCancel job) = job < length script.jobs
NamesDeclared script kind = Unit {0}
