-- What is looked for among the entries of a past.
use Rattle.std.specs.Prelude.{ℕ, ◌==◌, Bool, true, false, ◌&&◌, not, is_none}
use Rattle.task_base.specs.declared.entry.Entry.{Entry}
use Rattle.task_base.specs.declared.entry.Kind.{Kind}
use Rattle.task_base.specs.declared.entry.Kind.TheVariants as kinds
use Rattle.task_model.specs.Jobs.{cancels}
use Rattle.task_model.specs.Posts.{ends, main_takes, takes}
use Rattle.task_model.specs.Refusal.{closes}
use Rattle.pool_laws.specs.Posts.{main_ends}
use Rattle.log_context.specs.declared.mark.Mark.{Mark}
use Rattle.log_context.specs.declared.mark.Mark.TheVariants as marks
use Rattle.log_context.specs.declared.mark.Plain.{Plain}
use Rattle.log_context.specs.declared.mark.Plain.TheVariants as plains

-- the entry posts the task to a runner
abbrev pub posts : ℕ → Kind → Bool
posts t (kinds.Post task runner delay ok) = task == t
posts t kind = false

-- the entry posts the task to a main queue
abbrev pub posts_main : ℕ → Kind → Bool
posts_main t (kinds.Main task queue delay ok) = task == t
posts_main t kind = false

-- the entry posts the job
abbrev pub posts_job : ℕ → Kind → Bool
posts_job j (kinds.JobPost job ok) = job == j
posts_job j kind = false

-- the entry takes a task of the runner
abbrev pub takes_of : ℕ → Kind → Bool
takes_of r (kinds.Take task runner found) = runner == r
takes_of r kind = false

-- the entry takes a task of the main queue
abbrev pub takes_of_queue : ℕ → Kind → Bool
takes_of_queue q (kinds.MainTake task queue found) = queue == q
takes_of_queue q kind = false

-- the entry starts or ends a task, or enters or leaves a job
abbrev pub does_work : Kind → Bool
does_work (kinds.Take task runner found) = true
does_work (kinds.MainTake task queue found) = true
does_work (kinds.JobTake job id item) = true
does_work (kinds.End task left) = true
does_work (kinds.MainEnd task left) = true
does_work (kinds.JobStep job id item value next) = is_none next
does_work kind = false

-- the entry sets the fence of the main queue, or removes it
abbrev pub sets_fence : ℕ → Kind → Bool
sets_fence q (kinds.Fence queue at) = queue == q
sets_fence q (kinds.Unfence queue) = queue == q
sets_fence q kind = false

-- the entry is a vote of this voter of the main queue
abbrev pub votes : ℕ → ℕ → Kind → Bool
votes q v (kinds.Vote queue voter on) = queue == q && voter == v
votes q v kind = false

-- the entry switches a voter of the main queue off
abbrev pub votes_off : ℕ → Kind → Bool
votes_off q (kinds.Vote queue voter on) = queue == q && not on
votes_off q kind = false

-- the entry is this event
abbrev pub is_plain : Plain → Kind → Bool
is_plain plains.Policy (kinds.Policy policy) = true
is_plain plains.Shutdown kinds.Shutdown = true
is_plain plains.Tick (kinds.Tick now) = true
is_plain plain kind = false

-- the entry is what is looked for
abbrev pub is_marked : Mark → Entry → Bool
is_marked (marks.Post task) e = posts task e.kind
is_marked (marks.Main task) e = posts_main task e.kind
is_marked (marks.JobPost job) e = posts_job job e.kind
is_marked (marks.Take task) e = takes task e.kind
is_marked (marks.TakeOf runner) e = takes_of runner e.kind
is_marked (marks.MainTake task) e = main_takes task e.kind
is_marked (marks.MainTakeOf queue) e = takes_of_queue queue e.kind
is_marked (marks.End task) e = ends task e.kind
is_marked (marks.MainEnd task) e = main_ends task e.kind
is_marked (marks.Work seat) e = e.seat == seat && does_work e.kind
is_marked (marks.JobCancel job) e = cancels job e.kind
is_marked (marks.Fence queue) e = sets_fence queue e.kind
is_marked (marks.Vote queue voter) e = votes queue voter e.kind
is_marked (marks.Off queue) e = votes_off queue e.kind
is_marked (marks.Close queue) e = closes queue e.kind
is_marked (marks.Plain plain) e = is_plain plain e.kind
