-- Where what an entry takes was posted, and taken before.
use Rattle.std.specs.Prelude.{ℕ, Bool, true, false, List, Option, Some, None}
use Rattle.std.specs.Option.{option_or}
use Rattle.task_base.specs.declared.entry.Entry.{Entry}
use Rattle.task_base.specs.declared.entry.Kind.{Kind}
use Rattle.task_base.specs.declared.entry.Kind.TheVariants as kinds
use Rattle.log_context.specs.Seen.{tells}
use Rattle.log_context.specs.declared.fact.Fact.{Fact}
use Rattle.log_context.specs.declared.fact.Fact.TheVariants as facts
use Rattle.log_context.specs.declared.fact.Role.TheVariants as roles
use Rattle.log_context.specs.declared.mark.Mark.{Mark}
use Rattle.log_context.specs.declared.mark.Mark.TheVariants as marks

-- where the task that the entry takes was taken before
abbrev pub taken : List Entry → Kind → Option Fact
taken past (kinds.Take task runner found) = tells roles.Taken (marks.Take task) past
taken past (kinds.MainTake task queue found) = tells roles.Taken (marks.MainTake task) past
taken past kind = None

-- where a task was posted, or that it was not
abbrev pub task_or_unposted : ℕ → Mark → List Entry → Option Fact
task_or_unposted task mark past = option_or (tells roles.Posted mark past) (Some (facts.Unposted task))

-- where the task or the job that the entry takes, or waits for, was posted
abbrev pub posted : List Entry → Kind → Option Fact
posted past (kinds.Take task runner found) = task_or_unposted task (marks.Post task) past
posted past (kinds.MainTake task queue found) = task_or_unposted task (marks.Main task) past
posted past (kinds.JobTake job id item) = tells roles.Posted (marks.JobPost job) past
posted past (kinds.Joined job reply) = tells roles.Posted (marks.JobPost job) past
posted past kind = None

-- whether a post was accepted, if the entry is one
abbrev pub reply_of : Kind → Option Bool
reply_of (kinds.Post task runner delay ok) = Some ok
reply_of (kinds.Main task queue delay ok) = Some ok
reply_of (kinds.JobPost job ok) = Some ok
reply_of kind = None

-- both are replies, and they differ
abbrev pub differ : Option Bool → Option Bool → Bool
differ (Some true) (Some false) = true
differ (Some false) (Some true) = true
differ a b = false

-- the entry is a post with another reply than the one that may come
abbrev pub is_answered_otherwise : Kind → Option Kind → Bool
is_answered_otherwise kind None = false
is_answered_otherwise kind (Some next) = differ (reply_of kind) (reply_of next)
