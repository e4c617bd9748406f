-- Which entries the code can hold: each number is in the range of its type.
use Rattle.std.specs.Prelude.{ℕ, ◌<◌, ◌^◌, Option, None, Some}
use Rattle.task_base.specs.declared.entry.Entry.{Entry}
use Rattle.task_base.specs.declared.entry.Kind.{Kind}
use Rattle.task_base.specs.declared.entry.Kind.TheVariants.{Post, Main, Tick, Take, End, Enter, Leave, Policy, Reprio, Fence, Unfence, Vote, Rank, Close, MainTake, MainEnd, MainNone, JobPost, JobTake, JobStep, JobCancel, Cancelled, Joined, Idle, Shutdown, Done}
use Rattle.task_base.specs.declared.entry.JobReply.{JobReply}
use Rattle.task_base.specs.declared.entry.JobReply.TheVariants as replies

-- the item that a seat goes on with, if there is one, is of 32 bits (this project's own)
abbrev pub NextFits : Option ℕ → Type 0
NextFits None = Unit {0}
NextFits (Some item) = item < 2 ^ 32

-- the sum of a job that is done is of 64 bits (this project's own)
abbrev pub ReplyFits : JobReply → Type 0
ReplyFits replies.Refused = Unit {0}
ReplyFits (replies.Finished sum) = sum < 2 ^ 64
ReplyFits replies.Cancelled = Unit {0}
ReplyFits replies.Stopped = Unit {0}

-- ids and items are of 32 bits; moments, delays and values are of 64 bits; voters and classes are of 8 bits (this
-- project's own)
abbrev pub KindFits : Kind → Type 0
KindFits (Post task runner delay ok) = (task < 2 ^ 32) × (runner < 2 ^ 32) × (delay < 2 ^ 64)
KindFits (Main task queue delay ok) = (task < 2 ^ 32) × (queue < 2 ^ 32) × (delay < 2 ^ 64)
KindFits (Tick now) = now < 2 ^ 64
KindFits (Take task runner found) = (task < 2 ^ 32) × (runner < 2 ^ 32) × (found < 2 ^ 64)
KindFits (End task left) = (task < 2 ^ 32) × (left < 2 ^ 64)
KindFits (Enter task scope) = task < 2 ^ 32
KindFits (Leave task) = task < 2 ^ 32
KindFits (Policy policy) = Unit {0}
KindFits (Reprio runner priority) = runner < 2 ^ 32
KindFits (Fence queue at) = queue < 2 ^ 32
KindFits (Unfence queue) = queue < 2 ^ 32
KindFits (Vote queue voter on) = (queue < 2 ^ 32) × (voter < 2 ^ 8)
KindFits (Rank queue class) = (queue < 2 ^ 32) × (class < 2 ^ 8)
KindFits (Close queue) = queue < 2 ^ 32
KindFits (MainTake task queue found) = (task < 2 ^ 32) × (queue < 2 ^ 32) × (found < 2 ^ 64)
KindFits (MainEnd task left) = (task < 2 ^ 32) × (left < 2 ^ 64)
KindFits MainNone = Unit {0}
KindFits (JobPost job ok) = job < 2 ^ 32
KindFits (JobTake job id item) = (job < 2 ^ 32) × (id < 2 ^ 32) × (item < 2 ^ 32)
KindFits (JobStep job id item value next) = (job < 2 ^ 32) × (id < 2 ^ 32) × (item < 2 ^ 32) × (value < 2 ^ 64) × NextFits next
KindFits (JobCancel job) = job < 2 ^ 32
KindFits (Cancelled job) = job < 2 ^ 32
KindFits (Joined job reply) = (job < 2 ^ 32) × ReplyFits reply
KindFits Idle = Unit {0}
KindFits Shutdown = Unit {0}
KindFits Done = Unit {0}

-- the seat is of 32 bits, and the kind's numbers are in their ranges (this project's own)
pub record Fits (e : Entry) : Type 0 where
  pub seat : e.seat < 2 ^ 32
  pub kind : KindFits e.kind
