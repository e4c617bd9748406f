-- What an answer tells: of an entry, of a call that made none, of a rest, and of whom to wake.
use Rattle.std.specs.Prelude.{ℕ, is_some, unwrap_or, Result, Ok, Err}
use Rattle.task_base.specs.declared.entry.JobReply.{JobReply}
use Rattle.task_base.specs.declared.entry.JobReply.TheVariants as replies
use Rattle.task_base.specs.declared.entry.Kind.{Kind}
use Rattle.task_base.specs.declared.entry.Kind.TheVariants as kinds
use Rattle.live_core.specs.declared.unmade.Unmade.{Unmade}
use Rattle.live_core.specs.declared.unmade.Unmade.TheVariants as unmade
use Rattle.live_roster.specs.declared.rest.Unrested.{Unrested}
use Rattle.live_roster.specs.declared.rest.Unrested.TheVariants as unrested
use Rattle.live_roster.specs.declared.wake.Wake.{Wake}
use Rattle.live_roster.specs.declared.wake.Wake.TheVariants as wakes
use Rattle.live_request.specs.Named.{code_of_fence, code_of_flag, code_of_policy, code_of_priority, code_of_reply, code_of_scope}
use Rattle.live_request.specs.declared.answer.Answer.{Answer}
use Rattle.live_request.specs.declared.codes.TheConstants as codes

-- ---- an entry, field by field

-- the number of its kind
abbrev pub kind_told : Kind → ℕ
kind_told (kinds.Post task runner delay ok) = codes.DID_POST
kind_told (kinds.Main task queue delay ok) = codes.DID_MAIN
kind_told (kinds.Tick now) = codes.DID_TICK
kind_told (kinds.Take task runner found) = codes.DID_TAKE
kind_told (kinds.End task left) = codes.DID_END
kind_told (kinds.Enter task scope) = codes.DID_ENTER
kind_told (kinds.Leave task) = codes.DID_LEAVE
kind_told (kinds.Policy policy) = codes.DID_POLICY
kind_told (kinds.Reprio runner priority) = codes.DID_REPRIO
kind_told (kinds.Fence queue at) = codes.DID_FENCE
kind_told (kinds.Unfence queue) = codes.DID_UNFENCE
kind_told (kinds.Vote queue voter on) = codes.DID_VOTE
kind_told (kinds.Rank queue class) = codes.DID_RANK
kind_told (kinds.Close queue) = codes.DID_CLOSE
kind_told (kinds.MainTake task queue found) = codes.DID_MAIN_TAKE
kind_told (kinds.MainEnd task left) = codes.DID_MAIN_END
kind_told kinds.MainNone = codes.DID_MAIN_NONE
kind_told (kinds.JobPost job ok) = codes.DID_JOB_POST
kind_told (kinds.JobTake job id item) = codes.DID_JOB_TAKE
kind_told (kinds.JobStep job id item value goes_on) = codes.DID_JOB_STEP
kind_told (kinds.JobCancel job) = codes.DID_JOB_CANCEL
kind_told (kinds.Cancelled job) = codes.DID_CANCELLED
kind_told (kinds.Joined job reply) = codes.DID_JOINED
kind_told kinds.Idle = codes.DID_IDLE
kind_told kinds.Shutdown = codes.DID_SHUTDOWN
kind_told kinds.Done = codes.DID_DONE

-- its task, where it has one
abbrev pub task_told : Kind → ℕ
task_told (kinds.Post task runner delay ok) = task
task_told (kinds.Main task queue delay ok) = task
task_told (kinds.Take task runner found) = task
task_told (kinds.End task left) = task
task_told (kinds.Enter task scope) = task
task_told (kinds.Leave task) = task
task_told (kinds.MainTake task queue found) = task
task_told (kinds.MainEnd task left) = task
task_told kind = codes.NO_TASK

-- its runner, queue or job
abbrev pub place_told : Kind → ℕ
place_told (kinds.Post task runner delay ok) = runner
place_told (kinds.Main task queue delay ok) = queue
place_told (kinds.Take task runner found) = runner
place_told (kinds.Reprio runner priority) = runner
place_told (kinds.Fence queue at) = queue
place_told (kinds.Unfence queue) = queue
place_told (kinds.Vote queue voter on) = queue
place_told (kinds.Rank queue class) = queue
place_told (kinds.Close queue) = queue
place_told (kinds.MainTake task queue found) = queue
place_told (kinds.JobPost job ok) = job
place_told (kinds.JobTake job id item) = job
place_told (kinds.JobStep job id item value goes_on) = job
place_told (kinds.JobCancel job) = job
place_told (kinds.Cancelled job) = job
place_told (kinds.Joined job reply) = job
place_told kind = 0

-- the number that the seat has inside the job
abbrev pub id_told : Kind → ℕ
id_told (kinds.JobTake job id item) = id
id_told (kinds.JobStep job id item value goes_on) = id
id_told kind = 0

-- the item of the job
abbrev pub item_told : Kind → ℕ
item_told (kinds.JobTake job id item) = item
item_told (kinds.JobStep job id item value goes_on) = item
item_told kind = 0

-- the next item, where the seat goes on
abbrev pub next_told : Kind → ℕ
next_told (kinds.JobStep job id item value goes_on) = unwrap_or goes_on 0
next_told kind = 0

-- its scope, policy, priority, fence or reply, or the number of its voter or class
abbrev pub word_told : Kind → ℕ
word_told (kinds.Enter task scope) = code_of_scope scope
word_told (kinds.Policy policy) = code_of_policy policy
word_told (kinds.Reprio runner priority) = code_of_priority priority
word_told (kinds.Fence queue at) = code_of_fence at
word_told (kinds.Vote queue voter on) = voter
word_told (kinds.Rank queue class) = class
word_told (kinds.Joined job reply) = code_of_reply reply
word_told kind = 0

-- whether a post is accepted, a vote is on, a seat goes on
abbrev pub ok_told : Kind → ℕ
ok_told (kinds.Post task runner delay ok) = code_of_flag ok
ok_told (kinds.Main task queue delay ok) = code_of_flag ok
ok_told (kinds.Vote queue voter on) = code_of_flag on
ok_told (kinds.JobPost job ok) = code_of_flag ok
ok_told (kinds.JobStep job id item value goes_on) = code_of_flag (is_some goes_on)
ok_told kind = 0

-- the sum of a reply
abbrev pub sum_told : JobReply → ℕ
sum_told (replies.Finished sum) = sum
sum_told reply = 0

-- its delay, moment, value or sum
abbrev pub value_told : Kind → ℕ
value_told (kinds.Post task runner delay ok) = delay
value_told (kinds.Main task queue delay ok) = delay
value_told (kinds.Tick now) = now
value_told (kinds.Take task runner found) = found
value_told (kinds.End task left) = left
value_told (kinds.MainTake task queue found) = found
value_told (kinds.MainEnd task left) = left
value_told (kinds.JobStep job id item value goes_on) = value
value_told (kinds.Joined job reply) = sum_told reply
value_told kind = 0

-- ---- whom to wake

-- nobody, one or everyone
abbrev pub wake_told : Wake → ℕ
wake_told wakes.Nobody = codes.NOBODY
wake_told (wakes.One seat) = codes.ONE
wake_told wakes.Everyone = codes.EVERYONE

-- the seat, where it is one
abbrev pub woken_told : Wake → ℕ
woken_told (wakes.One seat) = seat
woken_told wake = 0

-- ---- answers

-- an answer that tells this status, and nothing else
abbrev pub bare : ℕ → Answer
bare status = record {
  status = status;
  kind = 0;
  task = codes.NO_TASK;
  place = 0;
  id = 0;
  item = 0;
  next = 0;
  word = 0;
  ok = 0;
  count = 0;
  ready = 0;
  wake = codes.NOBODY;
  woken = 0;
  value = 0;
}

-- the entry was made
abbrev pub entry_answer : Kind → Answer
entry_answer kind = record (bare codes.MADE) {
  kind = kind_told kind;
  task = task_told kind;
  place = place_told kind;
  id = id_told kind;
  item = item_told kind;
  next = next_told kind;
  word = word_told kind;
  ok = ok_told kind;
  value = value_told kind;
}

-- no entry was made, for this reason
abbrev pub unmade_answer : Unmade → Answer
unmade_answer unmade.Misuse = bare codes.MISUSE
unmade_answer unmade.Full = bare codes.FULL
unmade_answer unmade.Nothing = bare codes.NOTHING
unmade_answer unmade.Over = bare codes.OVER
unmade_answer (unmade.NotYet not_yet) = record (bare codes.NOT_YET) { count = not_yet.running; ready = code_of_flag not_yet.ready }
unmade_answer (unmade.Blocked blocked) = record (bare codes.BLOCKED) { count = blocked.count }

-- what a call made
abbrev pub made_answer : Result Kind Unmade → Answer
made_answer (Ok kind) = entry_answer kind
made_answer (Err why) = unmade_answer why

-- whether the seat rests
abbrev pub rest_answer : Result ℕ Unrested → Answer
rest_answer (Ok seat) = bare codes.RESTS
rest_answer (Err unrested.Misuse) = bare codes.MISUSE
rest_answer (Err unrested.HasCome) = bare codes.HAS_COME

-- the answer, and whom to wake
abbrev pub with_wake : Answer → Wake → Answer
with_wake answer wake = record answer { wake = wake_told wake; woken = woken_told wake }
