-- A request for each call.
use Rattle.std.specs.Prelude.{ℕ, ◌==◌, Bool, true, not, nat_le, Option, Some, None}
use Rattle.live_core.specs.declared.call.Call.{Call}
use Rattle.live_core.specs.declared.call.Call.TheVariants as calls
use Rattle.live_request.specs.Named.{code_of_fence, code_of_flag, code_of_policy, code_of_priority, code_of_scope}
use Rattle.live_request.specs.declared.codes.TheConstants as codes
use Rattle.live_request.specs.declared.request.Request.{Request}

-- the numbers of the call that a core keeps in 8 bits have no more, and no task has the number that names none
abbrev pub is_within : Call → Bool
is_within (calls.Post seat (Some task) runner delay) = not (task == codes.NO_TASK)
is_within (calls.Main seat (Some task) queue delay) = not (task == codes.NO_TASK)
is_within (calls.Vote queue voter on) = nat_le voter 255
is_within (calls.Rank queue class) = nat_le class 255
is_within call = true

-- a request by the thread of this seat, with this number of its call, and nothing else
abbrev pub asking : ℕ → ℕ → Request
asking by_seat call = record { call = call; rests = 0; by = by_seat; seat = 0; task = codes.NO_TASK; place = 0; word = 0; on = 0; time = 0 }

-- the task that is named, or the number that names none
abbrev pub code_of_named : Option ℕ → ℕ
code_of_named (Some task) = task
code_of_named None = codes.NO_TASK

-- a request for this call, by the thread of this seat
abbrev pub request_for : ℕ → Call → Request
request_for by_seat (calls.Post seat named runner delay) =
    record (asking by_seat codes.POST) { seat = seat; task = code_of_named named; place = runner; time = delay }
request_for by_seat (calls.Main seat named queue delay) =
    record (asking by_seat codes.MAIN) { seat = seat; task = code_of_named named; place = queue; time = delay }
request_for by_seat (calls.Tick reading) = record (asking by_seat codes.TICK) { time = reading }
request_for by_seat (calls.Take seat) = record (asking by_seat codes.TAKE) { seat = seat }
request_for by_seat (calls.End seat) = record (asking by_seat codes.END) { seat = seat }
request_for by_seat (calls.Enter seat scope) = record (asking by_seat codes.ENTER) { seat = seat; word = code_of_scope scope }
request_for by_seat (calls.Leave seat) = record (asking by_seat codes.LEAVE) { seat = seat }
request_for by_seat (calls.Policy policy) = record (asking by_seat codes.POLICY) { word = code_of_policy policy }
request_for by_seat (calls.Reprio runner priority) = record (asking by_seat codes.REPRIO) { place = runner; word = code_of_priority priority }
request_for by_seat (calls.Fence queue at) = record (asking by_seat codes.FENCE) { place = queue; word = code_of_fence at }
request_for by_seat (calls.Unfence queue) = record (asking by_seat codes.UNFENCE) { place = queue }
request_for by_seat (calls.Vote queue voter on) = record (asking by_seat codes.VOTE) { place = queue; word = voter; on = code_of_flag on }
request_for by_seat (calls.Rank queue class) = record (asking by_seat codes.RANK) { place = queue; word = class }
request_for by_seat (calls.Close queue) = record (asking by_seat codes.CLOSE) { place = queue }
request_for by_seat calls.MainTake = asking by_seat codes.MAIN_TAKE
request_for by_seat calls.MainEnd = asking by_seat codes.MAIN_END
request_for by_seat (calls.JobPost job) = record (asking by_seat codes.JOB_POST) { place = job }
request_for by_seat (calls.JobTake job) = record (asking by_seat codes.JOB_TAKE) { place = job }
request_for by_seat (calls.JobStep seat) = record (asking by_seat codes.JOB_STEP) { seat = seat }
request_for by_seat (calls.JobCancel job) = record (asking by_seat codes.JOB_CANCEL) { place = job }
request_for by_seat (calls.Cancelled job) = record (asking by_seat codes.CANCELLED) { place = job }
request_for by_seat (calls.Joined job) = record (asking by_seat codes.JOINED) { place = job }
request_for by_seat calls.Idle = asking by_seat codes.IDLE
request_for by_seat calls.Shutdown = asking by_seat codes.SHUTDOWN
request_for by_seat calls.Done = asking by_seat codes.DONE
