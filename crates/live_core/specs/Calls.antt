-- Which calls may come after a past of an open plan (this project's own rules).
use Rattle.std.specs.Prelude.{ℕ, ◌==◌, Bool, true, false, not, ◌&&◌, ◌||◌, nat_lt, nat_le, if◌then◌else◌, List, length, Option, Some, None, is_none, is_some}
use Rattle.std.specs.List.{find, range_with_len}
use Rattle.task_base.specs.Plan.{Plan}
use Rattle.task_base.specs.declared.entry.Entry.{Entry}
use Rattle.task_base.specs.declared.entry.Kind.{Kind}
use Rattle.task_base.specs.declared.entry.Kind.TheVariants as kinds
use Rattle.task_base.specs.declared.limits.TheConstants.{MOST_MICROSECONDS}
use Rattle.list_laws.specs.Lists.{holds_of}
use Rattle.script_model.specs.Draft.{is_voter, may_block_on}
use Rattle.task_model.specs.Capacity.{open_scope}
use Rattle.task_model.specs.Jobs.{is_cancelled, job_post_of}
use Rattle.task_model.specs.Phase.{is_started, phase_of}
use Rattle.task_model.specs.Seats.{holding, is_free, running}
use Rattle.hist_model.specs.Allowed.{may_post}
use Rattle.hist_model.specs.Open.{is_before, is_done, is_kept, is_poster, was_posted}
use Rattle.live_core.specs.declared.books.TheConstants.{MOST_ENTRIES}
use Rattle.live_core.specs.declared.call.Call.{Call}
use Rattle.live_core.specs.declared.call.Call.TheVariants as calls

-- the seat that makes the call: where it names none, the driver
abbrev pub seat_of : Call → ℕ
seat_of (calls.Post seat named runner delay) = seat
seat_of (calls.Main seat named queue delay) = seat
seat_of (calls.Take seat) = seat
seat_of (calls.End seat) = seat
seat_of (calls.Enter seat scope) = seat
seat_of (calls.Leave seat) = seat
seat_of (calls.JobStep seat) = seat
seat_of call = 0

-- the call that an entry of this seat and kind is of; it names the task that is posted
abbrev pub call_of : ℕ → Kind → Call
call_of seat (kinds.Post task runner delay ok) = calls.Post seat (Some task) runner delay
call_of seat (kinds.Main task queue delay ok) = calls.Main seat (Some task) queue delay
call_of seat (kinds.Tick now) = calls.Tick now
call_of seat (kinds.Take task runner found) = calls.Take seat
call_of seat (kinds.End task left) = calls.End seat
call_of seat (kinds.Enter task scope) = calls.Enter seat scope
call_of seat (kinds.Leave task) = calls.Leave seat
call_of seat (kinds.Policy policy) = calls.Policy policy
call_of seat (kinds.Reprio runner priority) = calls.Reprio runner priority
call_of seat (kinds.Fence queue at) = calls.Fence queue at
call_of seat (kinds.Unfence queue) = calls.Unfence queue
call_of seat (kinds.Vote queue voter on) = calls.Vote queue voter on
call_of seat (kinds.Rank queue class) = calls.Rank queue class
call_of seat (kinds.Close queue) = calls.Close queue
call_of seat (kinds.MainTake task queue found) = calls.MainTake
call_of seat (kinds.MainEnd task left) = calls.MainEnd
call_of seat kinds.MainNone = calls.MainTake
call_of seat (kinds.JobPost job ok) = calls.JobPost job
call_of seat (kinds.JobTake job id item) = if seat == 0 then calls.JobTake job else calls.Take seat
call_of seat (kinds.JobStep job id item value goes_on) = calls.JobStep seat
call_of seat (kinds.JobCancel job) = calls.JobCancel job
call_of seat (kinds.Cancelled job) = calls.Cancelled job
call_of seat (kinds.Joined job reply) = calls.Joined job
call_of seat kinds.Idle = calls.Idle
call_of seat kinds.Shutdown = calls.Shutdown
call_of seat kinds.Done = calls.Done

-- ---- room

-- the task may be handed out: no step of the plan posts it, and it was not posted
abbrev pub is_spare : Plan → List Entry → ℕ → Bool
is_spare plan past task = not (is_kept plan task) && not (was_posted past task)

-- the task that is handed out next: the first one that may be
abbrev pub spare_task : Plan → List Entry → Option ℕ
spare_task plan past = find (is_spare plan past) (range_with_len 0 (length plan.tasks))

-- the task that a post is of: the one that it names, or else the one that is handed out next
abbrev pub task_of : Plan → List Entry → Option ℕ → Option ℕ
task_of plan past (Some task) = Some task
task_of plan past None = spare_task plan past

-- the call hands out a task
abbrev pub hands_out : Call → Bool
hands_out (calls.Post seat named runner delay) = is_none named
hands_out (calls.Main seat named queue delay) = is_none named
hands_out call = false

-- there is no room for the entry of the call
abbrev pub is_full : Plan → List Entry → Call → Bool
is_full plan past call = length past == MOST_ENTRIES || (hands_out call && is_none (spare_task plan past))

-- ---- what a seat has to be at

-- there is the seat, and it may post
abbrev pub is_posting : Plan → List Entry → ℕ → Bool
is_posting plan past seat = nat_le seat plan.workers && is_poster plan past seat

-- there is the seat, and it may post this task by this entry: one that is declared and was not posted; where steps of the
-- plan post it, the seat runs a task that has such a step
abbrev pub is_posting_it : Plan → List Entry → ℕ → ℕ → Kind → Bool
is_posting_it plan past seat task kind = nat_le seat plan.workers && may_post plan past seat task kind

-- the seat is a worker's that does nothing, and not the guest's
abbrev pub is_taker : Plan → List Entry → ℕ → Bool
is_taker plan past seat = nat_le 1 seat && nat_lt seat plan.workers && is_free past seat

-- there is the seat, and it runs a task of the pool that has no scope open
abbrev pub may_end : Plan → List Entry → ℕ → Bool
may_end plan past seat = nat_le seat plan.workers && holds_of (λ w. not w.is_main && is_none (open_scope past w.task)) (running past seat)

-- the driver runs a main task, which has no scope open
abbrev pub may_end_main : List Entry → Bool
may_end_main past = holds_of (λ w. w.is_main && is_none (open_scope past w.task)) (running past 0)

-- there is the seat, and it runs a task of the pool that may block, and has no scope open
abbrev pub may_open : Plan → List Entry → ℕ → Bool
may_open plan past seat =
    nat_le seat plan.workers
    && holds_of (λ w. not w.is_main && may_block_on plan.runners w.home && is_none (open_scope past w.task)) (running past seat)

-- there is the seat, and it runs a task of the pool that has a scope open
abbrev pub may_close : Plan → List Entry → ℕ → Bool
may_close plan past seat = nat_le seat plan.workers && holds_of (λ w. not w.is_main && is_some (open_scope past w.task)) (running past seat)

-- there is the seat, and it holds an item
abbrev pub is_inside : Plan → List Entry → ℕ → Bool
is_inside plan past seat = nat_le seat plan.workers && is_some (holding past seat)

-- shutdown is not done, and the driver does nothing
abbrev pub is_driving : List Entry → Bool
is_driving past = not (is_done (phase_of past)) && is_free past 0

-- ---- what a call of the driver names

-- a job's call comes in its order: it is posted once, and cancelled and joined after that
abbrev pub job_fits : List Entry → Call → ℕ → Bool
job_fits past (calls.JobPost j) job = is_none (job_post_of past job)
job_fits past (calls.JobCancel j) job = is_some (job_post_of past job)
job_fits past (calls.Joined j) job = is_some (job_post_of past job)
job_fits past (calls.Cancelled j) job = is_cancelled past job
job_fits past call job = true

-- what the call names is declared, and comes in its order: shutdown is started once, and done after that
abbrev pub names : Plan → List Entry → Call → Bool
names plan past (calls.Reprio runner priority) = nat_lt runner (length plan.runners)
names plan past (calls.Fence queue at) = nat_lt queue (length plan.queues)
names plan past (calls.Unfence queue) = nat_lt queue (length plan.queues)
names plan past (calls.Vote queue voter on) = is_voter plan.queues queue voter
names plan past (calls.Rank queue class) = nat_lt queue (length plan.queues) && nat_le class 7
names plan past (calls.Close queue) = nat_lt queue (length plan.queues)
names plan past (calls.JobPost job) = nat_lt job (length plan.jobs) && job_fits past (calls.JobPost job) job
names plan past (calls.JobTake job) = nat_lt job (length plan.jobs) && job_fits past (calls.JobTake job) job
names plan past (calls.JobCancel job) = nat_lt job (length plan.jobs) && job_fits past (calls.JobCancel job) job
names plan past (calls.Cancelled job) = nat_lt job (length plan.jobs) && job_fits past (calls.Cancelled job) job
names plan past (calls.Joined job) = nat_lt job (length plan.jobs) && job_fits past (calls.Joined job) job
names plan past calls.Shutdown = is_before (phase_of past)
names plan past calls.Done = is_started (phase_of past)
names plan past call = true

-- ---- whether the call may be made: its seat is at what the call is for, and what it names is declared
abbrev pub fits : Plan → List Entry → Call → Bool
fits plan past (calls.Post seat None runner delay) = is_posting plan past seat && nat_lt runner (length plan.runners) && nat_le delay MOST_MICROSECONDS
fits plan past (calls.Post seat (Some task) runner delay) = is_posting_it plan past seat task (kinds.Post task runner delay true)
fits plan past (calls.Main seat None queue delay) = is_posting plan past seat && nat_lt queue (length plan.queues) && nat_le delay MOST_MICROSECONDS
fits plan past (calls.Main seat (Some task) queue delay) = is_posting_it plan past seat task (kinds.Main task queue delay true)
fits plan past (calls.Tick reading) = not (is_done (phase_of past))
fits plan past (calls.Take seat) = is_taker plan past seat
fits plan past (calls.End seat) = may_end plan past seat
fits plan past (calls.Enter seat scope) = may_open plan past seat
fits plan past (calls.Leave seat) = may_close plan past seat
fits plan past calls.MainEnd = may_end_main past
fits plan past (calls.JobStep seat) = is_inside plan past seat
fits plan past call = is_driving past && names plan past call
