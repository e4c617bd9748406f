-- Why a seat may not make a call in an open plan: the first thing that the call asks for and that fails (this project's own rules).
use Rattle.std.specs.Prelude.{ℕ, ◌==◌, ◌&&◌, Bool, true, not, nat_lt, nat_le, if◌then◌else◌, List, length, Option, Some, None, is_none, is_some}
use Rattle.std.specs.Option.{option_map, option_map_or, option_or}
use Rattle.task_base.specs.Plan.{Plan}
use Rattle.task_base.specs.declared.entry.Entry.{Entry}
use Rattle.task_base.specs.declared.entry.Kind.{Kind}
use Rattle.task_base.specs.declared.entry.Kind.TheVariants as kinds
use Rattle.script_model.specs.Draft.{is_voter, may_block_on}
use Rattle.task_model.specs.Capacity.{open_scope}
use Rattle.task_model.specs.Jobs.{is_cancelled, job_post_of}
use Rattle.task_model.specs.Phase.{is_started, phase_of}
use Rattle.task_model.specs.Seats.{Holding, Running, holding, running}
use Rattle.hist_model.specs.Allowed.{by_own_step}
use Rattle.hist_model.specs.Open.{is_before, is_done, is_kept, is_post_within, is_poster, was_posted}
use Rattle.next_entry.specs.declared.open_cause.Part.{Part}
use Rattle.next_entry.specs.declared.open_cause.Part.TheVariants as parts

-- the part, unless this holds; and then what else fails
abbrev pub unless : Bool → Part → Option Part → Option Part
unless holds part rest = if holds then rest else Some part

-- the part, unless this holds
abbrev pub only : Bool → Part → Option Part
only holds part = unless holds part None

-- ---- what a seat is at

-- what a seat is at work with
abbrev pub busy_part : List Entry → ℕ → Option Part
busy_part past seat = option_or (option_map (λ (w : Running). parts.Runs w.task) (running past seat))
    (option_map (λ (h : Holding). parts.Holds h.job) (holding past seat))

-- what fails of the task that the seat runs; or it runs none
abbrev pub task_part : (Running → Option Part) → List Entry → ℕ → Option Part
task_part part past seat = option_map_or part (running past seat) (Some parts.RunsNothing)

-- a task of the pool ends that has no scope open
abbrev pub end_part : List Entry → Running → Option Part
end_part past w = unless (not w.is_main) (parts.IsMain w.task) (only (is_none (open_scope past w.task)) (parts.ScopeOpen w.task))

-- a task of the pool opens a scope that may block, and has none open
abbrev pub enter_part : Plan → List Entry → Running → Option Part
enter_part plan past w = unless (not w.is_main) (parts.IsMain w.task)
    (unless (may_block_on plan.runners w.home) (parts.MayNotBlock w.task) (only (is_none (open_scope past w.task)) (parts.ScopeOpen w.task)))

-- a task of the pool closes a scope that has one open
abbrev pub leave_part : List Entry → Running → Option Part
leave_part past w = unless (not w.is_main) (parts.IsMain w.task) (only (is_some (open_scope past w.task)) (parts.NoScope w.task))

-- a main task ends that has no scope open
abbrev pub main_end_part : List Entry → Running → Option Part
main_end_part past w = unless w.is_main (parts.IsPool w.task) (only (is_none (open_scope past w.task)) (parts.ScopeOpen w.task))

-- a worker takes something that does nothing, and is not the guest
abbrev pub take_part : Plan → List Entry → ℕ → Option Part
take_part plan past seat = unless (nat_le 1 seat) parts.DriverTakes (unless (nat_lt seat plan.workers) parts.GuestTakes (busy_part past seat))

-- ---- posts

-- the seat may post this task, which was not posted: by a step of the task that it runs, where steps of the plan post it
abbrev pub poster_part : Plan → List Entry → ℕ → ℕ → Kind → Option Part
poster_part plan past seat task kind =
    if is_kept plan task then only (by_own_step plan past seat kind) (parts.OfStep task) else only (is_poster plan past seat) parts.NoPoster

-- the seat may post this task by this entry, which names what is declared
abbrev pub post_part : Plan → List Entry → ℕ → ℕ → Kind → Option Part
post_part plan past seat task kind =
    unless (is_post_within plan kind) parts.Undeclared
    (unless (not (was_posted past task)) (parts.PostedBefore task) (poster_part plan past seat task kind))

-- ---- the driver

-- what is done with a declared job comes in its order: it is posted once, and cancelled and joined after that
abbrev pub job_part : List Entry → ℕ → Kind → Option Part
job_part past job (kinds.JobPost j ok) = only (is_none (job_post_of past job)) (parts.JobPostedBefore job)
job_part past job (kinds.JobCancel j) = only (is_some (job_post_of past job)) (parts.JobUnposted job)
job_part past job (kinds.Joined j reply) = only (is_some (job_post_of past job)) (parts.JobUnposted job)
job_part past job (kinds.Cancelled j) = only (is_cancelled past job) (parts.NotCancelled job)
job_part past job kind = None

-- the job is declared, and comes in its order
abbrev pub declared_part : Plan → List Entry → ℕ → Kind → Option Part
declared_part plan past job kind = unless (nat_lt job (length plan.jobs)) parts.Undeclared (job_part past job kind)

-- what the driver names is declared, and comes in its order: shutdown is started once, and done after that
abbrev pub named_part : Plan → List Entry → Kind → Option Part
named_part plan past (kinds.Reprio runner priority) = only (nat_lt runner (length plan.runners)) parts.Undeclared
named_part plan past (kinds.Fence queue at) = only (nat_lt queue (length plan.queues)) parts.Undeclared
named_part plan past (kinds.Unfence queue) = only (nat_lt queue (length plan.queues)) parts.Undeclared
named_part plan past (kinds.Vote queue voter on) = only (is_voter plan.queues queue voter) parts.Undeclared
named_part plan past (kinds.Rank queue class) = only (nat_lt queue (length plan.queues) && nat_le class 7) parts.Undeclared
named_part plan past (kinds.Close queue) = only (nat_lt queue (length plan.queues)) parts.Undeclared
named_part plan past (kinds.JobPost job ok) = declared_part plan past job (kinds.JobPost job ok)
named_part plan past (kinds.JobTake job id item) = declared_part plan past job (kinds.JobTake job id item)
named_part plan past (kinds.JobCancel job) = declared_part plan past job (kinds.JobCancel job)
named_part plan past (kinds.Cancelled job) = declared_part plan past job (kinds.Cancelled job)
named_part plan past (kinds.Joined job reply) = declared_part plan past job (kinds.Joined job reply)
named_part plan past kinds.Shutdown = only (is_before (phase_of past)) parts.StartedBefore
named_part plan past kinds.Done = only (is_started (phase_of past)) parts.NotStarted
named_part plan past kind = None

-- shutdown is not done, the driver does nothing, and what it names is declared and comes in its order
abbrev pub driving_part : Plan → List Entry → Kind → Option Part
driving_part plan past kind = unless (not (is_done (phase_of past))) parts.IsDone (option_or (busy_part past 0) (named_part plan past kind))

-- ---- the first thing that the call of an entry asks for and that fails, where the call is one of the entry's seat, and there is the
-- seat; none where the call may be made (`live_core`, `Calls.fits`)
abbrev pub part_of : Plan → List Entry → ℕ → Kind → Option Part
part_of plan past seat (kinds.Post task runner delay ok) = post_part plan past seat task (kinds.Post task runner delay true)
part_of plan past seat (kinds.Main task queue delay ok) = post_part plan past seat task (kinds.Main task queue delay true)
part_of plan past seat (kinds.Tick now) = only (not (is_done (phase_of past))) parts.IsDone
part_of plan past seat (kinds.Take task runner found) = take_part plan past seat
part_of plan past seat (kinds.End task left) = task_part (end_part past) past seat
part_of plan past seat (kinds.Enter task scope) = task_part (enter_part plan past) past seat
part_of plan past seat (kinds.Leave task) = task_part (leave_part past) past seat
part_of plan past seat (kinds.MainEnd task left) = task_part (main_end_part past) past 0
part_of plan past seat (kinds.JobTake job id item) = if seat == 0 then driving_part plan past (kinds.JobTake job id item) else take_part plan past seat
part_of plan past seat (kinds.JobStep job id item value next) = only (is_some (holding past seat)) parts.HoldsNothing
part_of plan past seat kind = driving_part plan past kind
