-- What may come after a past (this project's own rules).
use Rattle.std.specs.Prelude.{ℕ, ◌==◌, Bool, true, false, not, ◌&&◌, ◌||◌, nat_le, if◌then◌else◌, List, length, filter, Option, Some, None, is_none, IsTrue}
use Rattle.std.specs.List.{list_all, list_any}
use Rattle.task_base.specs.declared.limits.TheConstants.{LAST_MOMENT}
use Rattle.task_base.specs.Plan.{Plan}
use Rattle.task_base.specs.Steps.{after, is_act}
use Rattle.task_base.specs.declared.step.Step.{Step}
use Rattle.task_base.specs.declared.step.Step.TheVariants as steps
use Rattle.task_base.specs.declared.step.Scope.{Scope}
use Rattle.task_base.specs.declared.step.Scope.TheVariants.{May, Will}
use Rattle.task_base.specs.declared.entry.JobReply.{JobReply}
use Rattle.task_base.specs.declared.entry.JobReply.TheVariants.{Refused, Finished, Cancelled, Stopped}
use Rattle.task_base.specs.declared.source.TaskSource.{TaskSource}
use Rattle.task_base.specs.declared.source.TaskSource.TheVariants.{Sequence, Job}
use Rattle.task_base.specs.declared.entry.Entry.{Entry}
use Rattle.task_base.specs.declared.entry.Kind.{Kind}
use Rattle.task_base.specs.declared.entry.Kind.TheVariants as kinds
use Rattle.list_laws.specs.Lists.{holds_of}
use Rattle.task_model.specs.Phase.{phase_of, is_started}
use Rattle.task_model.specs.Time.{now_of}
use Rattle.task_model.specs.Refusal.{is_refused, is_job_forbidden, is_closed}
use Rattle.task_model.specs.Sequences.{head_of}
use Rattle.task_model.specs.Seats.{Running, running, holding, worker_seats, is_free, is_quiet, steps_of, acts_done, next_act}
use Rattle.task_model.specs.Capacity.{open_scope}
use Rattle.task_model.specs.Cells.{cell_of, main_cell_of}
use Rattle.task_model.specs.Jobs.{is_cancelled, is_empty, claimed, item_value, may_enter, free_id, reply_of}
use Rattle.task_model.specs.Sources.{best_of, next_item}
use Rattle.task_model.specs.Blockers.{blockers_of}
use Rattle.task_model.specs.MainQueues.{Front, open_fronts, chosen_of}
use Rattle.hist_model.specs.Views.{own_entries}
use Rattle.hist_model.specs.Open.{is_guest, is_kept, is_post_within, is_poster, may_close_scope, may_open_scope, was_posted}
use Rattle.hist_model.specs.Script.{is_wanted, is_finished}

-- by the script: the driver, and the script wants this entry next
unfoldable pub by_script : Plan → List Entry → ℕ → Kind → Bool
by_script script past seat kind = seat == 0 && is_wanted script (own_entries 0 past) kind

-- the two scopes are of one type
abbrev pub same_scope : Scope → Scope → Bool
same_scope May May = true
same_scope Will Will = true
same_scope a b = false

-- the act step of a task enters this kind of entry
abbrev pub enters : ℕ → Step → Kind → Bool
enters t (steps.Post u r d) (kinds.Post task runner delay ok) = task == u && runner == r && delay == d
enters t (steps.Main u q d) (kinds.Main task queue delay ok) = task == u && queue == q && delay == d
enters t (steps.Block s) (kinds.Enter task scope) = task == t && same_scope scope s
enters t steps.Unblock (kinds.Leave task) = task == t
enters t step kind = false

-- by a task: the seat runs it, and this is its next act step
unfoldable pub by_task : Plan → List Entry → ℕ → Kind → Bool
by_task script past seat kind = holds_of (λ w. holds_of (λ step. enters w.task step kind) (next_act script past seat)) (running past seat)

-- an act step of the task that the seat runs enters this kind of entry, in any order
abbrev pub by_own_step : Plan → List Entry → ℕ → Kind → Bool
by_own_step script past seat kind = holds_of (λ w. list_any (λ step. enters w.task step kind) (steps_of script w.task)) (running past seat)

-- in an open plan, a task is posted that is declared and was not posted: by the task whose step posts it, where there is
-- one, and else by whoever may post
abbrev pub may_post : Plan → List Entry → ℕ → ℕ → Kind → Bool
may_post script past seat task kind =
    is_post_within script kind && not (was_posted past task)
    && (if is_kept script task then by_own_step script past seat kind else is_poster script past seat)

-- the task is posted by the script or by a task, or in an open plan
abbrev pub is_posted_by : Plan → List Entry → ℕ → ℕ → Kind → Bool
is_posted_by script past seat task kind =
    if script.is_open then may_post script past seat task kind else by_script script past seat kind || by_task script past seat kind

-- a worker seat that runs no task and holds no item, and is no guest, while the script is not finished
abbrev pub is_ready_worker : Plan → List Entry → ℕ → Bool
is_ready_worker script past seat =
    nat_le 1 seat && nat_le seat script.workers && is_free past seat && not (is_finished script past) && not (is_guest script seat)

-- the source is the sequence whose head is this task on this runner, and its cell has this value
abbrev pub is_head_of : Plan → List Entry → ℕ → ℕ → ℕ → TaskSource → Bool
is_head_of script past task runner found (Sequence s) =
    holds_of (λ r. r.posted.task == task && r.posted.home == runner) (head_of script past s) && found == cell_of script past s
is_head_of script past task runner found (Job j) = false

-- the source is this job
abbrev pub is_job : ℕ → TaskSource → Bool
is_job job (Sequence s) = false
is_job job (Job j) = j == job

-- the task has done what it enters: all its act steps, and in an open plan no scope of it is open
abbrev pub has_acted : Plan → List Entry → ℕ → Running → Bool
has_acted script past seat w =
    if script.is_open then is_none (open_scope past w.task) else acts_done past seat == length (filter is_act (steps_of script w.task))

-- the task has done what it enters, and its steps leave this value of what it found
abbrev pub has_done : Plan → List Entry → ℕ → ℕ → Running → Bool
has_done script past seat left w = has_acted script past seat w && left == after (steps_of script w.task) w.found

-- the front is this task of this queue
abbrev pub is_front : ℕ → ℕ → Front → Bool
is_front task queue f = f.task == task && f.queue == queue

-- the seat may enter the job: a worker takes it as the best source, the driver joins it
abbrev pub enters_job : Plan → List Entry → ℕ → ℕ → Kind → Bool
enters_job script past seat job kind =
    (is_ready_worker script past seat && holds_of (λ c. is_job job c.source) (best_of script past seat))
    || (by_script script past seat kind && may_enter script past job)

-- both have no number, or the same one
abbrev pub same_number : Option ℕ → Option ℕ → Bool
same_number None None = true
same_number (Some a) (Some b) = a == b
same_number a b = false

-- the two replies are the same
abbrev pub same_reply : JobReply → JobReply → Bool
same_reply Refused Refused = true
same_reply (Finished a) (Finished b) = a == b
same_reply Cancelled Cancelled = true
same_reply Stopped Stopped = true
same_reply a b = false

-- the reply says ok exactly where the post is not refused
abbrev pub is_reply : Bool → Bool → Bool
is_reply refused ok = if refused then not ok else ok

-- whether an entry of this seat and kind may come after the past
unfoldable pub may_come : Plan → List Entry → ℕ → Kind → Bool
-- by the script or by a task, or in an open plan; it is refused where the phase forbids the task's effective behaviour
may_come script past seat (kinds.Post task runner delay ok) =
    is_posted_by script past seat task (kinds.Post task runner delay ok)
    && is_reply (is_refused script past runner delay) ok
-- by the script or by a task, or in an open plan; it is refused where the queue is closed
may_come script past seat (kinds.Main task queue delay ok) =
    is_posted_by script past seat task (kinds.Main task queue delay ok)
    && is_reply (is_closed past queue) ok
-- by the script; the moment is at least the last one, and at most the last moment of all
may_come script past seat (kinds.Tick now) =
    by_script script past seat (kinds.Tick now) && nat_le (now_of past) now && nat_le now LAST_MOMENT
-- a worker that is free, and no guest, while the script is not finished; the best source is a sequence with this head, which finds its cell
may_come script past seat (kinds.Take task runner found) =
    is_ready_worker script past seat && holds_of (λ c. is_head_of script past task runner found c.source) (best_of script past seat)
-- the seat runs the pool task, which has done what it enters; it leaves its steps applied to what it found
may_come script past seat (kinds.End task left) =
    holds_of (λ w. not w.is_main && w.task == task && has_done script past seat left w) (running past seat)
-- by the task, or in an open plan, where none is open
may_come script past seat (kinds.Enter task scope) =
    if script.is_open then may_open_scope script past seat task else by_task script past seat (kinds.Enter task scope)
-- by the task, or in an open plan, where one is open
may_come script past seat (kinds.Leave task) = if script.is_open then may_close_scope past seat task else by_task script past seat (kinds.Leave task)
-- by the script
may_come script past seat (kinds.Policy policy) = by_script script past seat (kinds.Policy policy)
-- by the script
may_come script past seat (kinds.Reprio runner priority) = by_script script past seat (kinds.Reprio runner priority)
-- by the script
may_come script past seat (kinds.Fence queue at) = by_script script past seat (kinds.Fence queue at)
-- by the script
may_come script past seat (kinds.Unfence queue) = by_script script past seat (kinds.Unfence queue)
-- by the script
may_come script past seat (kinds.Vote queue voter on) = by_script script past seat (kinds.Vote queue voter on)
-- by the script
may_come script past seat (kinds.Rank queue class) = by_script script past seat (kinds.Rank queue class)
-- by the script
may_come script past seat (kinds.Close queue) = by_script script past seat (kinds.Close queue)
-- the driver inside a pump, running nothing; the task is the chosen front, and finds its queue's cell
may_come script past seat (kinds.MainTake task queue found) =
    by_script script past seat (kinds.MainTake task queue found) && holds_of (is_front task queue) (chosen_of script past) && found == main_cell_of past queue
-- the driver runs the main task, which has done what it enters; it leaves its steps applied to what it found
may_come script past seat (kinds.MainEnd task left) =
    seat == 0 && holds_of (λ w. w.is_main && w.task == task && has_done script past seat left w) (running past seat)
-- the driver inside a pump, running nothing; no front is open
may_come script past seat kinds.MainNone = by_script script past seat kinds.MainNone && length (open_fronts script past) == 0
-- by the script; it is refused where the phase forbids the job
may_come script past seat (kinds.JobPost job ok) =
    by_script script past seat (kinds.JobPost job ok) && is_reply (is_job_forbidden script past job) ok
-- a free worker whose best source is the job, or the driver inside a join of it; the least number that nobody inside has, and
-- the least unclaimed item
may_come script past seat (kinds.JobTake job id item) =
    enters_job script past seat job (kinds.JobTake job id item) && same_number (free_id script past job) (Some id) && item == claimed past job
-- the seat holds the item under this number; its value is the job's steps applied to it, and the seat goes on or leaves
may_come script past seat (kinds.JobStep job id item value next) =
    holds_of (λ h. h.job == job && h.id == id && h.item == item) (holding past seat)
    && value == item_value script job item && same_number next (next_item script past seat job)
-- by the script
may_come script past seat (kinds.JobCancel job) = by_script script past seat (kinds.JobCancel job)
-- by the script; the job is cancelled, and nobody is inside
may_come script past seat (kinds.Cancelled job) = by_script script past seat (kinds.Cancelled job) && is_cancelled past job && is_empty script past job
-- by the script, and the driver holds nothing; nobody is inside, and this is the job's reply
may_come script past seat (kinds.Joined job reply) =
    by_script script past seat (kinds.Joined job reply) && is_empty script past job && holds_of (same_reply reply) (reply_of script past job)
-- by the script; no task and no job worker runs, and no worker may take anything
may_come script past seat kinds.Idle =
    by_script script past seat kinds.Idle && is_quiet script past && list_all (λ worker. is_none (best_of script past worker)) (worker_seats script)
-- by the script
may_come script past seat kinds.Shutdown = by_script script past seat kinds.Shutdown
-- by the script; shutdown was started, and nothing blocks it
may_come script past seat kinds.Done = by_script script past seat kinds.Done && is_started (phase_of past) && blockers_of script past == 0

-- whether the entry may come after the past: its seat is one of the script's, and its kind may come
abbrev pub is_allowed : Plan → List Entry → Entry → Bool
is_allowed script past e = nat_le e.seat script.workers && may_come script past e.seat e.kind

-- the entry is allowed after the past
abbrev pub IsAllowed : Plan → List Entry → Entry → Type 0
IsAllowed script past e = IsTrue (is_allowed script past e)
