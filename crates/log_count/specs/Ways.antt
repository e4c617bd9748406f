-- The ways on of the seats, by the situation alone (this project's own notion). Entries of jobs are told without their items.
use Rattle.std.specs.Prelude.{ℕ, ◌+◌, ◌==◌, Bool, true, not, ◌&&◌, nat_le, ◌||◌, is_none, if◌then◌else◌, List, [], ◌∷◌, length, filter, find}
use Rattle.std.specs.Prelude.{Option, Some, None, slice_get, option_and_then}
use Rattle.std.specs.Option.{option_map, option_map_or}
use Rattle.std.specs.List.{list_all, range_with_len}
use Rattle.task_base.specs.Plan.{Plan}
use Rattle.task_base.specs.Steps.{is_act}
use Rattle.task_base.specs.declared.entry.JobReply.{JobReply}
use Rattle.task_base.specs.declared.entry.JobReply.TheVariants.{Refused, Finished, Cancelled, Stopped}
use Rattle.task_base.specs.declared.entry.Kind.{Kind}
use Rattle.task_base.specs.declared.entry.Kind.TheVariants as kinds
use Rattle.task_base.specs.declared.limits.TheConstants.{LAST_MOMENT}
use Rattle.task_base.specs.declared.script.Action.{Action}
use Rattle.task_base.specs.declared.script.Action.TheVariants as actions
use Rattle.task_base.specs.declared.source.TaskSource.{TaskSource}
use Rattle.task_base.specs.declared.source.TaskSource.TheVariants.{Sequence, Job}
use Rattle.task_base.specs.declared.step.Step.{Step}
use Rattle.task_base.specs.declared.step.Step.TheVariants as steps
use Rattle.task_traits.specs.Behaviour.{forbids}
use Rattle.list_laws.specs.Lists.{count, holds_of}
use Rattle.task_model.specs.Blockers.{is_block, is_skip}
use Rattle.task_model.specs.Jobs.{items_of}
use Rattle.task_model.specs.Phase.{is_started}
use Rattle.task_model.specs.Refusal.{effective_at, behaviour_of_job}
use Rattle.task_model.specs.Seats.{Running, steps_of, all_seats, worker_seats}
use Rattle.hist_model.specs.Laws.Progress.{end_of}
use Rattle.situation.specs.Counts.{at_moment}
use Rattle.situation.specs.Line.{Waiter, Task, OfJob, waits_at}
use Rattle.situation.specs.Situation.{Situation}
use Rattle.log_count.specs.Parts.{actions_in, runs_in, acts_in, job_in, reply_in, is_cancelled_in, cell_in}
use Rattle.log_count.specs.Sources.{best_in, inside_in, done_in, may_enter_in, leaves_in}

-- ---- what a seat does next

-- the reply that a post has, by what the phase forbids
abbrev pub is_taken_up : Plan → Situation → ℕ → ℕ → Bool
is_taken_up script s runner delay = not (forbids s.phase (effective_at script runner delay))

-- what takes a task that stands first of a sequence
abbrev pub take_of : Situation → ℕ → Waiter → Option Kind
take_of s q (Task task home delay) = Some (kinds.Take task home (cell_in s q))
take_of s q (OfJob job) = None

-- what takes a source
abbrev pub take_in : Plan → Situation → TaskSource → Option Kind
take_in script s (Sequence q) = option_and_then (take_of s q) (find (waits_at script (Sequence q)) s.line)
take_in script s (Job j) = Some (kinds.JobTake j 0 0)

-- the reply to a join, where it has one
abbrev pub join_reply_in : Plan → Situation → ℕ → Option JobReply
join_reply_in script s j =
    if holds_of (λ ok. not ok) (reply_in s j) then Some Refused
    else (if done_in script s j == items_of script j then Some (Finished 0)
    else (if is_cancelled_in s j then Some Cancelled
    else (if forbids s.phase (behaviour_of_job script j) then Some Stopped
    else None)))

-- what the driver does at an action of which so much is made
abbrev pub way_of_action_in : Plan → Situation → Action → ℕ → Option Kind
way_of_action_in script s (actions.Post t r d) made = Some (kinds.Post t r d (is_taken_up script s r d))
way_of_action_in script s (actions.Tick count) made = Some (kinds.Tick 0)
way_of_action_in script s (actions.Policy p) made = Some (kinds.Policy p)
way_of_action_in script s (actions.Reprio r p) made = Some (kinds.Reprio r p)
way_of_action_in script s actions.Flush made = Some kinds.Idle
way_of_action_in script s (actions.StartJob j) made = Some (kinds.JobPost j (not (forbids s.phase (behaviour_of_job script j))))
way_of_action_in script s (actions.Join j) made =
    if may_enter_in script s j then Some (kinds.JobTake j 0 0) else option_map (kinds.Joined j) (join_reply_in script s j)
way_of_action_in script s (actions.Cancel j) made = Some (if made == 0 then kinds.JobCancel j else kinds.Cancelled j)
way_of_action_in script s actions.Shutdown made = Some (if made == 0 then kinds.Shutdown else kinds.Done)
-- the others are of main queues
way_of_action_in script s action made = None

-- what the driver does by the actions that it has left, so much of the first being made
abbrev pub way_of_driver : Plan → Situation → List Action → Option Kind
way_of_driver script s [] = None
way_of_driver script s (action ∷ rest) = way_of_action_in script s action s.driver.made

-- what an act step of a task enters
abbrev pub way_of_step_in : Plan → Situation → ℕ → Step → Option Kind
way_of_step_in script s t (steps.Post u r d) = Some (kinds.Post u r d (is_taken_up script s r d))
way_of_step_in script s t (steps.Block scope) = Some (kinds.Enter t scope)
way_of_step_in script s t steps.Unblock = Some (kinds.Leave t)
way_of_step_in script s t step = None

-- what a seat does that runs a task
abbrev pub way_of_task_in : Plan → Situation → ℕ → Running → Option Kind
way_of_task_in script s seat w =
    option_map_or (way_of_step_in script s w.task) (slice_get (filter is_act (steps_of script w.task)) (acts_in s seat)) (Some (end_of script w))

-- what a seat does that is inside a job
abbrev pub way_of_item_in : Plan → Situation → ℕ → ℕ → Kind
way_of_item_in script s seat j = kinds.JobStep j 0 0 0 (if leaves_in script s seat j then None else Some 0)

-- what a seat does that is free
abbrev pub way_of_free_in : Plan → Situation → ℕ → Option Kind
way_of_free_in script s seat =
    if seat == 0 then way_of_driver script s (actions_in script s) else option_and_then (λ c. take_in script s c.source) (best_in script s seat)

-- the one entry that a seat may make, where it may make one
unfoldable pub way_in : Plan → Situation → ℕ → Option Kind
way_in script s seat =
    option_map_or (way_of_task_in script s seat) (runs_in s seat)
    (option_map_or (λ j. Some (way_of_item_in script s seat j)) (job_in s seat) (way_of_free_in script s seat))

-- ---- what is due

-- the driver has nothing left
abbrev pub is_finished_in : Situation → Bool
is_finished_in s = s.driver.left == 0

-- no seat runs a task, and none is inside a job
unfoldable pub is_quiet_in : Plan → Situation → Bool
is_quiet_in script s = list_all (λ seat. is_none (runs_in s seat) && is_none (job_in s seat)) (all_seats script)

-- nothing is left to be done
abbrev pub is_whole_in : Plan → Situation → Bool
is_whole_in script s = is_finished_in s && is_quiet_in script s

-- nobody is inside the job
abbrev pub is_empty_in : Plan → Situation → ℕ → Bool
is_empty_in script s j = length (inside_in script s j) == 0

-- an accepted block job that is not over
abbrev pub is_open_job_in : Plan → Situation → ℕ → Bool
is_open_job_in script s j =
    is_block (behaviour_of_job script j) && holds_of (λ ok. ok) (reply_in s j)
    && not (is_empty_in script s j && (done_in script s j == items_of script j || is_cancelled_in s j))

-- what shutdown waits for
unfoldable pub blockers_in : Plan → Situation → ℕ
blockers_in script s =
    s.blocks + count (is_open_job_in script s) (range_with_len 0 (length script.jobs))
    + (s.skips + count (λ seat. holds_of (λ j. is_skip (behaviour_of_job script j)) (job_in s seat)) (all_seats script))

-- what an entry that is the way on waits for has come
abbrev pub is_due_in : Plan → Situation → Kind → Bool
is_due_in script s (kinds.Tick now) = nat_le s.now now && nat_le now LAST_MOMENT
is_due_in script s (kinds.Take task runner found) = not (is_finished_in s)
is_due_in script s (kinds.JobTake job id item) = not (is_finished_in s)
is_due_in script s (kinds.Cancelled job) = is_cancelled_in s job && is_empty_in script s job
is_due_in script s (kinds.Joined job reply) = is_empty_in script s job
is_due_in script s kinds.Idle = is_quiet_in script s && list_all (λ worker. is_none (best_in script s worker)) (worker_seats script)
is_due_in script s kinds.Done = is_started s.phase && blockers_in script s == 0
is_due_in script s kind = true

-- the kind, where it is due
abbrev pub if_due : Plan → Situation → Kind → Option Kind
if_due script s kind = if is_due_in script s kind then Some kind else None

-- what the seat may make now, if it may make anything; a tick reads what the situation tells
unfoldable pub next_in : Plan → (Situation → ℕ) → Situation → ℕ → Option Kind
next_in script tick s seat = option_and_then (λ way. if_due script s (at_moment (tick s) way)) (way_in script s seat)
