-- The one way on that a seat has, but for the moment of a tick (this project's own rule).
use Rattle.std.specs.Prelude.{ℕ, ◌==◌, Bool, true, not, ◌&&◌, nat_le, is_none, if◌then◌else◌, List, length, filter, map, Option, Some, None, slice_get, option_and_then}
use Rattle.std.specs.List.{list_all}
use Rattle.std.specs.Option.{option_map, option_map_or}
use Rattle.task_base.specs.declared.limits.TheConstants.{LAST_MOMENT}
use Rattle.task_base.specs.Plan.{Plan}
use Rattle.task_base.specs.Steps.{is_act}
use Rattle.task_base.specs.declared.step.Step.{Step}
use Rattle.task_base.specs.declared.step.Step.TheVariants as steps
use Rattle.task_base.specs.declared.source.TaskSource.{TaskSource}
use Rattle.task_base.specs.declared.source.TaskSource.TheVariants.{Sequence, Job}
use Rattle.task_base.specs.declared.entry.Entry.{Entry}
use Rattle.task_base.specs.declared.entry.Kind.{Kind}
use Rattle.task_base.specs.declared.entry.Kind.TheVariants as kinds
use Rattle.task_base.specs.declared.script.Action.{Action}
use Rattle.task_base.specs.declared.script.Action.TheVariants as actions
use Rattle.task_model.specs.Refusal.{is_refused, is_job_forbidden, is_closed}
use Rattle.task_model.specs.Sequences.{head_of}
use Rattle.task_model.specs.Seats.{Running, running, holding, steps_of, acts_done, is_quiet, worker_seats}
use Rattle.task_model.specs.Cells.{cell_of, main_cell_of}
use Rattle.task_model.specs.Jobs.{claimed, may_enter, free_id, reply_of, is_empty, is_cancelled}
use Rattle.task_model.specs.Sources.{best_of}
use Rattle.task_model.specs.Phase.{phase_of, is_started}
use Rattle.task_model.specs.Time.{now_of}
use Rattle.task_model.specs.Blockers.{blockers_of}
use Rattle.task_model.specs.MainQueues.{Front, chosen_of}
use Rattle.hist_model.specs.Views.{own_entries}
use Rattle.hist_model.specs.Script.{current, is_finished}
use Rattle.hist_model.specs.Laws.Progress.{end_of, step_of}

-- the kind, with the moment of a tick left out
abbrev pub but_moment : Kind → Kind
but_moment (kinds.Tick now) = kinds.Tick 0
but_moment kind = kind

-- into the job: the least number that nobody inside has, and the least unclaimed item
abbrev pub way_into : Plan → List Entry → ℕ → Option Kind
way_into script past j = option_map (λ id. kinds.JobTake j id (claimed past j)) (free_id script past j)

-- what takes a source: the head of a sequence, which finds the sequence's cell, or an item of a job
abbrev pub way_to_take : Plan → List Entry → TaskSource → Option Kind
way_to_take script past (Sequence s) = option_map (λ r. kinds.Take r.posted.task r.posted.home (cell_of script past s)) (head_of script past s)
way_to_take script past (Job j) = way_into script past j

-- what takes the chosen front, which finds its queue's cell; or that there is none
abbrev pub way_to_front : List Entry → Option Front → Kind
way_to_front past (Some f) = kinds.MainTake f.task f.queue (main_cell_of past f.queue)
way_to_front past None = kinds.MainNone

-- what a driver that runs and holds nothing does at an action that has made these entries
abbrev pub way_of_action : Plan → List Entry → Action → List Entry → Option Kind
way_of_action script past (actions.Post t r d) made = Some (kinds.Post t r d (not (is_refused script past r d)))
way_of_action script past (actions.Main t q d) made = Some (kinds.Main t q d (not (is_closed past q)))
way_of_action script past (actions.Tick count) made = Some (kinds.Tick 0)
way_of_action script past (actions.Policy p) made = Some (kinds.Policy p)
way_of_action script past (actions.Reprio r p) made = Some (kinds.Reprio r p)
way_of_action script past (actions.Fence q a) made = Some (kinds.Fence q a)
way_of_action script past (actions.Unfence q) made = Some (kinds.Unfence q)
way_of_action script past (actions.Vote q v o) made = Some (kinds.Vote q v o)
way_of_action script past (actions.Rank q c) made = Some (kinds.Rank q c)
way_of_action script past (actions.Close q) made = Some (kinds.Close q)
way_of_action script past (actions.Pump count) made = Some (way_to_front past (chosen_of script past))
way_of_action script past actions.Flush made = Some kinds.Idle
way_of_action script past (actions.StartJob j) made = Some (kinds.JobPost j (not (is_job_forbidden script past j)))
way_of_action script past (actions.Join j) made = if may_enter script past j then way_into script past j else option_map (kinds.Joined j) (reply_of script past j)
way_of_action script past (actions.Cancel j) made = Some (if length made == 0 then kinds.JobCancel j else kinds.Cancelled j)
way_of_action script past actions.Shutdown made = Some (if length made == 0 then kinds.Shutdown else kinds.Done)

-- what an act step of a task enters, with the reply that a post has
abbrev pub way_of_step : Plan → List Entry → ℕ → Step → Option Kind
way_of_step script past t (steps.Post u r d) = Some (kinds.Post u r d (not (is_refused script past r d)))
way_of_step script past t (steps.Main u q d) = Some (kinds.Main u q d (not (is_closed past q)))
way_of_step script past t (steps.Block scope) = Some (kinds.Enter t scope)
way_of_step script past t steps.Unblock = Some (kinds.Leave t)
way_of_step script past t step = None

-- what a seat does that runs a task: its next act step, or its end
abbrev pub way_of_task : Plan → List Entry → ℕ → Running → Option Kind
way_of_task script past seat w =
    option_map_or (way_of_step script past w.task) (slice_get (filter is_act (steps_of script w.task)) (acts_done past seat)) (Some (end_of script w))

-- what a seat does that runs and holds nothing: the driver by its script, a worker by its best source
abbrev pub way_of_free : Plan → List Entry → ℕ → Option Kind
way_of_free script past seat =
    if seat == 0 then option_and_then (λ c. way_of_action script past c.action c.made) (current script (own_entries 0 past))
    else option_and_then (λ c. way_to_take script past c.source) (best_of script past seat)

-- the one entry that a seat may make, where it may make one
unfoldable pub way_on : Plan → List Entry → ℕ → Option Kind
way_on script past seat =
    option_map_or (way_of_task script past seat) (running past seat)
    (option_map_or (λ h. Some (step_of script past seat h)) (holding past seat) (way_of_free script past seat))

-- the seats of a log, in order
abbrev pub seats_of : List Entry → List ℕ
seats_of log = map (λ e. e.seat) log

-- what an entry that is the way on waits for has come
abbrev pub is_due : Plan → List Entry → Kind → Bool
is_due script past (kinds.Tick now) = nat_le (now_of past) now && nat_le now LAST_MOMENT
is_due script past (kinds.Take task runner found) = not (is_finished script past)
is_due script past (kinds.JobTake job id item) = not (is_finished script past)
is_due script past (kinds.Cancelled job) = is_cancelled past job && is_empty script past job
is_due script past (kinds.Joined job reply) = is_empty script past job
is_due script past kinds.Idle = is_quiet script past && list_all (λ worker. is_none (best_of script past worker)) (worker_seats script)
is_due script past kinds.Done = is_started (phase_of past) && blockers_of script past == 0
is_due script past kind = true
