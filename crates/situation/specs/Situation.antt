-- The situation: what of a past decides which futures it has (this project's own notion).
use Rattle.std.specs.Prelude.{ℕ, ◌+◌, Bool, true, false, ◌&&◌, if◌then◌else◌, List, [], ◌∷◌, length, map, filter, Option, None, is_none, is_some}
use Rattle.std.specs.Prelude.{option_and_then}
use Rattle.std.specs.Option.{option_map}
use Rattle.std.specs.List.{list_all, range_with_len}
use Rattle.task_base.specs.Plan.{Plan}
use Rattle.task_base.specs.declared.entry.Entry.{Entry}
use Rattle.task_base.specs.declared.policy.Policy.{Policy}
use Rattle.task_base.specs.declared.script.Action.{Action}
use Rattle.task_base.specs.declared.script.Action.TheVariants as actions
use Rattle.task_base.specs.declared.step.Step.{Step}
use Rattle.task_base.specs.declared.step.Step.TheVariants as steps
use Rattle.task_traits.specs.declared.phase.Phase.{Phase}
use Rattle.task_traits.specs.declared.traits.Priority.{Priority}
use Rattle.list_laws.specs.Lists.{count}
use Rattle.list_laws.specs.Sorts.{sort_by}
use Rattle.task_model.specs.Time.{now_of, tick_from}
use Rattle.task_model.specs.Phase.{phase_of}
use Rattle.task_model.specs.Policies.{policy_of}
use Rattle.task_model.specs.Posts.{Posted, is_delayed, posts, ripens_before}
use Rattle.task_model.specs.Sequences.{may_start}
use Rattle.task_model.specs.Seats.{Running, running, holding, acts_done, all_seats}
use Rattle.task_model.specs.Cells.{cell_of}
use Rattle.task_model.specs.Capacity.{OpenScope, open_scope, scope_counts, priority_of, taken_with}
use Rattle.task_model.specs.Jobs.{job_post_of, is_cancelled, claimed}
use Rattle.task_model.specs.Blockers.{open_blocks, running_skips}
use Rattle.task_model.specs.Refusal.{effective_at}
use Rattle.task_traits.specs.declared.traits.Behaviour.{Behaviour}
use Rattle.pool_laws.specs.Posts.{post_of}
use Rattle.hist_model.specs.Views.{own_entries}
use Rattle.hist_model.specs.Script.{is_main_end}
use Rattle.hist_model.specs.Laws.Agenda.{Agenda, agenda}
use Rattle.situation.specs.Line.{Waiter, line_of}

-- ---- the driver

-- how much of an action is made: the ticks of a tick, the main tasks of a pump that have ended, and the first entry of an
-- action that has two
abbrev pub progress : Action → List Entry → ℕ
progress (actions.Tick count) made = length made
progress (actions.Pump n) made = count (λ e. is_main_end e.kind) made
progress (actions.Cancel job) made = length made
progress actions.Shutdown made = length made
progress action made = 0

-- how much of the first of some actions is made
abbrev pub progress_of_first : List Action → List Entry → ℕ
progress_of_first [] made = 0
progress_of_first (action ∷ rest) made = progress action made

-- where the driver is: how many actions are not complete, and how much of the first of them is made
pub record DriverAt : Type 0 where
  pub left : ℕ
  pub made : ℕ

-- what the driver has left to do after a past
abbrev pub agenda_after_past : Plan → List Entry → Agenda
agenda_after_past script past = agenda script (own_entries 0 past)

abbrev pub driver_at : Plan → List Entry → DriverAt
driver_at script past = record {
  left = length (agenda_after_past script past).actions;
  made = progress_of_first (agenda_after_past script past).actions (agenda_after_past script past).made;
}

-- ---- the seats

-- the moment from which an open scope counts: 0 where it does by now
abbrev pub counts_from : Plan → List Entry → OpenScope → ℕ
counts_from script past opened = if scope_counts script past opened then 0 else opened.since + script.threshold

-- of the task that a seat runs: its act steps that are entered, the priority that it was taken with, from when its open scope
-- counts, and its behaviour in effect
abbrev pub acts_now : List Entry → ℕ → ℕ
acts_now past seat = if is_some (running past seat) then acts_done past seat else 0

abbrev pub taken_now : Plan → List Entry → ℕ → Option Priority
taken_now script past seat = if is_some (running past seat) then taken_with script past seat else None

abbrev pub scope_now : Plan → List Entry → ℕ → Option ℕ
scope_now script past seat = option_and_then (λ w. option_map (counts_from script past) (open_scope past w.task)) (running past seat)

abbrev pub behaviour_now : Plan → List Entry → ℕ → Option Behaviour
behaviour_now script past seat =
    option_and_then (λ w. option_map (λ p. effective_at script p.home p.delay) (post_of past w.task)) (running past seat)

-- the job that a seat is inside
abbrev pub job_now : List Entry → ℕ → Option ℕ
job_now past seat = option_map (λ h. h.job) (holding past seat)

-- what a seat does
pub record SeatAt : Type 0 where
  pub runs : Option Running
  pub acts : ℕ
  pub taken : Option Priority
  pub scope : Option ℕ
  pub behaviour : Option Behaviour
  pub job : Option ℕ

abbrev pub seat_at : Plan → List Entry → ℕ → SeatAt
seat_at script past seat = record {
  runs = running past seat;
  acts = acts_now past seat;
  taken = taken_now script past seat;
  scope = scope_now script past seat;
  behaviour = behaviour_now script past seat;
  job = job_now past seat;
}

-- ---- the jobs

-- the reply to a job's post, if it was posted
abbrev pub job_reply : List Entry → ℕ → Option Bool
job_reply past j = option_map (λ p. p.ok) (job_post_of past j)

-- what is known of a job: the reply to its post, whether it is cancelled, and how many items are claimed
pub record JobAt : Type 0 where
  pub reply : Option Bool
  pub cancelled : Bool
  pub claims : ℕ

abbrev pub job_at : List Entry → ℕ → JobAt
job_at past j = record { reply = job_reply past j; cancelled = is_cancelled past j; claims = claimed past j }

-- ---- what is not ripe

-- an accepted task of the pool that is not ripe: its number, its runner, its delay and its ripe moment
pub record Unripe : Type 0 where
  pub task : ℕ
  pub home : ℕ
  pub delay : ℕ
  pub ripe : ℕ

-- the accepted delayed task has no key by now, and may start in the phase
abbrev pub is_unripe : Plan → List Entry → Posted → Bool
is_unripe script past p = is_delayed p && is_none (tick_from past p.ripe) && may_start script past p

abbrev pub without_place : Posted → Unripe
without_place p = record { task = p.task; home = p.home; delay = p.delay; ripe = p.ripe }

-- the tasks that are not ripe, in the order in which they become ripe
unfoldable pub unripe_of : Plan → List Entry → List Unripe
unripe_of script past = map without_place (sort_by ripens_before (filter (is_unripe script past) (posts past)))

-- ---- all together

-- the situation of a past, but for main queues: where the driver is; the moment, the phase, the policy, and the priorities of
-- the runners; what each seat does; the line of the pool and the tasks that are not ripe, in order; the jobs; the cells of
-- sequenced and single-thread runners; and how many block tasks have not ended and how many skip tasks run
pub record Situation : Type 0 where
  pub driver : DriverAt
  pub now : ℕ
  pub phase : Phase
  pub policy : Policy
  pub priorities : List Priority
  pub seats : List SeatAt
  pub line : List Waiter
  pub unripe : List Unripe
  pub jobs : List JobAt
  pub cells : List ℕ
  pub blocks : ℕ
  pub skips : ℕ

abbrev pub situation_of : Plan → List Entry → Situation
situation_of script past = record {
  driver = driver_at script past;
  now = now_of past;
  phase = phase_of past;
  policy = policy_of past;
  priorities = map (priority_of script past) (range_with_len 0 (length script.runners));
  seats = map (seat_at script past) (all_seats script);
  line = line_of script past;
  unripe = unripe_of script past;
  jobs = map (job_at past) (range_with_len 0 (length script.jobs));
  cells = map (cell_of script past) (range_with_len 0 (length script.runners));
  blocks = open_blocks script past;
  skips = running_skips script past;
}

-- ---- which scripts have no main queues

-- the action is not of a main queue
abbrev pub is_pool_action : Action → Bool
is_pool_action (actions.Main task queue delay) = false
is_pool_action (actions.Fence queue at) = false
is_pool_action (actions.Unfence queue) = false
is_pool_action (actions.Vote queue voter on) = false
is_pool_action (actions.Rank queue class) = false
is_pool_action (actions.Close queue) = false
is_pool_action (actions.Pump count) = false
is_pool_action action = true

-- the step posts to no main queue
abbrev pub is_pool_step : Step → Bool
is_pool_step (steps.Main task queue delay) = false
is_pool_step step = true

-- no action and no step of the script is of a main queue
abbrev pub is_pool_script : Plan → Bool
is_pool_script script = list_all is_pool_action script.actions && list_all (list_all is_pool_step) script.tasks
