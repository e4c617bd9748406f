-- The situation after an entry, by the situation before it and the entry alone (this project's own notion).
use Rattle.std.specs.Prelude.{ℕ, ◌+◌, ◌-◌, ◌==◌, Bool, true, not, ◌&&◌, ◌||◌, nat_lt, nat_le, if◌then◌else◌, List, [], ◌∷◌, ◌++◌, length, map, filter, find}
use Rattle.std.specs.Prelude.{Option, Some, None, is_some, option_and_then}
use Rattle.std.specs.Option.{option_map}
use Rattle.std.specs.List.{range_with_len}
use Rattle.task_base.specs.Plan.{Plan}
use Rattle.task_base.specs.Runners.{sequence_of}
use Rattle.task_base.specs.declared.entry.Kind.{Kind}
use Rattle.task_base.specs.declared.entry.Kind.TheVariants as kinds
use Rattle.task_base.specs.declared.script.Action.{Action}
use Rattle.task_base.specs.declared.script.Action.TheVariants as actions
use Rattle.task_base.specs.declared.source.TaskSource.TheVariants.{Sequence}
use Rattle.task_traits.specs.Behaviour.{forbids}
use Rattle.task_traits.specs.declared.traits.Behaviour.{Behaviour}
use Rattle.task_traits.specs.declared.traits.Priority.{Priority}
use Rattle.list_laws.specs.Lists.{holds_of}
use Rattle.pool_laws.specs.Room.{share}
use Rattle.task_model.specs.Blockers.{is_block, is_skip}
use Rattle.task_model.specs.Capacity.{priority_after}
use Rattle.task_model.specs.Jobs.{cancels, claims, items_of}
use Rattle.task_model.specs.Phase.{phase_after}
use Rattle.task_model.specs.Policies.{policy_after}
use Rattle.task_model.specs.Refusal.{effective_at, behaviour_of_job}
use Rattle.task_model.specs.Seats.{Running, running_after, acts_after, runs_of, all_seats}
use Rattle.task_model.specs.Time.{now_after}
use Rattle.hist_model.specs.Script.{is_joined, is_main_none, is_main_end}
use Rattle.hist_model.specs.Laws.Agenda.{Agenda, agenda_from}
use Rattle.situation.specs.Line.{Waiter, Task, OfJob, waits_at}
use Rattle.situation.specs.Onward.{from_after, job_after, reply_after, stays, coming, unripe_stays, put_in, new_unripe}
use Rattle.situation.specs.Situation.{DriverAt, SeatAt, JobAt, Unripe, Situation, progress_of_first}
use Rattle.log_count.specs.Parts.{actions_in, priority_in, runs_in, acts_in, taken_in, scope_in, behaviour_in, job_in, reply_in, is_cancelled_in}
use Rattle.log_count.specs.Parts.{claimed_in, cell_in}

-- ---- the driver

-- where the driver is, by what it has left to do
abbrev pub driver_of : Agenda → DriverAt
driver_of a = record { left = length a.actions; made = progress_of_first a.actions a.made }

-- one more entry completes an action of which so much is made
abbrev pub completes_at : Action → ℕ → Kind → Bool
completes_at (actions.Tick count) made kind = made + 1 == count
completes_at (actions.Pump n) made kind = is_main_none kind || (is_main_end kind && nat_le n (made + 1))
completes_at (actions.Join job) made kind = is_joined kind
completes_at (actions.Cancel job) made kind = made + 1 == 2
completes_at actions.Shutdown made kind = made + 1 == 2
completes_at action made kind = true

-- how much of an action is made after one more entry
abbrev pub made_after : Action → ℕ → Kind → ℕ
made_after (actions.Tick count) made kind = made + 1
made_after (actions.Pump n) made kind = made + (if is_main_end kind then 1 else 0)
made_after (actions.Cancel job) made kind = made + 1
made_after actions.Shutdown made kind = made + 1
made_after action made kind = 0

-- where the driver is after an entry of its own, by the actions that it had left, so much of the first being made
abbrev pub driver_after : List Action → ℕ → Kind → DriverAt
driver_after [] made kind = record { left = 0; made = 0 }
driver_after (action ∷ rest) made kind =
    if completes_at action made kind
    then driver_of (agenda_from rest [])
    else record { left = length (action ∷ rest); made = made_after action made kind }

-- ---- seats

-- what a seat runs after an entry of this seat
abbrev pub runs_after : Situation → ℕ → Kind → ℕ → Option Running
runs_after s by kind seat = if by == seat then running_after (runs_in s seat) kind else runs_in s seat

-- the priority that a seat's task is taken with, after an entry of its own
abbrev pub taken_by : Plan → Situation → Option Priority → Kind → Option Priority
taken_by script s now (kinds.Take task runner found) = Some (priority_in script s runner)
taken_by script s now (kinds.MainTake task queue found) = None
taken_by script s now (kinds.End task left) = None
taken_by script s now (kinds.MainEnd task left) = None
taken_by script s now kind = now

-- the delay of a task that waits
abbrev pub delay_of_waiter : Waiter → ℕ
delay_of_waiter (Task task home delay) = delay
delay_of_waiter (OfJob job) = 0

-- the behaviour in effect of a task that is taken: it stands first of its sequence in the line
abbrev pub behaviour_of_taken : Plan → Situation → ℕ → ℕ → Option Behaviour
behaviour_of_taken script s task runner =
    option_map (λ w. effective_at script runner (delay_of_waiter w)) (find (waits_at script (Sequence (sequence_of script runner task))) s.line)

-- the behaviour in effect of a seat's task after an entry of its own
abbrev pub behaviour_by : Plan → Situation → Option Behaviour → Kind → Option Behaviour
behaviour_by script s now (kinds.Take task runner found) = behaviour_of_taken script s task runner
behaviour_by script s now (kinds.MainTake task queue found) = None
behaviour_by script s now (kinds.End task left) = None
behaviour_by script s now (kinds.MainEnd task left) = None
behaviour_by script s now kind = now

-- what a seat does after an entry of this seat
abbrev pub seat_after : Plan → Situation → ℕ → Kind → ℕ → SeatAt
seat_after script s by kind seat = record {
  runs = runs_after s by kind seat;
  acts = if is_some (runs_after s by kind seat) then (if by == seat then acts_after (acts_in s seat) kind else acts_in s seat) else 0;
  taken = if is_some (runs_after s by kind seat) then (if by == seat then taken_by script s (taken_in s seat) kind else taken_in s seat) else None;
  scope = option_and_then (λ w. from_after script s.now (now_after s.now kind) w.task (scope_in s seat) kind) (runs_after s by kind seat);
  behaviour = if by == seat then behaviour_by script s (behaviour_in s seat) kind else behaviour_in s seat;
  job = if by == seat then job_after (job_in s seat) kind else job_in s seat;
}

-- ---- jobs

-- how many items of a job are claimed after an entry
abbrev pub claims_after : Situation → Kind → ℕ → ℕ
claims_after s kind j = claimed_in s j + (if claims j kind then 1 else 0)

-- what is known of a job after an entry
abbrev pub job_known_after : Situation → Kind → ℕ → JobAt
job_known_after s kind j = record {
  reply = reply_after j (reply_in s j) kind;
  cancelled = is_cancelled_in s j || cancels j kind;
  claims = claims_after s kind j;
}

-- a job may be entered after an entry, were there room inside
abbrev pub is_open_after : Plan → Situation → Kind → ℕ → Bool
is_open_after script s kind j =
    not (is_cancelled_in s j || cancels j kind) && not (forbids (phase_after s.phase kind) (behaviour_of_job script j))
    && nat_lt (claims_after s kind j) (items_of script j)

-- ---- what waits

abbrev pub line_after : Plan → Situation → Kind → List Waiter
line_after script s kind =
    filter (stays script (phase_after s.phase kind) (claims_after s kind) kind) s.line
    ++ coming script (phase_after s.phase kind) (is_open_after script s kind) (reply_in s) s.unripe kind

abbrev pub unripe_after : Plan → Situation → Kind → List Unripe
unripe_after script s kind =
    put_in (new_unripe script s.now (phase_after s.phase kind) kind) (filter (unripe_stays script (phase_after s.phase kind) kind) s.unripe)

-- ---- cells, and what shutdown waits for

-- the cell of a runner after an entry of this seat
abbrev pub cell_by : Plan → Situation → ℕ → Kind → ℕ → ℕ
cell_by script s by (kinds.End task left) i = if holds_of (runs_of script i) (runs_in s by) then left else cell_in s i
cell_by script s by kind i = cell_in s i

-- the block tasks that have not ended, after an entry of this seat
abbrev pub blocks_after : Plan → Situation → ℕ → Kind → ℕ
blocks_after script s by (kinds.Post task runner delay true) = s.blocks + share (is_block (effective_at script runner delay))
blocks_after script s by (kinds.End task left) = s.blocks - share (holds_of is_block (behaviour_in s by))
blocks_after script s by kind = s.blocks

-- the skip tasks that run, after an entry of this seat
abbrev pub skips_after : Plan → Situation → ℕ → Kind → ℕ
skips_after script s by (kinds.Take task runner found) = s.skips + share (holds_of is_skip (behaviour_of_taken script s task runner))
skips_after script s by (kinds.End task left) = s.skips - share (holds_of is_skip (behaviour_in s by))
skips_after script s by kind = s.skips

-- ---- all together

-- the situation after an entry of this seat and kind
unfoldable pub after_in : Plan → Situation → ℕ → Kind → Situation
after_in script s by kind = record {
  driver = if by == 0 then driver_after (actions_in script s) s.driver.made kind else s.driver;
  now = now_after s.now kind;
  phase = phase_after s.phase kind;
  policy = policy_after s.policy kind;
  priorities = map (λ runner. priority_after runner (priority_in script s runner) kind) (range_with_len 0 (length script.runners));
  seats = map (seat_after script s by kind) (all_seats script);
  line = line_after script s kind;
  unripe = unripe_after script s kind;
  jobs = map (job_known_after s kind) (range_with_len 0 (length script.jobs));
  cells = map (cell_by script s by kind) (range_with_len 0 (length script.runners));
  blocks = blocks_after script s by kind;
  skips = skips_after script s by kind;
}
