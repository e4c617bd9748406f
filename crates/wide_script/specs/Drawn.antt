-- What is drawn: what a script declares, and what its driver does (this project's own rules).
use Rattle.std.specs.Prelude.{ℕ, ◌+◌, ◌-◌, ◌*◌, ◌/◌, ◌%◌, ◌==◌, Bool, true, false, not, ◌&&◌, ◌||◌, nat_lt, if◌then◌else◌}
use Rattle.std.specs.Prelude.{List, [], ◌∷◌, ◌++◌, map, flat_map}
use Rattle.std.specs.List.{range_with_len}
use Rattle.task_base.specs.Plan.{Plan, JobPlan}
use Rattle.task_base.specs.declared.policy.Policy.{Policy}
use Rattle.task_base.specs.declared.policy.Policy.TheVariants as policies
use Rattle.task_base.specs.declared.script.Action.{Action}
use Rattle.task_base.specs.declared.script.Action.TheVariants as actions
use Rattle.task_base.specs.declared.script.FenceAt.{FenceAt}
use Rattle.task_base.specs.declared.script.FenceAt.TheVariants as fences
use Rattle.task_base.specs.declared.script.MainQueue.{MainQueue}
use Rattle.task_base.specs.declared.script.Runner.{Runner}
use Rattle.task_base.specs.declared.script.RunnerKind.{RunnerKind}
use Rattle.task_base.specs.declared.script.RunnerKind.TheVariants.{Parallel, Sequenced, Single}
use Rattle.task_base.specs.declared.step.Scope.{Scope}
use Rattle.task_base.specs.declared.step.Scope.TheVariants.{May, Will}
use Rattle.task_base.specs.declared.step.Step.{Step}
use Rattle.task_base.specs.declared.step.Step.TheVariants as steps
use Rattle.task_traits.specs.declared.traits.Behaviour.{Behaviour}
use Rattle.task_traits.specs.declared.traits.Behaviour.TheVariants.{ContinueOnShutdown, SkipOnShutdown, BlockShutdown}
use Rattle.task_traits.specs.declared.traits.Priority.{Priority}
use Rattle.task_traits.specs.declared.traits.Priority.TheVariants.{BestEffort, UserVisible, UserBlocking}
use Rattle.wide_script.specs.Draws.{Drawing, number_at, number_of_task, number_of_turn, one_of}
use Rattle.wide_script.specs.declared.goals.Goal.{Goal}
use Rattle.wide_script.specs.declared.goals.Goal.TheVariants as goals

-- those of the values beside which it is said that they are there
abbrev pub chosen : {A : Type 0} → List (Bool × A) → List A
chosen [] = []
chosen (choice ∷ choices) = if choice.0 then choice.1 ∷ chosen choices else chosen choices

-- ---- words

abbrev pub priority_by : ℕ → Priority
priority_by n = if n == 0 then BestEffort else if n == 1 then UserVisible else UserBlocking

abbrev pub behaviour_by : ℕ → Behaviour
behaviour_by n = if n == 0 then ContinueOnShutdown else if n == 1 then SkipOnShutdown else BlockShutdown

abbrev pub policy_by : ℕ → Policy
policy_by n = if n == 0 then policies.All else if n == 1 then policies.Foreground else policies.Nothing

abbrev pub fence_by : ℕ → FenceAt
fence_by n = if n == 0 then fences.Now else fences.Start

abbrev pub scope_by : ℕ → Scope
scope_by n = if n == 0 then May else Will

-- ---- what is declared

-- two to five workers
abbrev pub workers_of : Drawing → ℕ
workers_of d = 2 + one_of 4 (number_at d 0) 0

-- the foreground group runs one to four at once
abbrev pub foreground_of : Drawing → ℕ
foreground_of d = 1 + one_of 4 (number_at d 0) 7

-- of which this many are of best effort
abbrev pub best_of : Drawing → ℕ
best_of d = 1 + one_of (foreground_of d) (number_at d 0) 14

-- two runners of four are parallel, one is sequenced, and one has a seat of its own
abbrev pub kind_by : ℕ → ℕ → RunnerKind
kind_by workers x = if one_of 4 x 0 == 3 then Single (1 + one_of workers x 7) else if one_of 4 x 0 == 2 then Sequenced else Parallel

-- a runner, on which tasks may block where its number is even
unfoldable pub runner_of : Drawing → ℕ → Runner
runner_of d r = record {
  kind = kind_by (workers_of d) (number_at d (2 + r));
  traits = record {
    priority = priority_by (one_of 3 (number_at d (2 + r)) 14);
    behaviour = behaviour_by (one_of 3 (number_at d (2 + r)) 21);
    may_block = r % 2 == 0;
  };
}

-- a main queue, with one voter more than its number says
unfoldable pub queue_of : Drawing → ℕ → MainQueue
queue_of d q = record { class = one_of 8 (number_at d 8) (7 * q); voters = q + 1 }

-- a job, of up to 12 items
unfoldable pub job_of : Drawing → ℕ → JobPlan
job_of d j = record {
  priority = priority_by (one_of 3 (number_at d (9 + j)) 0);
  behaviour = behaviour_by (one_of 3 (number_at d (9 + j)) 7);
  items = one_of 13 (number_at d (9 + j)) 14;
  cap = 1 + one_of 3 (number_at d (9 + j)) 21;
  steps = steps.Mul (one_of 8 (number_at d (9 + j)) 24) ∷ steps.Add (one_of 16 (number_at d (9 + j)) 27) ∷ [];
}

-- ---- the tasks

-- one task of four opens a scope
abbrev pub has_scope : Drawing → ℕ → Bool
has_scope d t = d.parts.scopes && one_of 4 (number_of_task d t) 0 == 0

-- where a task is posted to: one that opens a scope to a runner where it may, of the others one of three to a main queue
unfoldable pub goal_of : Drawing → ℕ → Goal
goal_of d t =
    if has_scope d t then goals.Runner (2 * one_of 3 (number_of_task d t) 3)
    else if d.parts.main && one_of 3 (number_of_task d t) 3 == 0 then goals.Queue (one_of 3 (number_of_task d t) 6)
    else goals.Runner (one_of 6 (number_of_task d t) 9)

-- the delay of one task of four, up to 700 microseconds
abbrev pub delay_of : Drawing → ℕ → ℕ
delay_of d t = if d.parts.delays && one_of 4 (number_of_task d t) 24 == 0 then 100 * one_of 8 (number_of_task d t) 27 else 0

-- one task of four is posted by the next one, if there is one, and each other one by the driver
abbrev pub is_posted_by_next : Drawing → ℕ → Bool
is_posted_by_next d t = nat_lt (t + 1) d.size && one_of 4 (number_of_task d t) 12 == 0

-- the post of a task to its goal, as a step
abbrev pub step_to : ℕ → ℕ → Goal → Step
step_to t delay (goals.Runner runner) = steps.Post t runner delay
step_to t delay (goals.Queue queue) = steps.Main t queue delay

-- the same as an action
abbrev pub action_to : ℕ → ℕ → Goal → Action
action_to t delay (goals.Runner runner) = actions.Post t runner delay
action_to t delay (goals.Queue queue) = actions.Main t queue delay

-- what a task computes
abbrev pub computes_by : ℕ → Step
computes_by x =
    if one_of 4 x 17 == 1 then steps.Mul (one_of 1000 x 14)
    else if one_of 4 x 17 == 2 then steps.Set (one_of 1000 x 14)
    else steps.Add (one_of 1000 x 14)

-- what a task does: it computes, in a scope where it opens one, and posts the task before it where it is to
unfoldable pub steps_of : Drawing → ℕ → List Step
steps_of d t = chosen (
    (has_scope d t, steps.Block (scope_by (one_of 2 (number_of_task d t) 19)))
    ∷ (true, computes_by (number_of_task d t))
    ∷ (has_scope d t, steps.Unblock)
    ∷ (nat_lt 0 t && is_posted_by_next d (t - 1), step_to (t - 1) (delay_of d (t - 1)) (goal_of d (t - 1)))
    ∷ [])

-- ---- what the driver does

-- before the post of which task something more stands: one place in each quarter of the tasks
abbrev pub cut : Drawing → ℕ → ℕ
cut d n = d.size * (4 * n + one_of 4 (number_at d 12) (7 * n)) / 16

-- how a job ends: it is joined, cancelled, cancelled and then joined, or left
abbrev pub end_of : Drawing → ℕ → ℕ
end_of d j = one_of 4 (number_at d 13) (7 * j)

abbrev pub is_cancelled : Drawing → ℕ → Bool
is_cancelled d j = d.parts.jobs && (end_of d j == 1 || end_of d j == 2)

abbrev pub is_joined : Drawing → ℕ → Bool
is_joined d j = d.parts.jobs && (end_of d j == 0 || end_of d j == 2)

-- when shutdown starts: at the last cut, at the end, as likely again, or never
abbrev pub stop_of : Drawing → ℕ
stop_of d = if d.parts.shutdown then one_of 4 (number_at d 14) 0 else 3

-- what a turn does with the pool or the clock, if it does
abbrev pub pool_turn : Drawing → ℕ → ℕ → Bool × Action
pool_turn d y kind =
    if kind == 2 then (true, actions.Policy (policy_by (one_of 3 y 7)))
    else if kind == 3 then (true, actions.Reprio (one_of 6 y 7) (priority_by (one_of 3 y 14)))
    else if kind == 4 then (true, actions.Flush)
    else (d.parts.delays, actions.Tick (1 + one_of 3 y 7))

-- what it does with a main queue
abbrev pub queue_turn : ℕ → ℕ → Action
queue_turn y kind =
    if kind == 5 then actions.Fence (one_of 3 y 7) (fence_by (one_of 2 y 14))
    else if kind == 6 then actions.Unfence (one_of 3 y 7)
    else if kind == 7 then actions.Vote (one_of 3 y 7) (one_of (one_of 3 y 7 + 1) y 14) false
    else if kind == 8 then actions.Vote (one_of 3 y 7) (one_of (one_of 3 y 7 + 1) y 14) true
    else if kind == 9 then actions.Rank (one_of 3 y 7) (one_of 8 y 14)
    else if kind == 10 then actions.Close (one_of 3 y 7)
    else actions.Pump (1 + one_of 8 y 14)

-- what the driver does before the post of a task, if anything: a queue is closed by one of four turns that could close one
unfoldable pub turn_by : Drawing → ℕ → ℕ → Bool × Action
turn_by d y kind =
    if nat_lt kind 5 then pool_turn d y kind
    else (d.parts.main && nat_lt kind 13 && (not (kind == 10) || one_of 4 y 14 == 0), queue_turn y kind)

-- all that it does up to the post of a task
unfoldable pub actions_at : Drawing → ℕ → List Action
actions_at d t = chosen (
    (d.parts.jobs && t == cut d 0, actions.StartJob 0)
    ∷ (d.parts.jobs && t == cut d 1, actions.StartJob 1)
    ∷ (t == cut d 2 && is_cancelled d 0, actions.Cancel 0)
    ∷ (t == cut d 2 && is_joined d 0, actions.Join 0)
    ∷ (t == cut d 3 && stop_of d == 0, actions.Shutdown)
    ∷ turn_by d (number_of_turn d t) (one_of 16 (number_of_turn d t) 0)
    ∷ (not (is_posted_by_next d t), action_to t (delay_of d t) (goal_of d t))
    ∷ [])

-- what it does after the posts
unfoldable pub last_actions : Drawing → List Action
last_actions d = chosen (
    (d.parts.jobs, actions.StartJob 2)
    ∷ (is_cancelled d 1, actions.Cancel 1)
    ∷ (is_joined d 1, actions.Join 1)
    ∷ (d.parts.main, actions.Pump d.size)
    ∷ (one_of 2 (number_at d 14) 7 == 0, actions.Flush)
    ∷ (stop_of d == 1 || stop_of d == 2, actions.Shutdown)
    ∷ (is_cancelled d 2, actions.Cancel 2)
    ∷ (is_joined d 2, actions.Join 2)
    ∷ [])

-- ---- the script

-- three of a sort that is to be there, and else none
abbrev pub three_if : Bool → ℕ
three_if there = if there then 3 else 0

-- the script that is drawn
unfoldable pub drawn : Drawing → Plan
drawn d = record {
  workers = workers_of d;
  foreground = foreground_of d;
  foreground_best = best_of d;
  background = one_of 3 (number_at d 0) 21;
  threshold = 500 * one_of 4 (number_at d 1) 0;
  runners = map (runner_of d) (range_with_len 0 6);
  queues = map (queue_of d) (range_with_len 0 (three_if d.parts.main));
  tasks = map (steps_of d) (range_with_len 0 d.size);
  jobs = map (job_of d) (range_with_len 0 (three_if d.parts.jobs));
  actions = flat_map (actions_at d) (range_with_len 0 d.size) ++ last_actions d;
  is_open = false;
}
