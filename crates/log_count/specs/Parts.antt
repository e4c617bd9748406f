-- What a situation says of a seat, a runner and a job, by its number (this project's own notion).
use Rattle.std.specs.Prelude.{ℕ, ◌-◌, Bool, false, List, length, drop, Option, slice_get, option_and_then}
use Rattle.std.specs.Option.{option_map_or}
use Rattle.task_base.specs.Plan.{Plan}
use Rattle.task_base.specs.declared.script.Action.{Action}
use Rattle.task_traits.specs.declared.traits.Behaviour.{Behaviour}
use Rattle.task_traits.specs.declared.traits.Priority.{Priority}
use Rattle.task_model.specs.Seats.{Running}
use Rattle.task_model.specs.Capacity.{declared_priority}
use Rattle.situation.specs.Situation.{Situation}

-- the actions that the driver has not completed
unfoldable pub actions_in : Plan → Situation → List Action
actions_in script s = drop (length script.actions - s.driver.left) script.actions

-- the priority of a runner
unfoldable pub priority_in : Plan → Situation → ℕ → Priority
priority_in script s runner = option_map_or (λ p. p) (slice_get s.priorities runner) (declared_priority script runner)

-- the task that a seat runs
unfoldable pub runs_in : Situation → ℕ → Option Running
runs_in s seat = option_and_then (λ x. x.runs) (slice_get s.seats seat)

-- how many act steps of it are entered
unfoldable pub acts_in : Situation → ℕ → ℕ
acts_in s seat = option_map_or (λ x. x.acts) (slice_get s.seats seat) 0

-- the priority that it was taken with
unfoldable pub taken_in : Situation → ℕ → Option Priority
taken_in s seat = option_and_then (λ x. x.taken) (slice_get s.seats seat)

-- from when its open scope counts
unfoldable pub scope_in : Situation → ℕ → Option ℕ
scope_in s seat = option_and_then (λ x. x.scope) (slice_get s.seats seat)

-- its behaviour in effect
unfoldable pub behaviour_in : Situation → ℕ → Option Behaviour
behaviour_in s seat = option_and_then (λ x. x.behaviour) (slice_get s.seats seat)

-- the job that a seat is inside
unfoldable pub job_in : Situation → ℕ → Option ℕ
job_in s seat = option_and_then (λ x. x.job) (slice_get s.seats seat)

-- the reply to a job's post
unfoldable pub reply_in : Situation → ℕ → Option Bool
reply_in s j = option_and_then (λ x. x.reply) (slice_get s.jobs j)

-- a job is cancelled
unfoldable pub is_cancelled_in : Situation → ℕ → Bool
is_cancelled_in s j = option_map_or (λ x. x.cancelled) (slice_get s.jobs j) false

-- how many items of a job are claimed
unfoldable pub claimed_in : Situation → ℕ → ℕ
claimed_in s j = option_map_or (λ x. x.claims) (slice_get s.jobs j) 0

-- the cell of a sequenced or single-thread runner; a task of a parallel runner finds 0
unfoldable pub cell_in : Situation → ℕ → ℕ
cell_in s i = option_map_or (λ v. v) (slice_get s.cells i) 0
