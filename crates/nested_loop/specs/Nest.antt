-- What a nest does: each event of its log is determined by those before it. (Chromium's `run_loop.h`, whose loops of type
-- `kNestableTasksAllowed` run tasks, and `sequenced_task_runner.h`, whose `PostNonNestableTask` leaves a task to the
-- outermost loop; that a loop runs a stated number of tasks is this project's own.)
use Rattle.std.specs.Prelude.{◌≡◌, ℕ, ◌+◌, ◌-◌, ◌==◌, nat_lt, Bool, true, false, not, ◌&&◌, if◌then◌else◌, List, [], ◌∷◌, ◌++◌, filter, fold, Option, Some, None, slice_get}
use Rattle.std.specs.List.{list_any, filter_map}
use Rattle.std.specs.Option.{option_map, option_map_or, option_or}
use Rattle.list_laws.specs.Lists.{count, least, then_by}
use Rattle.nested_loop.specs.Plan.{NestPlan}
use Rattle.nested_loop.specs.declared.event.Event.{Event}
use Rattle.nested_loop.specs.declared.event.Event.TheVariants as events
use Rattle.nested_loop.specs.declared.frame.Frame.{Frame}
use Rattle.nested_loop.specs.declared.frame.Frame.TheVariants as frames
use Rattle.nested_loop.specs.declared.nest.NestAction.{NestAction}
use Rattle.nested_loop.specs.declared.nest.NestAction.TheVariants as actions
use Rattle.nested_loop.specs.declared.nest.NestStep.{NestStep}
use Rattle.nested_loop.specs.declared.nest.NestStep.TheVariants as steps

-- ---- kinds of events

-- a loop opens
abbrev pub is_loop : Event → Bool
is_loop (events.Loop depth) = true
is_loop event = false

-- a loop quits
abbrev pub is_quit : Event → Bool
is_quit (events.Quit depth) = true
is_quit event = false

-- this task starts
abbrev pub starts : ℕ → Event → Bool
starts t (events.Start task depth) = task == t
starts t event = false

-- this task is deferred
abbrev pub defers : ℕ → Event → Bool
defers t (events.Defer task) = task == t
defers t event = false

-- the task that the event defers
abbrev pub deferred_by : Event → Option ℕ
deferred_by (events.Defer task) = Some task
deferred_by event = None

-- ---- notions of the past

-- how many loops are open: those that opened, less those that quit
unfoldable pub depth_of : List Event → ℕ
depth_of past = count is_loop past - count is_quit past

-- the task has started
unfoldable pub is_started : List Event → ℕ → Bool
is_started past t = list_any (starts t) past

-- the task was deferred
unfoldable pub was_deferred : List Event → ℕ → Bool
was_deferred past t = list_any (defers t) past

-- a task that was posted to a main queue; its order is the place of its post
pub record NestPosted : Type 0 where
  pub task : ℕ
  pub queue : ℕ
  pub place : ℕ

-- what the event at a place posts
abbrev pub posted_by : ℕ → Event → List NestPosted
posted_by place (events.Post task queue) = record { task = task; queue = queue; place = place } ∷ []
posted_by place event = []

-- what events from a place on post
abbrev pub posted_from : ℕ → List Event → List NestPosted
posted_from place [] = []
posted_from place (event ∷ rest) = posted_by place event ++ posted_from (place + 1) rest

-- the tasks that were posted, in the order of their posts
unfoldable pub posted_tasks : List Event → List NestPosted
posted_tasks past = posted_from 0 past

-- the tasks that were posted, and neither deferred nor started
unfoldable pub waiting_tasks : List Event → List NestPosted
waiting_tasks past = filter (λ p. not (was_deferred past p.task) && not (is_started past p.task)) (posted_tasks past)

-- the tasks that were deferred and have not started, in the order in which they were deferred
unfoldable pub deferred_tasks : List Event → List ℕ
deferred_tasks past = filter (λ t. not (is_started past t)) (filter_map deferred_by past)

-- the class of the queue that a task was posted to
abbrev pub class_of_post : NestPlan → NestPosted → ℕ
class_of_post nest p = option_map_or (λ class. class) (slice_get nest.classes p.queue) 0

-- the first goes before the second: by the class of its queue, then by its order
abbrev pub runs_before : NestPlan → NestPosted → NestPosted → Bool
runs_before nest = then_by (class_of_post nest) (λ p q. nat_lt p.place q.place)

-- the front: the waiting task of the least class of its queue, then of the least order
unfoldable pub front_task : NestPlan → List Event → Option ℕ
front_task nest past = option_map (λ p. p.task) (least (runs_before nest) (waiting_tasks past))

-- ---- what is open

-- the task may start in a nested loop
abbrev pub is_nestable : NestPlan → ℕ → Bool
is_nestable nest t = option_map_or (λ task. task.nestable) (slice_get nest.tasks t) false

-- the steps of a task
abbrev pub steps_of : NestPlan → ℕ → List NestStep
steps_of nest t = option_map_or (λ task. task.steps) (slice_get nest.tasks t) []

-- how many actions were begun, and the loops and tasks that are open, the innermost first
pub record Nesting : Type 0 where
  pub begun : ℕ
  pub frames : List Frame

-- the next step of the innermost task was begun, or outside of all loops the next action
abbrev pub step_begun : ℕ → List Frame → Nesting
step_begun begun [] = record { begun = begun + 1; frames = [] }
step_begun begun (frames.Task task done ∷ outer) = record { begun = begun; frames = frames.Task task (done + 1) ∷ outer }
step_begun begun (frames.Loop bound ended ∷ outer) = record { begun = begun; frames = frames.Loop bound ended ∷ outer }

-- how many tasks an action tells its loop to run
abbrev pub bound_of_action : Option NestAction → ℕ
bound_of_action (Some (actions.Run bound)) = bound
bound_of_action action = 0

-- how many tasks a step tells its loop to run
abbrev pub bound_of_step : Option NestStep → ℕ
bound_of_step (Some (steps.Loop bound)) = bound
bound_of_step step = 0

-- how many tasks a loop that opens now is told to run: the next step or action says so
abbrev pub bound_next : NestPlan → ℕ → List Frame → ℕ
bound_next nest begun [] = bound_of_action (slice_get nest.actions begun)
bound_next nest begun (frames.Task task done ∷ outer) = bound_of_step (slice_get (steps_of nest task) done)
bound_next nest begun (frames.Loop bound ended ∷ outer) = 0

-- with one more loop or task open
abbrev pub entered : Frame → Nesting → Nesting
entered frame nesting = record nesting { frames = frame ∷ nesting.frames }

-- without the innermost one
abbrev pub left : List Frame → List Frame
left [] = []
left (frame ∷ outer) = outer

-- one more task of the innermost loop has ended
abbrev pub task_ended : List Frame → List Frame
task_ended (frames.Loop bound ended ∷ outer) = frames.Loop bound (ended + 1) ∷ outer
task_ended frames = frames

-- what is open after an event
abbrev pub after_event : NestPlan → Nesting → Event → Nesting
after_event nest now (events.Post task queue) = step_begun now.begun now.frames
after_event nest now (events.Say value) = step_begun now.begun now.frames
after_event nest now (events.Loop depth) = entered (frames.Loop (bound_next nest now.begun now.frames) 0) (step_begun now.begun now.frames)
after_event nest now (events.Quit depth) = record now { frames = left now.frames }
after_event nest now (events.Start task depth) = entered (frames.Task task 0) now
after_event nest now (events.End task) = record now { frames = task_ended (left now.frames) }
after_event nest now (events.Defer task) = now

-- what is open after a past: at its start nothing
unfoldable pub nesting_of : NestPlan → List Event → Nesting
nesting_of nest past = fold (after_event nest) (record { begun = 0; frames = [] }) past

-- ---- what comes next

-- what the outermost loop does: the first of the deferred tasks starts, or else the front; where there is none, it quits
abbrev pub outermost_step : Option ℕ → Event
outermost_step (Some task) = events.Start task 1
outermost_step None = events.Quit 1

-- what a nested loop does with the front: it starts where it is nestable, and is deferred where it is not; where there is
-- none, the loop quits
abbrev pub nested_step : NestPlan → ℕ → Option ℕ → Event
nested_step nest depth None = events.Quit depth
nested_step nest depth (Some task) = if is_nestable nest task then events.Start task depth else events.Defer task

-- what the innermost loop does, which runs so many tasks at most and has seen so many of its own end: it quits where those
-- are all, and otherwise runs what there is
abbrev pub loop_step : NestPlan → List Event → ℕ → ℕ → Event
loop_step nest past bound ended =
    if ended == bound then events.Quit (depth_of past)
    else if depth_of past == 1 then outermost_step (option_or (slice_get (deferred_tasks past) 0) (front_task nest past))
    else nested_step nest (depth_of past) (front_task nest past)

-- what a task does: its next step, a loop one deeper, or its end
abbrev pub task_step : ℕ → ℕ → Option NestStep → Event
task_step depth task (Some (steps.Say value)) = events.Say value
task_step depth task (Some (steps.Post posted queue)) = events.Post posted queue
task_step depth task (Some (steps.Loop bound)) = events.Loop (depth + 1)
task_step depth task None = events.End task

-- what the next action does outside of all loops
abbrev pub action_step : NestAction → Event
action_step (actions.Post task queue) = events.Post task queue
action_step (actions.Run bound) = events.Loop 1

-- what the innermost loop or task asks for, or outside of all the next action
abbrev pub asked_by : NestPlan → List Event → ℕ → List Frame → Option Event
asked_by nest past begun [] = option_map action_step (slice_get nest.actions begun)
asked_by nest past begun (frames.Loop bound ended ∷ outer) = Some (loop_step nest past bound ended)
asked_by nest past begun (frames.Task task done ∷ outer) = Some (task_step (depth_of past) task (slice_get (steps_of nest task) done))

-- the event that comes after a past, none where the actions are through
unfoldable pub next_event : NestPlan → List Event → Option Event
next_event nest past = asked_by nest past (nesting_of nest past).begun (nesting_of nest past).frames

-- each of these events is the one that comes after the past and those before it
abbrev pub ComesAfter : NestPlan → List Event → List Event → Type 0
ComesAfter nest past [] = Unit {0}
ComesAfter nest past (event ∷ rest) = (next_event nest past ≡ Some event) × ComesAfter nest (past ++ event ∷ []) rest

-- each event is the one that comes after those before it
pub record IsNestPast (nest : NestPlan) (past : List Event) : Type 0 where
  pub each : ComesAfter nest [] past

-- so is each event of the log, and it ends where the actions do
pub record IsLegalNest (nest : NestPlan) (log : List Event) : Type 0 where
  pub is_past : IsNestPast nest log
  pub ends : next_event nest log ≡ None
