-- Short nests and their logs, by computing.
use Rattle.std.proofs.Common.{◌≡◌, ℕ, suc, zero, true, false, List, [], ◌∷◌, ◌++◌, refl, Option, Some, None}
use Rattle.nested_loop.specs.Plan.{NestPlan}
use Rattle.nested_loop.specs.Nest.{next_event, depth_of, is_started, was_deferred, posted_tasks, waiting_tasks, deferred_tasks, front_task, nesting_of}
use Rattle.nested_loop.specs.declared.event.Event.{Event}
use Rattle.nested_loop.specs.declared.event.Event.TheVariants as events
use Rattle.nested_loop.specs.declared.nest.NestAction.{NestAction}
use Rattle.nested_loop.specs.declared.nest.NestAction.TheVariants as actions
use Rattle.nested_loop.specs.declared.nest.NestStep.TheVariants as steps

-- one queue; a task that says 1, a task that waits for the outermost loop and says 2, and a task that runs a nested loop
-- and says 3
nest : List NestAction → NestPlan
nest acts = record {
  classes = 3 ∷ [];
  tasks = record { nestable = true; steps = steps.Say 1 ∷ [] }
      ∷ record { nestable = false; steps = steps.Say 2 ∷ [] }
      ∷ record { nestable = true; steps = steps.Loop 5 ∷ steps.Say 3 ∷ [] }
      ∷ [];
  actions = actions.Post 2 0 ∷ actions.Post 1 0 ∷ actions.Post 0 0 ∷ acts;
}

-- what they have in common: the posts, and the first task with its nested loop, which defers the second one
begin : List Event
begin = events.Post 2 0 ∷ events.Post 1 0 ∷ events.Post 0 0 ∷ events.Loop 1 ∷ events.Start 2 1 ∷ events.Loop 2 ∷ events.Defer 1 ∷ events.Start 0 2
    ∷ events.Say 1 ∷ events.End 0 ∷ events.Quit 2 ∷ events.Say 3 ∷ events.End 2 ∷ []

-- the past with the event that comes next, and what then follows
with_next : (List Event → List Event) → List Event → Option Event → List Event
with_next follow past None = past
with_next follow past (Some event) = follow (past ++ event ∷ [])

-- the events that a nest asks for after a past, at most so many
log_of : NestPlan → ℕ → List Event → List Event
log_of nest zero past = past
log_of nest (suc n) past = with_next (log_of nest n) past (next_event nest past)

-- the outermost loop runs the deferred task
deferred_task_waits : log_of (nest (actions.Run 5 ∷ [])) 99 []
    ≡ begin ++ events.Start 1 1 ∷ events.Say 2 ∷ events.End 1 ∷ events.Quit 1 ∷ []
unfolding nest begin log_of with_next next_event depth_of is_started was_deferred posted_tasks waiting_tasks deferred_tasks front_task nesting_of
deferred_task_waits = refl

-- it waits through the end of a loop
second_run_starts_it : log_of (nest (actions.Run 1 ∷ actions.Run 1 ∷ [])) 99 []
    ≡ begin ++ events.Quit 1 ∷ events.Loop 1 ∷ events.Start 1 1 ∷ events.Say 2 ∷ events.End 1 ∷ events.Quit 1 ∷ []
unfolding nest begin log_of with_next next_event depth_of is_started was_deferred posted_tasks waiting_tasks deferred_tasks front_task nesting_of
second_run_starts_it = refl
