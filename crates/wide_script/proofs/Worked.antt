-- Numbers, tasks and actions that a generator of its own drew, checked by computing.
use Rattle.std.proofs.Common.{◌≡◌, true, false, [], ◌∷◌, ◌++◌, map, flat_map, refl}
use Rattle.std.specs.List.{range_with_len}
use Rattle.task_base.specs.declared.script.Action.TheVariants as actions
use Rattle.task_base.specs.declared.step.Step.TheVariants as steps
use Rattle.wide_script.specs.Draws.{Drawing, drawing, generator_at, numbers_from}
use Rattle.wide_script.specs.Drawn.{actions_at, goal_of, last_actions, steps_of, turn_by}

numbers_right : numbers_from (generator_at 0) 3 ≡ 3837872008 ∷ 932996374 ∷ 1548399547 ∷ []
unfolding numbers_from
numbers_right = refl

-- the script of the number 9 with five tasks, and without jobs and main queues
abbrev of_9 : Drawing
of_9 = drawing 9 5 (record { jobs = false; main = false; delays = true; scopes = true; shutdown = true })

tasks_right : map (steps_of of_9) (range_with_len 0 5) ≡
    (steps.Add 983 ∷ []) ∷ (steps.Set 758 ∷ []) ∷ (steps.Set 291 ∷ []) ∷ (steps.Add 852 ∷ steps.Post 2 3 300 ∷ []) ∷ (steps.Add 385 ∷ []) ∷ []
unfolding numbers_from steps_of goal_of
tasks_right = refl

actions_right : flat_map (actions_at of_9) (range_with_len 0 5) ++ last_actions of_9 ≡
    actions.Post 0 3 0 ∷ actions.Post 1 1 0 ∷ actions.Post 3 0 0 ∷ actions.Post 4 4 0 ∷ actions.Flush ∷ []
unfolding numbers_from actions_at last_actions turn_by goal_of
actions_right = refl
