-- Tasks that are posted a second time.
use Rattle.std.specs.Prelude.{ℕ, suc, ◌+◌, Bool, ◌||◌, if◌then◌else◌, List, [], ◌∷◌, take, Option, Some, None}
use Rattle.std.specs.List.{list_any}
use Rattle.std.specs.Option.{option_and_then}
use Rattle.task_base.specs.Plan.{Plan}
use Rattle.task_base.specs.declared.step.Step.{Step}
use Rattle.task_base.specs.declared.step.Step.TheVariants.{Post, Main}
use Rattle.script_lint.specs.Earlier.{action_posts, step_posts}
use Rattle.script_lint.specs.Steps.{words_in}

-- the script posts the task, by an action or by a step of a task
abbrev pub is_posted : Plan → ℕ → Bool
is_posted script task = list_any (action_posts task) script.actions || list_any (λ steps. list_any (step_posts task) steps) script.tasks

-- the task that a step posts
abbrev pub task_of : Step → Option ℕ
task_of (Post task runner delay) = Some task
task_of (Main task queue delay) = Some task
task_of step = None

-- the task of a step, if the script posts it, or one of the steps before
abbrev pub task_again : Plan → List Step → Step → Option ℕ
task_again script before step =
    option_and_then (λ task. if is_posted script task || list_any (step_posts task) before then Some task else None) (task_of step)

-- of these steps, behind so many of all of a line, the first whose task is posted before: the place of the task, and the task
unfoldable pub posted_again : Plan → List Step → ℕ → List Step → ℕ → Option (ℕ × ℕ)
posted_again script all count [] place = None
posted_again script all count (step ∷ steps) place = elim (task_again script (take count all) step) as (λ _. Option (ℕ × ℕ)) [
  | None ↦ posted_again script all (suc count) steps (place + words_in step)
  | Some task ↦ Some (place + 1, task)
]
