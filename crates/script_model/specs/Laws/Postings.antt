-- Which tasks a script posts (this project's own rules).
use Rattle.std.specs.Prelude.{ℕ, ◌≤◌, ◌==◌, Bool, true, ◌&&◌, List, [], ◌∷◌, ◌++◌, flat_map}
use Rattle.task_base.specs.Plan.{Plan}
use Rattle.task_base.specs.declared.step.Step.{Step}
use Rattle.task_base.specs.declared.step.Step.TheVariants as steps
use Rattle.task_base.specs.declared.script.Action.{Action}
use Rattle.task_base.specs.declared.script.Action.TheVariants as actions
use Rattle.list_laws.specs.Lists.{count}

-- the task that a step posts, to a runner or to a main queue
abbrev pub posts_of_step : Step → List ℕ
posts_of_step (steps.Post task runner delay) = task ∷ []
posts_of_step (steps.Main task queue delay) = task ∷ []
posts_of_step step = []

-- the task that an action of the driver posts
abbrev pub posts_of_action : Action → List ℕ
posts_of_action (actions.Post task runner delay) = task ∷ []
posts_of_action (actions.Main task queue delay) = task ∷ []
posts_of_action action = []

-- the tasks that the script posts: those of its actions, and those of the steps of its tasks, in order
unfoldable pub postings : Plan → List ℕ
postings script = flat_map posts_of_action script.actions ++ flat_map (λ task. flat_map posts_of_step task) script.tasks

-- how often a task stands in a list of tasks
abbrev pub times : ℕ → List ℕ → ℕ
times t xs = count (λ u. u == t) xs

-- no two postings of the script name one task
abbrev pub IsPostedOnce : Plan → Type 0
IsPostedOnce script = (t : ℕ) → times t (postings script) ≤ 1

-- no number stands twice in the list
abbrev pub differ : List ℕ → Bool
differ [] = true
differ (u ∷ us) = times u us == 0 && differ us

-- whether no two postings of the script name one task
abbrev pub is_posted_once : Plan → Bool
is_posted_once script = differ (postings script)
