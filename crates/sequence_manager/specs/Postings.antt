-- Which main tasks a script posts, and to which queues (this project's own rules).
use Rattle.std.specs.Prelude.{ℕ, ◌==◌, Bool, if◌then◌else◌, List, ◌++◌, length, flat_map, Option, Some, None}
use Rattle.std.specs.List.{filter_map}
use Rattle.task_base.specs.Plan.{Plan}
use Rattle.task_base.specs.declared.step.Step.{Step}
use Rattle.task_base.specs.declared.step.Step.TheVariants as steps
use Rattle.task_base.specs.declared.script.Action.{Action}
use Rattle.task_base.specs.declared.script.Action.TheVariants as actions
use Rattle.list_laws.specs.Lists.{count}

-- a task that is posted to a main queue
pub record MainPosting : Type 0 where
  pub task : ℕ
  pub queue : ℕ

-- what a step posts to a main queue
abbrev pub posting_of_step : Step → Option MainPosting
posting_of_step (steps.Main task queue delay) = Some (record { task = task; queue = queue })
posting_of_step step = None

-- what an action of the driver posts to a main queue
abbrev pub posting_of_action : Action → Option MainPosting
posting_of_action (actions.Main task queue delay) = Some (record { task = task; queue = queue })
posting_of_action action = None

-- what the steps of some tasks post to main queues
abbrev pub postings_of_tasks : List (List Step) → List MainPosting
postings_of_tasks tasks = flat_map (λ task. filter_map posting_of_step task) tasks

-- what the script posts to main queues, in the steps of its tasks and in its actions
unfoldable pub main_postings : Plan → List MainPosting
main_postings script = postings_of_tasks script.tasks ++ filter_map posting_of_action script.actions

-- it is posted to this queue
abbrev pub is_to : ℕ → MainPosting → Bool
is_to q p = p.queue == q

-- how many tasks may be posted to the queue: those that the script posts to it, and all where its plan is open
abbrev pub room_of : Plan → ℕ → ℕ
room_of script q = if script.is_open then length script.tasks else count (is_to q) (main_postings script)
