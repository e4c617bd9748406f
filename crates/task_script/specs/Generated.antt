-- The script that is made from a number and a size (this project's own rule).
use Rattle.std.specs.Prelude.{ℕ, zero, suc, ◌+◌, ◌*◌, ◌/◌, ◌%◌, ◌^◌, ◌==◌, false, if◌then◌else◌, List, [], ◌∷◌, ◌++◌, map}
use Rattle.task_base.specs.Plan.{Plan, JobPlan}
use Rattle.task_base.specs.declared.step.Step.{Step}
use Rattle.task_base.specs.declared.step.Step.TheVariants.{Add, Mul}
use Rattle.task_base.specs.declared.script.Runner.{Runner}
use Rattle.task_base.specs.declared.script.RunnerKind.{RunnerKind}
use Rattle.task_base.specs.declared.script.RunnerKind.TheVariants.{Parallel, Sequenced}
use Rattle.task_base.specs.declared.script.Action.{Action}
use Rattle.task_base.specs.declared.script.Action.TheVariants.{Post, Main, Pump, Flush, StartJob, Join}
use Rattle.task_traits.specs.declared.traits.Priority.{Priority}
use Rattle.task_traits.specs.declared.traits.Priority.TheVariants.{BestEffort, UserVisible, UserBlocking}
use Rattle.task_traits.specs.declared.traits.Behaviour.{Behaviour}
use Rattle.task_traits.specs.declared.traits.Behaviour.TheVariants.{ContinueOnShutdown, SkipOnShutdown, BlockShutdown}

-- the number behind another one
abbrev pub number_behind : ℕ → ℕ
number_behind x = (x * 6364136223846793005 + 1442695040888963407) % 2 ^ 64

-- so many numbers, each behind the one before it, the first behind this one
unfoldable pub numbers_behind : ℕ → ℕ → List ℕ
numbers_behind x zero = []
numbers_behind x (suc n) = number_behind x ∷ numbers_behind (number_behind x) n

-- what the task of a number adds
abbrev pub amount_of : ℕ → ℕ
amount_of x = (x / 2 ^ 40) % 1000

-- where the task of a number is posted: to runner 0 to 3, or to the main queue, which is 4
abbrev pub goal_of : ℕ → ℕ
goal_of x = (x / 2 ^ 33) % 5

-- the post of a task that was made of this number
abbrev pub posting_of : ℕ → ℕ → Action
posting_of t x = if goal_of x == 4 then Main t 0 0 else Post t (goal_of x) 0

-- the posts of the tasks that were made of these numbers, from task t on
abbrev pub postings_from : ℕ → List ℕ → List Action
postings_from t [] = []
postings_from t (x ∷ numbers) = posting_of t x ∷ postings_from (t + 1) numbers

-- a runner whose tasks may not block
abbrev pub generated_runner : RunnerKind → Priority → Behaviour → Runner
generated_runner kind priority behaviour = record { kind = kind; traits = record { priority = priority; behaviour = behaviour; may_block = false } }

-- the four runners
abbrev pub generated_runners : List Runner
generated_runners =
    generated_runner Parallel UserVisible SkipOnShutdown
    ∷ generated_runner Sequenced UserBlocking BlockShutdown
    ∷ generated_runner Sequenced BestEffort ContinueOnShutdown
    ∷ generated_runner Sequenced UserVisible BlockShutdown
    ∷ []

-- the tasks that are made of these numbers
abbrev pub generated_tasks : List ℕ → List (List Step)
generated_tasks numbers = map (λ x. Add (amount_of x) ∷ []) numbers

-- the job, of eight items for each task
abbrev pub generated_job : ℕ → JobPlan
generated_job size = record { priority = UserVisible; behaviour = BlockShutdown; items = 8 * size; cap = 4; steps = Mul 3 ∷ Add 1 ∷ [] }

-- the actions of so many tasks, made of these numbers
abbrev pub generated_actions : ℕ → List ℕ → List Action
generated_actions size numbers = StartJob 0 ∷ (postings_from 0 numbers ++ Pump size ∷ Join 0 ∷ Flush ∷ [])

-- the script of so many tasks, made of these numbers
abbrev pub generated_from : ℕ → List ℕ → Plan
generated_from size numbers = record {
  workers = 4;
  foreground = 4;
  foreground_best = 2;
  background = 2;
  threshold = 1000000;
  runners = generated_runners;
  queues = record { class = 3; voters = 1 } ∷ [];
  tasks = generated_tasks numbers;
  jobs = generated_job size ∷ [];
  actions = generated_actions size numbers;
  is_open = false;
}

-- the script of a number and so many tasks
unfoldable pub generated : ℕ → ℕ → Plan
generated number size = generated_from size (numbers_behind number size)
