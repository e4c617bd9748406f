-- What contracts see of a script.
use Rattle.std.specs.Prelude.{ℕ, Bool, true, List, []}
use Rattle.task_traits.specs.declared.traits.Priority.{Priority}
use Rattle.task_traits.specs.declared.traits.Behaviour.{Behaviour}
use Rattle.task_base.specs.declared.step.Step.{Step}
use Rattle.task_base.specs.declared.script.Runner.{Runner}
use Rattle.task_base.specs.declared.script.MainQueue.{MainQueue}
use Rattle.task_base.specs.declared.script.Action.{Action}

-- a job without the room of its list
pub record JobPlan : Type 0 where
  pub priority : Priority
  pub behaviour : Behaviour
  pub items : ℕ
  pub cap : ℕ
  pub steps : List Step

-- a script without the room of its lists; a task is the list of its steps. A plan is closed where its driver does its
-- actions and its tasks their steps, as a script says, and open where the driver and the tasks enter what they like
pub record Plan : Type 0 where
  pub workers : ℕ
  pub foreground : ℕ
  pub foreground_best : ℕ
  pub background : ℕ
  pub threshold : ℕ
  pub runners : List Runner
  pub queues : List MainQueue
  pub tasks : List (List Step)
  pub jobs : List JobPlan
  pub actions : List Action
  pub is_open : Bool

-- the open plan of a script: what it declares, and no actions
abbrev pub opened : Plan → Plan
opened script = record script { actions = []; is_open = true }
