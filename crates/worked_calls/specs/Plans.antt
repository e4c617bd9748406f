-- The scripts of the tests.
use Rattle.std.specs.Prelude.{ℕ, Bool, true, false, List, [], ◌∷◌}
use Rattle.task_traits.specs.declared.traits.Behaviour.{Behaviour}
use Rattle.task_traits.specs.declared.traits.Behaviour.TheVariants as behaviours
use Rattle.task_traits.specs.declared.traits.Priority.{Priority}
use Rattle.task_traits.specs.declared.traits.Priority.TheVariants as priorities
use Rattle.task_base.specs.Plan.{Plan, JobPlan}
use Rattle.task_base.specs.declared.policy.Policy.TheVariants as policies
use Rattle.task_base.specs.declared.script.Action.{Action}
use Rattle.task_base.specs.declared.script.Action.TheVariants as actions
use Rattle.task_base.specs.declared.script.Runner.{Runner}
use Rattle.task_base.specs.declared.script.RunnerKind.{RunnerKind}
use Rattle.task_base.specs.declared.script.RunnerKind.TheVariants as kinds
use Rattle.task_base.specs.declared.step.Scope.{Scope}
use Rattle.task_base.specs.declared.step.Scope.TheVariants as scopes
use Rattle.task_base.specs.declared.step.Step.{Step}
use Rattle.task_base.specs.declared.step.Step.TheVariants as steps

-- a script of so many workers, of which one may work at a time, that declares nothing
abbrev pub idle_plan : ℕ → List Action → Plan
idle_plan workers to_do = record {
  workers = workers;
  foreground = 1;
  foreground_best = 1;
  background = 0;
  threshold = 5;
  runners = [];
  queues = [];
  tasks = [];
  jobs = [];
  actions = to_do;
  is_open = false;
}

-- a runner
abbrev pub runner_of : RunnerKind → Priority → Behaviour → Bool → Runner
runner_of kind priority behaviour may_block = record {
  kind = kind;
  traits = record { priority = priority; behaviour = behaviour; may_block = may_block };
}

-- two workers, and a driver that puts a policy in force
abbrev pub quiet_plan : Plan
quiet_plan = idle_plan 2 (actions.Policy policies.All ∷ [])

-- one worker, and a task for this runner that adds a number
abbrev pub task_plan : Runner → ℕ → List Action → Plan
task_plan runner by to_do = record (idle_plan 1 to_do) { runners = runner ∷ []; tasks = (steps.Add by ∷ []) ∷ [] }

-- the driver posts a task and waits for it
abbrev pub first_plan : Plan
first_plan = task_plan (runner_of kinds.Sequenced priorities.UserVisible behaviours.SkipOnShutdown false) 5 (actions.Post 0 0 0 ∷ actions.Flush ∷ [])

-- the driver posts a task and waits for it, and then two more
abbrev pub flush_plan : Plan
flush_plan = record
    (idle_plan 1 (actions.Post 0 0 0 ∷ actions.Flush ∷ actions.Post 1 0 0 ∷ actions.Post 2 0 0 ∷ actions.Flush ∷ [])) {
      runners = runner_of kinds.Sequenced priorities.UserVisible behaviours.SkipOnShutdown false ∷ [];
      tasks = (steps.Add 5 ∷ []) ∷ (steps.Add 5 ∷ []) ∷ (steps.Add 5 ∷ []) ∷ [];
    }

-- the driver posts a task of block work with a delay, and shuts down
abbrev pub closing_plan : Plan
closing_plan =
    task_plan (runner_of kinds.Parallel priorities.UserVisible behaviours.BlockShutdown false) 1 (actions.Post 0 0 5 ∷ actions.Shutdown ∷ [])

-- one worker, a runner and a main queue, and a driver that has a task done on each, and posts a third one, a skip task, when
-- shutdown is over
abbrev pub late_plan : Plan
late_plan = record
    (idle_plan 1 (actions.Post 0 0 0 ∷ actions.Main 1 0 0 ∷ actions.Pump 1 ∷ actions.Shutdown ∷ actions.Post 2 0 0 ∷ [])) {
      runners = runner_of kinds.Parallel priorities.UserVisible behaviours.SkipOnShutdown false ∷ [];
      queues = record { class = 0; voters = 0 } ∷ [];
      tasks = (steps.Add 5 ∷ []) ∷ (steps.Add 5 ∷ []) ∷ (steps.Add 5 ∷ []) ∷ [];
    }

-- the steps of a task that adds 1 in a blocking scope
abbrev pub scoped_steps : Scope → List Step
scoped_steps scope = steps.Block scope ∷ steps.Add 1 ∷ steps.Unblock ∷ []

-- two workers, and two tasks that may block: the first one is in a scope while it adds 1, the second one adds 2
abbrev pub scope_plan : Scope → List Action → Plan
scope_plan scope to_do = record (idle_plan 2 to_do) {
  runners = runner_of kinds.Parallel priorities.UserVisible behaviours.SkipOnShutdown true ∷ [];
  tasks = scoped_steps scope ∷ (steps.Add 2 ∷ []) ∷ [];
}

-- the driver posts both and waits for them; the scope will block
abbrev pub will_plan : Plan
will_plan = scope_plan scopes.Will (actions.Post 0 0 0 ∷ actions.Post 1 0 0 ∷ actions.Flush ∷ [])

-- the same with two ticks before the wait; the scope may block
abbrev pub may_plan : Plan
may_plan = scope_plan scopes.May (actions.Post 0 0 0 ∷ actions.Post 1 0 0 ∷ actions.Tick 2 ∷ actions.Flush ∷ [])

-- a job of user visible work, whose items are worth one more than their numbers
abbrev pub job_of : ℕ → ℕ → JobPlan
job_of items cap = record {
  priority = priorities.UserVisible;
  behaviour = behaviours.SkipOnShutdown;
  items = items;
  cap = cap;
  steps = steps.Add 1 ∷ [];
}

-- one worker, and a job that matters less than a task that is posted behind it
abbrev pub yield_plan : Plan
yield_plan = record
    (task_plan (runner_of kinds.Parallel priorities.UserBlocking behaviours.SkipOnShutdown false) 1
    (actions.StartJob 0 ∷ actions.Post 0 0 0 ∷ actions.Flush ∷ [])) { jobs = job_of 3 1 ∷ [] }

-- one worker, and a job that is started and cancelled
abbrev pub cancel_plan : Plan
cancel_plan = record (idle_plan 1 (actions.StartJob 0 ∷ actions.Cancel 0 ∷ [])) { jobs = job_of 4 2 ∷ [] }
