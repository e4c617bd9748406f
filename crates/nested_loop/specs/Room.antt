-- How many events the log of a nest has at most.
use Rattle.std.specs.Prelude.{ℕ, ◌+◌, ◌*◌, length, sum_by}
use Rattle.nested_loop.specs.Plan.{NestPlan}

-- each action and each step has two events at most, and each task three: it may be deferred, starts and ends
abbrev pub events_bound : NestPlan → ℕ
events_bound nest = 2 * length nest.actions + sum_by (λ task. 2 * length task.steps + 3) nest.tasks
