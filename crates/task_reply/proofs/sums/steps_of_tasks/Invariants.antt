use Rattle.std.proofs.Common.{◌≡◌, length, take, sum_by}
use Rattle.task_reply.proofs.sums.steps_of_tasks.Given as goal

abbrev pub invariant-loop-task : goal.invariant-loop-task
invariant-loop-task l = l.steps ≡ sum_by (λ steps. length steps) (take l.task-index l.tasks)
