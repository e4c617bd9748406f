use Rattle.std.proofs.Common.{◌≡◌, drop, None}
use Rattle.sequence_manager.specs.Ripening.{soonest_from}
use Rattle.sequence_manager.proofs.task_queues.TaskQueues.first_ripe.Given as goal

abbrev pub invariant-loop-place : goal.invariant-loop-place
invariant-loop-place l = soonest_from l.first l.place (drop l.place l.self) ≡ soonest_from None 0 l.self
