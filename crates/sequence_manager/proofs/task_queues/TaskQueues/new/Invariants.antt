-- The queues so far are fresh ones.
use Rattle.std.proofs.Common.{◌≡◌, ◌++◌, drop}
use Rattle.sequence_manager.specs.State.{fresh_queues}
use Rattle.sequence_manager.proofs.task_queues.TaskQueues.new.Given as goal

abbrev pub invariant-loop-place : goal.invariant-loop-place
invariant-loop-place l = l.queues.items ++ fresh_queues (drop l.place l.rooms) (drop l.place l.script.queues) ≡ fresh_queues l.rooms l.script.queues
