-- The delayed tasks become fewer, and all else stays.
use Rattle.std.proofs.Common.{◌≡◌, length}
use Rattle.sequence_manager.specs.State.{without_delayed}
use Rattle.sequence_manager.proofs.task_queue.TaskQueue.drop_delayed.Given as goal

abbrev pub invariant-loop-first : goal.invariant-loop-first
invariant-loop-first l = without_delayed l.self ≡ without_delayed l.fn.self

abbrev pub decreases-loop-first : goal.decreases-loop-first
decreases-loop-first l = length l.self.delayed.held
