-- The loan of one queue.
use Rattle.std.specs.Prelude.{ℕ, List, slice_set}
use Rattle.std.specs.Borrow.{Lends, MutBor, Fml}
use Rattle.sequence_manager.specs.declared.task_queue.TaskQueue.{TaskQueue}
use Rattle.sequence_manager.specs.contracts.task_queue.TaskQueue.{the_row as queue_row}
use Rattle.sequence_manager.specs.contracts.task_queues.TaskQueues.{the_row}

-- the queues end with this one as it was left
abbrev pub LendsQueue : MutBor (List TaskQueue) → ℕ → MutBor TaskQueue → Fml
LendsQueue queues q queue = Lends the_row queue_row queues queue (slice_set queues.now q)
