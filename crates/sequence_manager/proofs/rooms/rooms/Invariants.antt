-- What the tasks so far post is counted.
use Rattle.std.proofs.Common.{take}
use Rattle.std.specs.Prelude.{length}
use Rattle.sequence_manager.specs.Postings.{postings_of_tasks}
use Rattle.sequence_manager.specs.Rooms.{AreCounts}
use Rattle.sequence_manager.proofs.rooms.rooms.Given as goal

abbrev pub invariant-loop-task : goal.invariant-loop-task
invariant-loop-task l = AreCounts (length l.script.queues) l.rooms.items (postings_of_tasks (take l.task-index l.script.tasks))
