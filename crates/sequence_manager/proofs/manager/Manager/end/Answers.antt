use Rattle.std.proofs.Common.{Some, subst}
use Rattle.sequence_manager.specs.Calls.{after_end}
use Rattle.sequence_manager.specs.StandsFor.{StandsFor}
use Rattle.sequence_manager.specs.State.{with_queue}
use Rattle.sequence_manager.specs.declared.task_queue.TaskQueue.{TaskQueue}
use Rattle.sequence_manager.proofs.Apart.{queue_there}
use Rattle.sequence_manager.proofs.Ends.{stands_at_end}
use Rattle.sequence_manager.proofs.manager.Manager.end.Goals as goal

-- the queue that was lent has the cell again
pub returns : goal.returns
returns c script past w runs =
    let manager = c.args.self.now in
    let queue = c.args.queue in
    let cell = c.args.cell in
    subst (λ (x : TaskQueue). StandsFor script (after_end past w.task cell) (with_queue manager queue (record x { cell = Some cell })))
    (queue_there manager.queues queue c.at_mut.result.now c.at_mut.ensures.queue) (stands_at_end script past manager queue cell w runs)
