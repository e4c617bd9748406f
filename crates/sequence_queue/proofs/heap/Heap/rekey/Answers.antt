use Rattle.sequence_queue.proofs.Steps.{rekey_step}
use Rattle.sequence_queue.proofs.heap.Heap.rekey.Goals as goal

pub settle-requires : goal.settle-requires
settle-requires c =
    rekey_step c.args.self.now c.args.number c.index-place.result.now c.args.rank c.requires.heap c.requires.within c.requires.held c.index-place.ensures
