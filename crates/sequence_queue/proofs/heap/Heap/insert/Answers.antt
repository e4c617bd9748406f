use Rattle.sequence_queue.proofs.Steps.{insert_step}
use Rattle.sequence_queue.proofs.heap.Heap.insert.Goals as goal

pub climb-requires : goal.climb-requires
climb-requires c =
    let step = insert_step c.args.self.now c.exchange.new.self c.args.number c.index-place.result.now c.args.rank c.requires.heap c.requires.within
    c.requires.new c.index-place.ensures c.exchange.ensures in
    record { loose = step.0; high = step.1 }
