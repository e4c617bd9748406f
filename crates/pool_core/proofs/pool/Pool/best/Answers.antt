use Rattle.pool_core.proofs.Sources.Best.{best_of_queues}
use Rattle.pool_core.proofs.pool.Pool.best.Goals as goal

pub returns : goal.returns
returns c = rw (c.better.ensures, c.better-others.ensures, c.better-best_effort.ensures)
    (best_of_queues c.args.self.now c.args.seat c.offer.result c.offer-2.result c.offer-3.result c.offer-4.result
    c.offer.ensures c.offer-2.ensures c.offer-3.ensures c.offer-4.ensures)
