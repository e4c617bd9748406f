use Rattle.pool_core.proofs.Sources.Best.{best_in_queue}
use Rattle.std.proofs.Common.{sym, ◌∙◌, Some}
use Rattle.pool_core.proofs.pool.Pool.offer.Goals as goal

pub returns-then-is_open : goal.returns-then-is_open
returns-then-is_open c = best_in_queue c.args.self.now c.args.lane c.args.best_effort (Some c.in_ok-best.best)
    (sym c.is_open.ensures ∙ c.if-is_open.true) c.in_ok-best.ensures
