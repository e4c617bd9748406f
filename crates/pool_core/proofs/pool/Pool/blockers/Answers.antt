use Rattle.pool_core.proofs.Calls.Shutdown.{count_is}
use Rattle.std.proofs.Common.{◌∙◌}
use Rattle.pool_core.proofs.pool.Pool.blockers.Goals as goal

pub returns : goal.returns
returns c script past stands = c.blockers.ensures.count ∙ count_is script past c.args.self.now stands
