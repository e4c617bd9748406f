use Rattle.pool_core.proofs.Calls.Shutdown.{stands_at_policy}
use Rattle.pool_core.proofs.pool.Pool.policy.Goals as goal

pub returns : goal.returns
returns c = λ script past seat stands. stands_at_policy script past c.args.self.now seat c.args.policy c.set_policy.new.self stands c.set_policy.ensures
