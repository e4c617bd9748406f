use Rattle.env_core.proofs.MadeWithin.{action_at}
use Rattle.std.proofs.Common.{rules}
use Rattle.env_core.proofs.ledger.Ledger.action.Goals as goal

pub returns : goal.returns
returns c =
    let at = action_at _ _ _ c.self.invariant.run.driver in
    rw (← c.self.view_is, ← at) (search rules)
