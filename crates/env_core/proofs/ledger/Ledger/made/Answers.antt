use Rattle.env_core.proofs.MadeWithin.{made_at}
use Rattle.env_core.proofs.ledger.Ledger.made.Goals as goal

pub returns : goal.returns
returns c = rw (← c.self.view_is) (made_at _ _ _ c.self.invariant.run.driver)
