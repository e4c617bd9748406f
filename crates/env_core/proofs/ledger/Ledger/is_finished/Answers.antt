use Rattle.env_core.proofs.MadeWithin.{finished_is}
use Rattle.std.proofs.Common.{sym, ◌∙◌}
use Rattle.env_core.proofs.ledger.Ledger.is_finished.Goals as goal

pub returns : goal.returns
returns c = rw (← c.self.view_is) (c.is_finished.ensures ∙ sym (finished_is _ _ _ c.self.invariant.run.plan.closed c.self.invariant.run.driver))
