use Rattle.env_core.proofs.Taking.{knows_seat}
use Rattle.env_core.proofs.env.Env.has_own_work.Goals as goal

pub has_own_work-requires : goal.has_own_work-requires
has_own_work-requires g c =
    (c.self.inside.ledger.script, c.self.inside.ledger.history, knows_seat c.self.invariant c.self.view_is c.requires)

pub returns : goal.returns
returns g c = rw (← c.self.view_is) (c.has_own_work.ensures c.self.inside.ledger.script c.self.inside.ledger.history
    (knows_seat c.self.invariant c.self.view_is c.requires))
