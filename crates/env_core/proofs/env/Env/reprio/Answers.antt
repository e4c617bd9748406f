use Rattle.env_core.proofs.Entries.{holds_at_pool, knows_runner, plain}
use Rattle.std.proofs.Common.{refl}
use Rattle.env_core.proofs.env.Env.reprio.Goals as goal

pub reprio-requires : goal.reprio-requires
reprio-requires g c = (_, _, knows_runner c.self.invariant c.args.seat c.args.runner c.args.priority (rw c.self.view_is c.requires))

pub enter-requires : goal.enter-requires
enter-requires g c = plain (rw c.self.view_is c.requires) refl refl

pub invariant_of-self : goal.invariant_of-self
invariant_of-self g c = holds_at_pool c.self.invariant c.enter.ensures refl (λ t. refl) (c.reprio.ensures _ _ c.args.seat
    (knows_runner c.self.invariant c.args.seat c.args.runner c.args.priority (rw c.self.view_is c.requires)))

pub returns : goal.returns
returns g c = rw (← c.self.view_is) c.enter.ensures
