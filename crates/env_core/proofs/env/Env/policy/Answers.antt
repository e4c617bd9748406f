use Rattle.env_core.proofs.Entries.{holds_at_pool, plain}
use Rattle.std.proofs.Common.{refl}
use Rattle.env_core.proofs.env.Env.policy.Goals as goal

pub enter-requires : goal.enter-requires
enter-requires g c = plain (rw c.self.view_is c.requires) refl refl

pub invariant_of-self : goal.invariant_of-self
invariant_of-self g c = holds_at_pool c.self.invariant c.enter.ensures refl (λ t. refl) (c.policy.ensures _ _ c.args.seat c.self.invariant.stands)

pub returns : goal.returns
returns g c = rw (← c.self.view_is) c.enter.ensures
