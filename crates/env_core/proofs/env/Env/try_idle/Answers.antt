use Rattle.env_core.proofs.Entries.{counts, holds_at_pool, pool_still}
use Rattle.env_core.proofs.Wanted.{idle_allowed}
use Rattle.env_core.specs.Calls.{IsIdle}
use Rattle.std.proofs.Common.{refl, true}
use Rattle.env_core.proofs.env.Env.try_idle.Goals as goal

pub enter-requires : goal.enter-requires
enter-requires g c =
    let view = c.self.inside.ledger in
    let idle : IsIdle view = (c.in_ok-idle.ensures.ok view.script view.history c.self.invariant.stands).0 (refl {a = true}) in
    counts (rw c.self.view_is c.requires) refl (λ plan. idle_allowed view c.args.seat plan.closed c.self.invariant.legal
    (rw c.self.view_is c.requires) idle)

pub invariant_of-self : goal.invariant_of-self
invariant_of-self g c = holds_at_pool c.self.invariant c.enter.ensures refl (λ t. refl) (pool_still c.self.invariant _ refl)

pub returns-clause-enters : goal.returns-clause-enters
returns-clause-enters g c = rw (← c.self.view_is) c.enter.ensures
