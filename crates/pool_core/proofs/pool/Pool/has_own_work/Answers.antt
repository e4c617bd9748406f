use Rattle.pool_core.proofs.Sources.Choosing.{offers_none}
use Rattle.pool_core.proofs.Sources.Best.{own_is}
use Rattle.pool_core.specs.Choice.{HasOffer}
use Rattle.std.proofs.Common.{arith, subst, sym, ◌∙◌}
use Rattle.pool_core.proofs.pool.Pool.has_own_work.Goals as goal

-- the pool has a lane for each seat
pub offers-requires : goal.offers-requires
offers-requires c = let knows = c.requires.2 in rw knows.stands.queues.roomy.all (omega (arith, knows.known))

pub best-requires : goal.best-requires
best-requires c = let knows = c.requires.2 in rw knows.stands.queues.roomy.all (omega (arith, knows.known))

-- and a priority for each runner
pub is_single-requires : goal.is_single-requires
is_single-requires c = let stands = c.requires.2.stands in rw stands.runners stands.priorities.all

pub returns-then-offers : goal.returns-then-offers
returns-then-offers c script past knows = c.is_single.ensures
    ∙ own_is script past c.args.self.now c.args.seat c.best.result knows.stands knows.known c.best.ensures

pub returns-else-offers : goal.returns-else-offers
returns-else-offers c script past knows = c.if-offers.false ∙ sym (offers_none script past c.args.self.now c.args.seat knows.stands
    (subst (HasOffer c.args.self.now c.args.seat) c.if-offers.false c.offers.ensures))
