use Rattle.pool_core.proofs.Sources.Choosing.{lane_tells, offers_tell}
use Rattle.pool_core.specs.Choice.{HasOffer}
use Rattle.std.proofs.Common.{arith, false, inl, refl, subst, sym, ◌∙◌}
use Rattle.pool_core.proofs.pool.Pool.has_work.Goals as goal

-- the pool has lane 0, and one for each seat
pub offers-requires : goal.offers-requires
offers-requires c = rw c.requires.2.stands.queues.roomy.all (omega arith)

pub offers-requires-else-offers : goal.offers-requires-else-offers
offers-requires-else-offers c = let knows = c.requires.2 in rw knows.stands.queues.roomy.all (omega (arith, knows.known))

pub returns-then-offers : goal.returns-then-offers
returns-then-offers c script past knows = c.if-offers.true ∙ sym (lane_tells script past c.args.self.now c.args.seat 0 knows.stands knows.known (inl refl)
    (subst (HasOffer c.args.self.now 0) c.if-offers.true c.offers.ensures))

pub returns-else-offers : goal.returns-else-offers
returns-else-offers c script past knows = offers_tell script past c.args.self.now c.args.seat false c.offers-else-offers.result knows.stands knows.known
    (subst (HasOffer c.args.self.now 0) c.if-offers.false c.offers.ensures) c.offers-else-offers.ensures
