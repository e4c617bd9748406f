use Rattle.pool_core.proofs.Sources.Choosing.{either_offers}
use Rattle.pool_core.specs.Choice.{HasOffer}
use Rattle.std.proofs.Common.{ap, subst, sym, ◌∙◌}
use Rattle.std.specs.Prelude.{is_some, ◌||◌}
use Rattle.pool_core.proofs.pool.Pool.offers.Goals as goal

pub returns-else-is_some : goal.returns-else-is_some
returns-else-is_some c = subst (HasOffer c.args.self.now c.args.lane)
    (ap (λ b. b || is_some c.offer-else-is_some.result) (sym c.is_some.ensures ∙ c.if-is_some.false) ∙ sym c.is_some-else-is_some.ensures)
    (either_offers c.args.self.now c.args.lane c.offer.result c.offer-else-is_some.result c.offer.ensures c.offer-else-is_some.ensures)
