use Rattle.pool_core.proofs.Sources.Choosing.{lane_tells, offers_tell}
use Rattle.pool_core.proofs.Sources.Idling.{may_take, representative_known, representatives_tell, shared_tells}
use Rattle.pool_core.specs.Choice.{HasOffer}
use Rattle.std.proofs.Common.{ap, arith, false, inr, refl, subst, sym, ◌∙◌}
use Rattle.std.proofs.lemmas.Bool.{or_from}
use Rattle.std.proofs.lemmas.List.{take_all}
use Rattle.std.proofs.lemmas.List.Folds.{list_any_at, list_any_more}
use Rattle.std.specs.List.{list_any}
use Rattle.std.specs.Prelude.{not}
use Rattle.pool_core.proofs.pool.Pool.is_any_ready.Goals as goal

-- the pool has lane 0, and one for each seat
pub offers-requires : goal.offers-requires
offers-requires c = rw c.requires.2.queues.roomy.all (omega arith)

pub offers-requires-in-loop-seat : goal.offers-requires-in-loop-seat
offers-requires-in-loop-seat c =
    let stands = c.requires.2 in
    let knows = representative_known c.requires.0 c.requires.1 c.args.self.now c.as_slice-seats.result.now c.loop-seat.seat-index 0 stands
    c.as_slice-seats.ensures.value c.loop-seat-test.true in
    rw stands.queues.roomy.all (omega (arith, knows.known))

pub returns-then-offers : goal.returns-then-offers
returns-then-offers c script past stands = ap not c.is_empty.ensures
    ∙ shared_tells script past c.args.self.now c.as_slice-seats.result.now stands c.as_slice-seats.ensures.value
    (subst (HasOffer c.args.self.now 0) c.if-offers.true c.offers.ensures)

pub returns-then-offers-2 : goal.returns-then-offers-2
returns-then-offers-2 c script past stands =
    let seats = c.as_slice-seats.result.now in
    let knows = representative_known script past c.args.self.now seats c.loop-seat.seat-index 0 stands c.as_slice-seats.ensures.value
    c.loop-seat-test.true in
    sym (list_any_at (may_take script past) seats c.loop-seat.seat-index 0 c.loop-seat-test.true
    (lane_tells script past c.args.self.now _ _ stands knows.known (inr refl)
    (subst (HasOffer c.args.self.now _) c.if-offers-2.true c.offers-in-loop-seat.ensures)))
    ∙ representatives_tell script past c.args.self.now seats stands c.as_slice-seats.ensures.value

pub loop-seat-preserved : goal.loop-seat-preserved
loop-seat-preserved c script past stands =
    let seats = c.as_slice-seats.result.now in
    let knows = representative_known script past c.args.self.now seats c.loop-seat.seat-index 0 stands c.as_slice-seats.ensures.value
    c.loop-seat-test.true in
    list_any_more (may_take script past) seats c.loop-seat.seat-index 0 c.loop-seat-test.true
    ∙ or_from _ _ (c.loop-seat.invariant script past stands)
    (sym (offers_tell script past c.args.self.now _ false false stands knows.known
    (subst (HasOffer c.args.self.now 0) c.if-offers.false c.offers.ensures)
    (subst (HasOffer c.args.self.now _) c.if-offers-2.false c.offers-in-loop-seat.ensures)))

pub returns : goal.returns
returns c script past stands = sym (c.loop-seat.invariant script past stands)
    ∙ ap (list_any (may_take script past)) (take_all c.loop-seat.seat-index c.as_slice-seats.result.now c.loop-seat-test.false)
    ∙ representatives_tell script past c.args.self.now c.as_slice-seats.result.now stands c.as_slice-seats.ensures.value
