use Rattle.std.proofs.Common.{ap, arith, refl, sym, ◌∙◌}
use Rattle.told_context.proofs.FirstTakers.{first_here, none_at_all, none_more}
use Rattle.told_context.specs.Takers.{taken_by}
use Rattle.told_context.proofs.takers.first_taken.Goals as goal

pub returns-in-Some : goal.returns-in-Some
returns-in-Some c =
    let script = c.args.script.now in
    let past = c.args.env.now.history in
    let seat = c.loop-seat.seat in
    let workers = ap (λ p. p.workers) c.script.view_is in
    let takes = ap (λ env. taken_by script env.history seat) (sym c.loop-seat.invariant.env_is) ∙ sym c.in-Some.ensures.exact in
    first_here script past c.args.from seat c.in-Some.entry (rw c.requires.script c.requires.hands.legal) (omega (arith, c.loop-seat.auto.seat))
    (omega (arith, c.loop-seat-test.true, workers)) c.loop-seat.invariant.none takes c.in-Some.ensures.seat

pub loop-seat-preserved : goal.loop-seat-preserved
loop-seat-preserved c =
    let script = c.args.script.now in
    let seat = c.loop-seat.seat in
    let nothing = ap (λ env. taken_by script env.history seat) (sym c.loop-seat.invariant.env_is) ∙ sym c.in-None.ensures.exact in
    record {
      env_is = c.in-None.ensures.same refl ∙ c.loop-seat.invariant.env_is;
      in_hand = c.in-None.ensures.hands;
      none = none_more script c.args.env.now.history c.args.from seat (omega (arith, c.loop-seat.auto.seat)) c.loop-seat.invariant.none nothing;
    }

pub returns : goal.returns
returns c =
    let workers = ap (λ p. p.workers) c.script.view_is in
    none_at_all c.args.script.now c.args.env.now.history c.args.from c.loop-seat.seat (rw c.requires.script c.requires.hands.legal)
    (omega (arith, c.loop-seat-test.false, c.loop-seat.auto.seat, c.loop-seat.auto.seat-end, c.requires.within, workers)) c.loop-seat.invariant.none
