use Rattle.std.proofs.Common.{eqb, sym}
use Rattle.std.proofs.lemmas.Bool.{eq-eqb, ne_eqb}
use Rattle.order_model.specs.declared.event.Event.{Event}
use Rattle.order_answer.proofs.Next.{found_here, none_more}
use Rattle.order_answer.proofs.against.next_of.Goals as goal

pub returns-then-event-seat : goal.returns-then-event-seat
returns-then-event-seat c =
    sym (found_here (λ (e : Event). eqb e.entry.seat c.args.seat) c.args.rest.now c.loop-event.event-index _ c.loop-event-test.true
    c.loop-event.invariant.none_yet (eq-eqb _ _ c.if-event-seat.true))

pub loop-event-preserved : goal.loop-event-preserved
loop-event-preserved c = record {
  none_yet = none_more (λ (e : Event). eqb e.entry.seat c.args.seat) c.args.rest.now c.loop-event.event-index _ c.loop-event-test.true
      c.loop-event.invariant.none_yet (ne_eqb _ _ c.if-event-seat.false);
}
