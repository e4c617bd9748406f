use Rattle.std.proofs.Common.{◌≡◌, None, Some, sym, ◌∙◌}
use Rattle.simulation.specs.Draw.{drawn_seat}
use Rattle.simulation.specs.Schedule.{made_by}
use Rattle.simulation.proofs.Draws.{draw_brings, draw_passes, drew, nobody_with, nothing_is_made, seat_is, step_is_made, still_known}
use Rattle.simulation.proofs.turn.draw_entry.Goals as goal

pub returns-in-Ok-clause-drawn : goal.returns-in-Ok-clause-drawn
returns-in-Ok-clause-drawn c =
    let at = c.loop-seat.invariant in
    let draws = drew c.loop-seat.draw c.next.new.self c.next.result c.in-Some.seat c.next.ensures.nobody c.next.ensures.somebody c.in-Some.is in
    let seat = seat_is c.loop-seat.draw c.next.new.self c.next.result c.in-Some.seat draws c.in-Some.is in
    let made = step_is_made c.loop-seat.env c.step.new.env c.args.reading c.in-Some.seat c.in-Ok.kind at.hands.closed at.hands.legal c.in-Ok.ensures.steps in
    let made_here : made_by c.args.env.now.script c.args.env.now.history c.args.reading (drawn_seat c.loop-seat.draw) ≡ Some (record { seat = c.in-Some.seat; kind = c.in-Ok.kind }) =
    rw (seat, ← at.same) made in
    draw_brings c.args.env.now c.args.reading c.loop-seat.draw c.next.new.self c.next.result _ draws made_here ∙ sym at.left

pub loop-seat-preserved : goal.loop-seat-preserved
loop-seat-preserved c =
    let at = c.loop-seat.invariant in
    let draws = drew c.loop-seat.draw c.next.new.self c.next.result c.in-Some.seat c.next.ensures.nobody c.next.ensures.somebody c.in-Some.is in
    let seat = seat_is c.loop-seat.draw c.next.new.self c.next.result c.in-Some.seat draws c.in-Some.is in
    let steps = c.in-Err.ensures.steps in
    let none : made_by c.args.env.now.script c.args.env.now.history c.args.reading (drawn_seat c.loop-seat.draw) ≡ None =
    rw (seat, ← at.same) (nothing_is_made c.loop-seat.env c.args.reading c.in-Some.seat steps.1) in
    record {
      same = steps.0 ∙ at.same;
      hands = c.in-Err.ensures.hands;
      left = at.left ∙ draw_passes c.args.env.now c.args.reading c.loop-seat.draw c.next.new.self c.next.result draws none;
      known = still_known c.args.env.now.script c.loop-seat.draw c.next.new.self c.next.result draws at.known;
      rest = λ nobody. at.rest (nobody_with c.args.env.now c.args.reading c.loop-seat.draw c.next.new.self c.next.result draws none nobody);
    }
