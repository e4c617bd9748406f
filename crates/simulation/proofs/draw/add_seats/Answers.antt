use Rattle.std.proofs.Common.{◌+◌, ◌-◌, ◌∷◌, [], ◌++◌, ap, arith, sym, ◌∙◌}
use Rattle.std.proofs.lemmas.List.FromFn.{length-range_with_len}
use Rattle.list_laws.proofs.Ranges.{range_split}
use Rattle.simulation.proofs.draw.add_seats.Goals as goal

pub loop-seat-preserved : goal.loop-seat-preserved
loop-seat-preserved c =
    let from = c.loop-seat.invariant.0 in (
      omega (arith, from),
      c.in_ok-push.ensures.items ∙ ap (λ seats. seats ++ c.loop-seat.seat ∷ []) c.loop-seat.invariant.1
          ∙ sym (range_split 1 (c.loop-seat.seat - 1) 0 (c.loop-seat.seat + 1 - 1) c.loop-seat.seat (omega (arith, from)) (omega (arith, from))),
    )

pub returns-in_err-push-clause-few : goal.returns-in_err-push-clause-few
returns-in_err-push-clause-few c = rw (c.in_err-push.ensures.items, c.loop-seat.invariant.1, length-range_with_len 1 (c.loop-seat.seat - 1))
    (omega (arith, c.loop-seat-test.true, c.loop-seat.auto.seat))

pub returns-clause-few : goal.returns-clause-few
returns-clause-few c = rw (c.loop-seat.invariant.1, length-range_with_len 1 (c.loop-seat.seat - 1))
    (omega (arith, c.loop-seat.auto.seat, c.loop-seat.auto.seat-end))
