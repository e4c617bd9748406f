use Rattle.std.proofs.Common.{◌++◌, ◌∷◌, [], List, ap, sym, ◌∙◌}
use Rattle.next_entry.specs.declared.cause.Busy.{Busy}
use Rattle.open_explain.proofs.AtWork.{with_next, with_none}
use Rattle.open_explain.proofs.explain.busy_seats.Goals as goal
use Rattle.open_explain.proofs.explain.busy_seats.Goals.{in-None, in-Some+in_ok-push-in-Some}

pub loop-seat-preserved : goal.loop-seat-preserved
loop-seat-preserved c =
    let past = c.args.past.now in
    let seat = c.loop-seat.seat in
    elim c.match-work_of.branch [
      | in-None w ↦ rw w.busy-is (c.loop-seat.invariant ∙ sym (with_none past seat (sym c.work_of.ensures ∙ w.in-None.is)))
      | in-Some+in_ok-push-in-Some w ↦ rw w.busy-is (w.in_ok-push-in-Some.ensures.items
          ∙ ap (λ (l : List Busy). l ++ record { seat = seat; work = w.in-Some.work } ∷ []) c.loop-seat.invariant
          ∙ sym (with_next past seat w.in-Some.work (sym c.work_of.ensures ∙ w.in-Some.is)))
    ]
