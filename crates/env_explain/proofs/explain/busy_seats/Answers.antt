use Rattle.std.proofs.Common.{◌≡◌, ap, sym, ◌∙◌, ◌++◌, ◌∷◌, [], List}
use Rattle.std.proofs.lemmas.Option.{slice_get_read}
use Rattle.std.specs.Prelude.{option_and_then, slice_get}
use Rattle.next_entry.specs.declared.cause.Busy.{Busy}
use Rattle.env_explain.specs.Explained.{work_in}
use Rattle.env_explain.proofs.AtWork.{with_next, with_none}
use Rattle.env_explain.proofs.explain.busy_seats.Goals as goal
use Rattle.env_explain.proofs.explain.busy_seats.Goals.{in-None, in-Some+in_ok-push-in-Some}

pub loop-seat-preserved : goal.loop-seat-preserved
loop-seat-preserved c =
    let hands = c.args.hands.now in
    let seat = c.loop-seat.seat in
    let here : option_and_then work_in (slice_get hands seat) ≡ c.work_in.result =
    ap (option_and_then work_in) (slice_get_read hands c.args.seats seat c.index-hands-seat.result c.requires c.loop-seat-test.true c.index-hands-seat.is)
    ∙ sym c.work_in.ensures in
    elim c.match-work_in.branch [
      | in-None w ↦ rw w.busy-is (c.loop-seat.invariant ∙ sym (with_none hands seat (here ∙ w.in-None.is)))
      | in-Some+in_ok-push-in-Some w ↦ rw w.busy-is (w.in_ok-push-in-Some.ensures.items
          ∙ ap (λ (l : List Busy). l ++ record { seat = seat; work = w.in-Some.work } ∷ []) c.loop-seat.invariant
          ∙ sym (with_next hands seat w.in-Some.work (here ∙ w.in-Some.is)))
    ]
