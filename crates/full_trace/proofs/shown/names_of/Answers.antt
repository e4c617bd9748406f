use Rattle.std.proofs.Common.{◌∷◌, ◌++◌, [], List, ap, sym, ◌∙◌, zero-add}
use Rattle.std.proofs.lemmas.List.FromFn.{map-range_with_len_more}
use Rattle.full_trace.specs.declared.event.Event.{Event}
use Rattle.full_trace.specs.declared.event.What.TheVariants.{Process}
use Rattle.full_trace.specs.Shown.{seat_event}
use Rattle.full_trace.proofs.shown.names_of.Goals as goal

pub loop-seat-preserved : goal.loop-seat-preserved
loop-seat-preserved c =
    let seat = c.loop-seat.seat in
    c.in_ok-add-2.ensures ∙ ap (λ (names : List Event). names ++ seat_event seat ∷ []) c.loop-seat.invariant
    ∙ ap (λ (names : List Event). record { seat = 0; place = 0; what = Process } ∷ names) (sym (map-range_with_len_more seat_event 0 seat seat (zero-add seat)))
