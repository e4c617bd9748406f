use Rattle.std.proofs.Common.{◌≡◌, ℕ, ◌+◌, ◌∙◌, ◌++◌, ◌∷◌, [], List, ap, append-nil, arith, flat_map, refl}
use Rattle.std.proofs.lemmas.Grind.{flat_map-append}
use Rattle.std.specs.List.{range_with_len}
use Rattle.std.specs.Option.{option_to_list}
use Rattle.list_laws.proofs.Ranges.{range_split}
use Rattle.order_model.specs.declared.event.Event.{Event}
use Rattle.order_answer.specs.Said.{next_of}
use Rattle.order_answer.proofs.against.next_events.Goals as goal

-- the next event of one seat, in a list
abbrev of_seat : List Event → ℕ → List Event
of_seat rest seat = option_to_list (next_of seat rest)

-- one seat more
one_more : (rest : List Event) (seat : ℕ) → flat_map (of_seat rest) (range_with_len 0 (seat + 1))
    ≡ flat_map (of_seat rest) (range_with_len 0 seat) ++ of_seat rest seat
one_more rest seat = rw (range_split 0 seat 0 (seat + 1) seat (omega arith) (omega arith))
    (flat_map-append (of_seat rest) (range_with_len 0 seat) (seat ∷ [])
    ∙ ap (λ (l : List Event). flat_map (of_seat rest) (range_with_len 0 seat) ++ l) (append-nil (of_seat rest seat)))

pub loop-seat-preserved : goal.loop-seat-preserved
loop-seat-preserved c =
    let rest = c.args.rest.now in
    let seat = c.loop-seat.seat in
    record { so_far = c.in_ok-push_some.ensures ∙ rw (c.loop-seat.invariant.so_far, c.next_of.ensures, one_more rest seat) refl }
