-- Events each of which is right are of seats that there are.
-- Cited by `answer_to`.
use Rattle.std.proofs.Common.{◌≡◌, ℕ, zero, suc, ◌≤◌, true, List, [], ◌∷◌, ◌++◌, arith}
use Rattle.std.specs.Prelude.{All, not, ◌&&◌}
use Rattle.std.proofs.lemmas.Bool.{and_parts, ltb-false, not-true}
use Rattle.std.specs.List.{list_any}
use Rattle.order_model.specs.declared.event.Event.{Event}
use Rattle.event_text.specs.Mistakes.{are_right, has_no_seat, is_backwards, is_before_own, is_right}

-- one that is right is of such a seat
seat_there : (workers : ℕ) (before : List Event) (e : Event) → is_right workers before e ≡ true → e.entry.seat ≤ workers
seat_there workers before e right =
    let first = and_parts (not (has_no_seat workers e) && not (is_backwards e.span)) (not (list_any (is_before_own e) before)) right in
    let seat = and_parts (not (has_no_seat workers e)) (not (is_backwards e.span)) first.0 in
    ltb-false workers e.entry.seat (not-true (has_no_seat workers e) seat.0)

pub right_seated : (workers : ℕ) (before events : List Event) → are_right workers before events ≡ true → All (λ (e : Event). e.entry.seat ≤ workers) events
right_seated workers before [] right i d within = absurd (omega (arith, within))
right_seated workers before (e ∷ events) right zero d within =
    seat_there workers before e (and_parts (is_right workers before e) (are_right workers (before ++ e ∷ []) events) right).0
right_seated workers before (e ∷ events) right (suc i) d within =
    right_seated workers (before ++ e ∷ []) events (and_parts (is_right workers before e) (are_right workers (before ++ e ∷ []) events) right).1 i d
    (omega (arith, within))
