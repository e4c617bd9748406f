-- A spare desk that is the only one.
-- Cited by `drive_seats`.
use Rattle.std.proofs.Common.{◌≡◌, zero, suc, ◌≤◌, List, [], ◌∷◌, ◌++◌, length, true, refl, sym, ap, ◌∙◌, arith, length-append}
use Rattle.std.proofs.lemmas.Option.{none-some}
use Rattle.list_laws.proofs.Values.{some-injective}
use Rattle.task_base.specs.Plan.{Plan}
use Rattle.task_model.specs.Seats.{holding, running}
use Rattle.turn_table.specs.Seats.{TurnKey, SeatView}
use Rattle.env_crew.specs.Driving.{AllFree, SameDesks}
use Rattle.env_shared.specs.Sits.{Seated, SitterView, desk_of}
use Rattle.env_shared.proofs.Sits.{same_environment}
use Rattle.worked_calls.specs.Known.{IsOf, worker_seat}

-- it is free at the start
pub free_alone : (key : TurnKey) (script : Plan) (s : SitterView) → s.seat ≡ worker_seat key 1 → key.basis ≡ script → 1 ≤ script.workers
    → AllFree desk_of (s ∷ [])
unfolding holding running
free_alone key script s is basis some zero d here =
    rw (← some-injective here) (record { worker = rw is (omega arith); known = rw (is, basis) some; free = rw is refl })
free_alone key script s is basis some (suc i) d here = absurd (none-some d here)

-- it came back where it is popped
pub back_alone : (key : TurnKey) (s d : SitterView) (olds news left : List SitterView) → s.seat ≡ worker_seat key 1 → Seated s.seat → olds ≡ s ∷ []
    → SameDesks desk_of olds news → news ≡ left ++ d ∷ [] → Seated d.seat → IsOf key 1 d.seat
back_alone key s d olds news [] is at_first old same now seated =
    let later = same.each 0 s d (rw old refl) (rw now refl) in
    let stands : key.stands ≡ true = ap (λ (x : SeatView). x.of.stands) (sym is) ∙ at_first.stands in
    record {
      of_is = same_environment key d.seat (ap (λ o. o.table) later.origin_is ∙ ap (λ (x : SeatView). x.of.table) is)
          (later.script_is ∙ ap (λ (x : SeatView). x.of.basis) is) stands seated;
      number_is = later.seat_is ∙ ap (λ (x : SeatView). x.number) is;
    }
back_alone key s d olds news (x ∷ xs) is at_first old same now seated =
    absurd (omega (arith, same.as_many, ap length old, ap length now, length-append xs (d ∷ [])))
