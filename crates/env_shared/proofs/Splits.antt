-- Seats that are split off, in rising order.
-- Cited by `Shared::split_all`, `env_threads`.
use Rattle.std.proofs.Common.{◌≡◌, ℕ, ◌+◌, List, [], ◌∷◌, ◌++◌, length, refl, subst, arith}
use Rattle.task_model.specs.Seats.{running, holding}
use Rattle.turn_table.specs.Seats.{TurnKey, SeatView}
use Rattle.env_shared.specs.Splits.{IsWorker, AreWorkers}

pub workers_push : (key : TurnKey) (n : ℕ) (seats : List SeatView) (s : SeatView) → AreWorkers key n seats → IsWorker key (n + length seats) s
    → AreWorkers key n (seats ++ s ∷ [])
workers_push key n [] s all worker = (subst (λ k. IsWorker key k s) (omega arith) worker, tt)
workers_push key n (x ∷ seats) s all worker = (all.0, workers_push key (n + 1) seats s all.1 (subst (λ k. IsWorker key k s) (omega arith) worker))

-- a seat that was just split off
pub fresh : (key : TurnKey) (n : ℕ) (s : SeatView) → s.of ≡ key → s.number ≡ n → s.mine ≡ [] → IsWorker key n s
unfolding running holding
fresh key n s of_is number_is none = record { of_is = of_is; number_is = number_is; free = rw none refl }
