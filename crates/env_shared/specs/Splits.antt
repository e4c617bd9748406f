-- The seats of the driver and of the workers, as they are split off the driver's.
use Rattle.std.specs.Prelude.{◌≡◌, ℕ, ◌+◌, true, List, [], ◌∷◌}
use Rattle.task_model.specs.Seats.{is_free}
use Rattle.turn_table.specs.Seats.{TurnKey, SeatView}

-- the worker's seat of this number, of the shared environment; it runs nothing
pub record IsWorker (key : TurnKey) (number : ℕ) (seat : SeatView) : Type 0 where
  pub of_is : seat.of ≡ key
  pub number_is : seat.number ≡ number
  pub free : is_free seat.mine number ≡ true

-- the workers' seats from this number on, in rising order
abbrev pub AreWorkers : TurnKey → ℕ → List SeatView → Type 0
AreWorkers key number [] = Unit {0}
AreWorkers key number (seat ∷ rest) = IsWorker key number seat × AreWorkers key (number + 1) rest

-- the driver's seat, of the shared environment; it has no entries, and the workers' seats are split off it
pub record IsDriver (key : TurnKey) (workers : ℕ) (seat : SeatView) : Type 0 where
  pub of_is : seat.of ≡ key
  pub number_is : seat.number ≡ 0
  pub mine_is : seat.mine ≡ []
  pub made_is : seat.made ≡ workers + 1
