-- What is known of the workers of a script while they are started, serve, and come back.
use Rattle.std.specs.Prelude.{◌≡◌, ℕ, ◌+◌, ◌-◌, ◌≤◌, true, List, [], ◌∷◌, length, map, slice_get, Option, Some, None}
use Rattle.task_base.specs.Rows.{Listed}
use Rattle.task_model.specs.Seats.{is_free}
use Rattle.hist_model.specs.Script.{current}
use Rattle.turn_table.specs.Seats.{TurnKey, SeatView}
use Rattle.env_crew.specs.Serving.{IsFree}
use Rattle.env_shared.specs.Sits.{SitterView, desk_of}
use Rattle.env_shared.specs.Splits.{AreWorkers}

-- the numbers of the starts that were refused, where the first start was that of this worker and the others fall from there
abbrev pub refused : {H : Type 0} → ℕ → List (Option H) → List ℕ
refused number [] = []
refused number (None ∷ starts) = number ∷ refused (number - 1) starts
refused number (Some handle ∷ starts) = refused (number - 1) starts

-- each start that was not refused was given the seat of its number
abbrev pub ArePromised : {H : Type 0} → (H → SeatView) → TurnKey → ℕ → List (Option H) → Type 0
ArePromised {H} given key number starts = (i : ℕ) (handle : H) → slice_get starts i ≡ Some (Some handle)
    → ((given handle).of ≡ key) × ((given handle).number ≡ number - i)

-- a desk at the shared environment, of a worker that runs nothing
pub record IsSpare (key : TurnKey) (desk : SitterView) : Type 0 where
  pub table_is : desk.seat.of.table ≡ key.table
  pub script_is : desk.seat.of.basis ≡ key.basis
  pub free : IsFree (desk_of desk)

-- the desks are such, and are those of these workers
pub record AreSpare (key : TurnKey) (numbers : List ℕ) (desks : List SitterView) : Type 0 where
  pub numbers_are : map (λ d. d.seat.number) desks ≡ numbers
  pub each : (i : ℕ) (desk : SitterView) → slice_get desks i ≡ Some desk → IsSpare key desk

-- of so many workers the seats of the first ones are left, with room for their starts and desks, and each other one was started
-- or has a spare desk
pub record AreStarted {H : Type 0} (given : H → SeatView) (key : TurnKey) (workers : ℕ) (seats : List SeatView) (starts : Listed (Option H))
    (spare : Listed SitterView) : Type 0 where
  pub left : AreWorkers key 1 seats
  pub all : length seats + length starts.items ≡ workers
  pub promised : ArePromised given key workers starts.items
  pub spare_are : AreSpare key (refused workers starts.items) spare.items
  pub room : length seats ≤ starts.spare
  pub spare_room : length seats ≤ spare.spare

-- the driver's seat and the workers' seats, which came back when the script was performed
pub record AreBack (key : TurnKey) (workers : ℕ) (first : SeatView) (rest : List SeatView) : Type 0 where
  pub of_is : first.of ≡ key
  pub number_is : first.number ≡ 0
  pub made_is : first.made ≡ workers + 1
  pub finished : current key.basis first.mine ≡ None
  pub free : is_free first.mine 0 ≡ true
  pub all : length rest ≡ workers
  pub rising : AreWorkers key 1 rest
