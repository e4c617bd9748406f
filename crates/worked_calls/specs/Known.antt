-- What a test knows behind its calls.
use Rattle.std.specs.Prelude.{◌≡◌, ℕ, ◌≤◌, false, true, List, [], ◌∷◌, ◌++◌, length, Some, filter}
use Rattle.task_base.specs.Plan.{Plan}
use Rattle.task_base.specs.Steps.{is_act}
use Rattle.task_base.specs.declared.entry.Entry.{Entry}
use Rattle.task_base.specs.declared.entry.Kind.{Kind}
use Rattle.task_model.specs.Seats.{acts_done, running, steps_of}
use Rattle.hist_model.specs.Views.{own_entries}
use Rattle.task_body.specs.Bodies.{AssignmentView}
use Rattle.turn_table.specs.Seats.{TurnKey, SeatView}
use Rattle.env_core.specs.Views.{EnvView}
use Rattle.env_crew.specs.Desk.{DeskView, mine}
use Rattle.env_crew.specs.Serving.{IsFree}
use Rattle.env_shared.specs.Sits.{desk_of}

-- the environment of a script of which nothing is done
abbrev pub at_start : Plan → EnvView
at_start script = record { script = script; history = [] }

-- the environment with one more entry
abbrev pub with_entry : EnvView → ℕ → Kind → EnvView
with_entry view seat kind = record view { history = view.history ++ record { seat = seat; kind = kind } ∷ [] }

-- the assignment is that of this task, which was posted to the first runner and found nothing
pub record IsWork (script : Plan) (task : ℕ) (work : AssignmentView) : Type 0 where
  pub task_is : work.task ≡ task
  pub home_is : work.home ≡ 0
  pub found_is : work.found ≡ 0
  pub whole_is : work.whole ≡ steps_of script task

-- the worker runs this task, whose act steps were all entered
pub record IsLast (view : EnvView) (seat task : ℕ) : Type 0 where
  pub known : seat ≤ view.script.workers
  pub runs : running (own_entries seat view.history) seat ≡ Some (record { task = task; home = 0; found = 0; is_main = false })
  pub all_entered : acts_done (own_entries seat view.history) seat ≡ length (filter is_act (steps_of view.script task))

-- the driver runs this task of the first main queue, which found nothing there, and whose act steps were all entered
pub record IsLastMain (view : EnvView) (task : ℕ) : Type 0 where
  pub runs : running (own_entries 0 view.history) 0 ≡ Some (record { task = task; home = 0; found = 0; is_main = true })
  pub all_entered : acts_done (own_entries 0 view.history) 0 ≡ length (filter is_act (steps_of view.script task))

-- the driver's seat, of which so many were drawn
abbrev pub driver_seat : TurnKey → ℕ → SeatView
driver_seat key made = record { of = key; number = 0; seen = []; mine = []; made = made; loads = 0; last = 0; turns = 0; told = false }

-- a worker's seat that was just drawn
abbrev pub worker_seat : TurnKey → ℕ → SeatView
worker_seat key number = record { of = key; number = number; seen = []; mine = []; made = 0; loads = 0; last = 0; turns = 0; told = false }

-- the seat is of the shared environment, with this number, and has drawn so many
pub record IsBack (key : TurnKey) (number made : ℕ) (seat : SeatView) : Type 0 where
  pub of_is : seat.of ≡ key
  pub number_is : seat.number ≡ number
  pub made_is : seat.made ≡ made

-- the seat is of the shared environment, and has this number
pub record IsOf (key : TurnKey) (number : ℕ) (seat : SeatView) : Type 0 where
  pub of_is : seat.of ≡ key
  pub number_is : seat.number ≡ number

-- the seat is of the shared environment, and a worker's that runs nothing
pub record CanAsk (key : TurnKey) (seat : SeatView) : Type 0 where
  pub of_is : seat.of ≡ key
  pub known : seat.number ≤ key.basis.workers
  pub free : IsFree (desk_of (record { seat = seat; rests = false }))

-- the desk has this script and number, and these entries of its own
pub record IsAtDesk (script : Plan) (seat : ℕ) (own : List Entry) (d : DeskView) : Type 0 where
  pub script_is : d.script ≡ script
  pub seat_is : d.seat ≡ seat
  pub own_is : mine d ≡ own
