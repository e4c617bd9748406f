-- Words of the laws on what seats run and hold, and on cells.
use Rattle.std.specs.Prelude.{ℕ, ◌==◌, Bool, List, [], ◌∷◌, ◌+◌, ◌<◌, not}
use Rattle.task_base.specs.Plan.{Plan}
use Rattle.task_base.specs.declared.entry.Entry.{Entry}
use Rattle.task_base.specs.declared.entry.Kind.{Kind}
use Rattle.task_model.specs.Seats.{running, holding}
use Rattle.list_laws.specs.Lists.{holds_of}
use Rattle.pool_laws.specs.Moves.{Part, Takes, Ends, MainTakes, MainEnds, Items, moves}

-- the kinds that leave a value in the cell of a sequence, and in that of a main queue
abbrev pub moves_cells : Kind → Bool
moves_cells = moves (Ends ∷ [])

abbrev pub moves_main_cells : Kind → Bool
moves_main_cells = moves (MainEnds ∷ [])

-- the kinds at which the driver takes or ends a main task
abbrev pub main_parts : List Part
main_parts = MainTakes ∷ MainEnds ∷ []

abbrev pub moves_main : Kind → Bool
moves_main = moves main_parts

-- the kinds that change what a seat runs, and what it holds
abbrev pub running_parts : List Part
running_parts = Takes ∷ Ends ∷ main_parts

abbrev pub moves_running : Kind → Bool
moves_running = moves running_parts

abbrev pub moves_holding : Kind → Bool
moves_holding = moves (Items ∷ [])

abbrev pub seat_parts : List Part
seat_parts = Items ∷ running_parts

abbrev pub moves_seats : Kind → Bool
moves_seats = moves seat_parts

-- the seat is one of the script's
abbrev pub IsSeat : Plan → ℕ → Type 0
IsSeat script seat = seat < script.workers + 1

-- the seat runs a task of the pool
abbrev pub runs_pool_task : List Entry → ℕ → Bool
runs_pool_task past seat = holds_of (λ w. not w.is_main) (running past seat)

-- the seat holds an item of the job
abbrev pub holds_job : List Entry → ℕ → ℕ → Bool
holds_job past seat j = holds_of (λ h. h.job == j) (holding past seat)
