-- What one seat sees of the history, and what is its own.
use Rattle.std.specs.Prelude.{◌≡◌, ℕ, ◌==◌, List, ◌++◌, filter, Some}
use Rattle.task_base.specs.Plan.{Plan}
use Rattle.task_base.specs.declared.step.Step.{Step}
use Rattle.task_base.specs.declared.entry.Entry.{Entry}
use Rattle.task_model.specs.Seats.{Running, running, holding, steps_of}

-- the history begins with what was seen
abbrev pub IsPrefix : List Entry → List Entry → Type 0
IsPrefix seen history = (rest : List Entry) × (history ≡ seen ++ rest)

-- the entries of a seat
abbrev pub own_entries : ℕ → List Entry → List Entry
own_entries seat past = filter (λ e. e.seat == seat) past

-- a task with its home, the value that it found, and its steps, is what the seat runs by its own entries
pub record IsSeatsAssignment (script : Plan) (mine : List Entry) (seat task home found : ℕ) (whole : List Step) : Type 0 where
  pub now : Running
  pub runs : running mine seat ≡ Some now
  pub task_is : task ≡ now.task
  pub home_is : home ≡ now.home
  pub found_is : found ≡ now.found
  pub whole_is : whole ≡ steps_of script now.task

-- an item of a job, held under this number, is what the seat holds by its own entries
abbrev pub IsSeatsPass : List Entry → ℕ → ℕ → ℕ → ℕ → Type 0
IsSeatsPass mine seat job id item = holding mine seat ≡ Some (record { job = job; id = id; item = item })
