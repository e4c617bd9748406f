-- The state that the tasks of a sequence, or of a main queue, hand on.
use Rattle.std.specs.Prelude.{ℕ, ◌==◌, ◌&&◌, if◌then◌else◌, List}
use Rattle.task_base.specs.Plan.{Plan}
use Rattle.task_base.specs.declared.entry.Entry.{Entry}
use Rattle.task_base.specs.declared.entry.Kind.{Kind}
use Rattle.task_base.specs.declared.entry.Kind.TheVariants.{End, MainEnd}
use Rattle.list_laws.specs.Lists.{holds_of}
use Rattle.task_model.specs.Past.{fold_past}
use Rattle.task_model.specs.Seats.{running, runs_of}

-- the cell of a sequence after an entry: an end of one of its tasks leaves a value
abbrev pub cell_after : Plan → ℕ → List Entry → ℕ → ℕ → Kind → ℕ
cell_after script s before value seat (End task left) = if holds_of (runs_of script s) (running before seat) then left else value
cell_after script s before value seat kind = value

-- what the last end of a task of the sequence left, or 0 (this project's own rule). The task is the one that the seat
-- runs, which an end names in every legal history
unfoldable pub cell_of : Plan → List Entry → ℕ → ℕ
cell_of script past s = fold_past (λ before value e. cell_after script s before value e.seat e.kind) 0 past

-- the cell of a main queue after an entry: an end of one of its tasks leaves a value
abbrev pub main_cell_after : ℕ → List Entry → ℕ → ℕ → Kind → ℕ
main_cell_after q before value seat (MainEnd task left) = if holds_of (λ w. w.is_main && w.home == q) (running before seat) then left else value
main_cell_after q before value seat kind = value

-- what the last end of a task of the main queue left, or 0 (this project's own rule)
unfoldable pub main_cell_of : List Entry → ℕ → ℕ
main_cell_of past q = fold_past (λ before value e. main_cell_after q before value e.seat e.kind) 0 past
