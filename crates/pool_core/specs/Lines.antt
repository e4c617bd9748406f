-- What the lists of the sequences, and their cells, stand for.
use Rattle.std.specs.Prelude.{◌≡◌, ℕ, ◌<◌, ◌&&◌, if◌then◌else◌, List, filter, map, length, Some, None}
use Rattle.task_base.specs.Plan.{Plan}
use Rattle.task_base.specs.Runners.{sequence_count}
use Rattle.task_base.specs.declared.entry.Entry.{Entry}
use Rattle.task_model.specs.Keys.{Ready}
use Rattle.task_model.specs.Sequences.{is_of, may_start}
use Rattle.task_model.specs.Refusal.{effective_at}
use Rattle.task_model.specs.Seats.{runs_sequence}
use Rattle.task_model.specs.Cells.{cell_of}
use Rattle.task_sequence.specs.Sequences.{Waiting, Held, sequence_at}

-- those of some tasks with keys that may be taken next of a sequence
abbrev pub line_in : Plan → List Entry → List Ready → ℕ → List Ready
line_in script past arrived s = filter (λ r. is_of script s r.posted && may_start script past r.posted) arrived

-- a task with its key as a sequence holds it
abbrev pub waiting_of : Plan → Ready → Waiting
waiting_of script r = record { task = r.posted.task; key = r.key; effective = effective_at script r.posted.home r.posted.delay }

-- the sequences hold those of these tasks that have not been taken and may start in the phase, in order; the cell of a
-- sequence that runs is out, and each other one is at home
pub record AreLines (script : Plan) (past : List Entry) (arrived : List Ready) (held : Held) : Type 0 where
  pub all : length held.sequences ≡ sequence_count script
  pub tasks : (s : ℕ) → s < sequence_count script → (sequence_at held s).tasks ≡ map (waiting_of script) (line_in script past arrived s)
  pub cells : (s : ℕ) → s < sequence_count script
      → (sequence_at held s).cell ≡ (if runs_sequence script past s then None else Some (cell_of script past s))
