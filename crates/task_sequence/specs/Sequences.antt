-- What contracts see of the sequences of a pool: for each a list of tasks and a cell.
use Rattle.std.specs.Prelude.{ℕ, Bool, not, List, [], ◌∷◌, filter, Option, Some, None, slice_index_or, slice_set}
use Rattle.std.specs.List.{count_by}
use Rattle.task_traits.specs.Behaviour.{forbids}
use Rattle.task_traits.specs.declared.phase.Phase.{Phase}
use Rattle.task_traits.specs.declared.traits.Behaviour.{Behaviour}
use Rattle.task_base.specs.declared.source.Key.{Key}

-- a task that waits, with its key and the behaviour that it has in effect
pub record Waiting : Type 0 where
  pub task : ℕ
  pub key : Key
  pub effective : Behaviour

-- a sequence: its tasks in order, and what its cell holds, or None while the cell is out
pub record Sequence : Type 0 where
  pub tasks : List Waiting
  pub cell : Option ℕ

-- the sequences by their number, how many more tasks there is room for, and for how many tasks in all memory is taken
pub record Held : Type 0 where
  pub sequences : List Sequence
  pub room : ℕ
  pub capacity : ℕ

-- no tasks, and a cell at home that holds 0
abbrev pub fresh : Sequence
fresh = record { tasks = []; cell = Some 0 }

-- the sequence of a number
abbrev pub sequence_at : Held → ℕ → Sequence
sequence_at held seq = slice_index_or held.sequences seq fresh

-- the sequences with another one under a number
abbrev pub with_sequence : Held → ℕ → Sequence → List Sequence
with_sequence held seq sequence = slice_set held.sequences seq sequence

-- the task that stands first, with its key
abbrev pub first_of : List Waiting → Option (ℕ × Key)
first_of [] = None
first_of (w ∷ ws) = Some (w.task, w.key)

-- what stands behind the first
abbrev pub behind_first : List Waiting → List Waiting
behind_first [] = []
behind_first (w ∷ ws) = ws

-- the first task with what the cell holds, if the list has a first and the cell is at home
abbrev pub given_of : List Waiting → Option ℕ → Option (ℕ × ℕ)
given_of [] cell = None
given_of (w ∷ ws) (Some value) = Some (w.task, value)
given_of (w ∷ ws) None = None

-- the phase lets the task start
abbrev pub may_stay : Phase → Waiting → Bool
may_stay phase w = not (forbids phase w.effective)

-- the sequence without the tasks that the phase forbids
abbrev pub purged : Phase → Sequence → Sequence
purged phase sequence = record sequence { tasks = filter (may_stay phase) sequence.tasks }

-- how many tasks of the sequence the phase forbids
abbrev pub forbidden_in : Phase → Sequence → ℕ
forbidden_in phase sequence = count_by (λ w. forbids phase w.effective) sequence.tasks
