-- How the sequences lie in the lines: each has the ends of its list, and its cell while that is at home.
use Rattle.std.specs.Prelude.{◌≡◌, ◌≢◌, ℕ, List, map, Option, Some, slice_index_or}
use Rattle.std.specs.List.{sum_by}
use Rattle.task_sequence.specs.Sequences.{Sequence}
use Rattle.task_sequence.specs.Links.{tasks_of, IsLinked, Apart}
use Rattle.task_sequence.specs.declared.links.Node.{Node}
use Rattle.task_sequence.specs.declared.links.Ends.{Ends}
use Rattle.task_sequence.specs.declared.lines.Line.{Line}

-- the ends of an empty list
abbrev pub no_ends : Ends
no_ends = record { first = 0; last = 0; count = 0 }

-- the line of a sequence without tasks, whose cell holds 0
abbrev pub fresh_line : Line
fresh_line = record { ends = no_ends; cell = Some 0 }

-- the ends of a sequence's list
abbrev pub ends_at : List Line → ℕ → Ends
ends_at lines seq = (slice_index_or lines seq fresh_line).ends

-- what a line says of its sequence
abbrev pub sequence_of : List (Option Node) → Line → Sequence
sequence_of slots line = record { tasks = tasks_of slots line.ends; cell = line.cell }

-- what the lines say of the sequences
abbrev pub sequences_of : List (Option Node) → List Line → List Sequence
sequences_of slots lines = map (sequence_of slots) lines

-- each list is linked, no two have a node in common, and so many tasks are held
pub record IsWhole (slots : List (Option Node)) (lines : List Line) (held : ℕ) : Type 0 where
  pub linked : (seq : ℕ) → IsLinked slots (ends_at lines seq)
  pub apart : (a b : ℕ) → a ≢ b → Apart (ends_at lines a) (ends_at lines b)
  pub counted : sum_by (λ line. line.ends.count) lines ≡ held
