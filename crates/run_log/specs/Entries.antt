-- The words of a line, and the entry that they are at a place.
use Rattle.std.specs.Prelude.{ℕ, ◌==◌, if◌then◌else◌, List, ◌∷◌, Option, Some, None}
use Rattle.std.specs.List.{slice_split}
use Rattle.task_base.specs.declared.entry.Entry.{Entry}
use Rattle.numeral_text.specs.Number.{number_of}
use Rattle.entry_lines.specs.Kinds.{◌>>=◌, kind_of}

-- what stands between the spaces of a line, also where that is nothing (this project's own rule)
abbrev pub spaced_words : List ℕ → List (List ℕ)
spaced_words line = slice_split (λ byte. byte == 32) line

-- the entry, by the words of its line at a place (this project's own)
unfoldable pub entry_of : ℕ → List (List ℕ) → Option Entry
entry_of place (first ∷ seat ∷ words) = do
  written ← number_of 32 first
  number ← number_of 32 seat
  kind ← kind_of words
  if written == place then Some (record { seat = number; kind = kind }) else None
entry_of place words = None
