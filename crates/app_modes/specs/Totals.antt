-- What `bench` writes of what a log adds up to (this project's own form).
use Rattle.std.specs.Prelude.{ℕ, List, ◌∷◌, ◌++◌, codes, decimal}
use Rattle.run_summary.specs.declared.totals.Summary.{Summary}

-- a name and its number, with a line feed
abbrev pub total_line : List ℕ → ℕ → List ℕ
total_line name n = name ++ 32 ∷ decimal n ++ codes "\n"

-- the four lines of a summary
abbrev pub summary_text : Summary → List ℕ
summary_text s =
    total_line (codes "tasks") s.tasks ++ total_line (codes "items") s.items ++ total_line (codes "cells") s.cells ++ total_line (codes "sums") s.sums
