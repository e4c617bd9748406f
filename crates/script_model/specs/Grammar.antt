-- Which bytes are a script, and where the fault is in those that are none.
use Rattle.std.specs.Prelude.{◌≡◌, ℕ, ◌+◌, List, [], ◌∷◌, Option, Result, Ok, Err}
use Rattle.std.specs.Result.{result_err}
use Rattle.task_base.specs.Plan.{Plan}
use Rattle.script_model.specs.Words.{lines_of}
use Rattle.script_model.specs.Reasons.{◌>>=◌}
use Rattle.script_model.specs.Draft.{Draft, empty_draft, script_of}
use Rattle.script_model.specs.Lines.{line_read}

-- the reason, with the number of its line
abbrev pub at_line : {A : Type 0} → ℕ → Result A ℕ → Result A (ℕ × ℕ)
at_line number (Ok x) = Ok x
at_line number (Err reason) = Err (number, reason)

-- the draft that lines give behind one that earlier lines gave, or the first bad line, by its number, and its reason
unfoldable pub lines_read : Draft → ℕ → List (List ℕ) → Result Draft (ℕ × ℕ)
lines_read d number [] = Ok d
lines_read d number (line ∷ lines) = at_line number (line_read d line) >>= λ next. lines_read next (number + 1) lines

-- the script that the bytes are, or their first bad line, counted from 1, and its reason (this project's own form)
unfoldable pub script_read : List ℕ → Result Plan (ℕ × ℕ)
script_read bytes = lines_read empty_draft 1 (lines_of bytes) >>= λ d. Ok (script_of d)

-- the bytes are this script
abbrev pub Reads : List ℕ → Plan → Type 0
Reads bytes script = script_read bytes ≡ Ok script

-- the first bad line and its reason, if there is one
abbrev pub first_fault : List ℕ → Option (ℕ × ℕ)
first_fault bytes = result_err (script_read bytes)
