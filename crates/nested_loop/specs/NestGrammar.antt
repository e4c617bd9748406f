-- Which bytes are a nest script, and where the fault is in those that are none.
use Rattle.std.specs.Prelude.{◌≡◌, ℕ, ◌+◌, List, [], ◌∷◌, Option, Result, Ok}
use Rattle.std.specs.Result.{result_err}
use Rattle.script_model.specs.Words.{lines_of}
use Rattle.script_model.specs.Reasons.{◌>>=◌}
use Rattle.script_model.specs.Grammar.{at_line}
use Rattle.nested_loop.specs.Plan.{NestPlan}
use Rattle.nested_loop.specs.NestLines.{nest_line_read}

-- what no line gives
abbrev pub empty_nest : NestPlan
empty_nest = record { classes = []; tasks = []; actions = [] }

-- the nest that lines give behind one that earlier lines gave, or the first bad line, by its number, and its reason
unfoldable pub nest_lines_read : NestPlan → ℕ → List (List ℕ) → Result NestPlan (ℕ × ℕ)
nest_lines_read nest number [] = Ok nest
nest_lines_read nest number (line ∷ lines) = at_line number (nest_line_read nest line) >>= λ next. nest_lines_read next (number + 1) lines

-- the nest that the bytes are, or their first bad line, counted from 1, and its reason (this project's own form)
unfoldable pub nest_read : List ℕ → Result NestPlan (ℕ × ℕ)
nest_read bytes = nest_lines_read empty_nest 1 (lines_of bytes)

-- the bytes are this nest
abbrev pub ReadsNest : List ℕ → NestPlan → Type 0
ReadsNest bytes nest = nest_read bytes ≡ Ok nest

-- the first bad line and its reason, if there is one
abbrev pub nest_fault : List ℕ → Option (ℕ × ℕ)
nest_fault bytes = result_err (nest_read bytes)
