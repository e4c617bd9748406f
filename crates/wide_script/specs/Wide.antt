-- The wide script of a number and a size (this project's own rule).
use Rattle.std.specs.Prelude.{ℕ, nat_le, if◌then◌else◌, List, length, Result, Ok, Err}
use Rattle.task_base.specs.Plan.{Plan}
use Rattle.task_base.specs.declared.limits.TheConstants.{MOST_BYTES}
use Rattle.script_model.specs.Canonical.{canonical}
use Rattle.script_model.specs.Grammar.{script_read}
use Rattle.task_script.specs.Generated.{generated}
use Rattle.wide_script.specs.Draws.{drawing}
use Rattle.wide_script.specs.Drawn.{drawn}
use Rattle.wide_script.specs.declared.parts.Parts.{Parts}

-- the script that was read, or another one where none was
abbrev pub read_or : Result Plan (ℕ × ℕ) → Plan → Plan
read_or (Ok script) other = script
read_or (Err fault) other = other

-- the script that a text is, and another one where it is none, or longer than what the program reads
abbrev pub script_or : List ℕ → Plan → Plan
script_or text other = if nat_le (length text) MOST_BYTES then read_or (script_read text) other else other

-- the script that is drawn, if its text is one that the program reads, and else the one that `gen` makes without drawing
unfoldable pub wide : ℕ → ℕ → Parts → Plan
wide number size parts = script_or (canonical (drawn (drawing number size parts))) (generated number size)
