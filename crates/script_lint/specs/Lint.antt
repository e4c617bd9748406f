-- What is said of bytes that are no script.
use Rattle.std.specs.Prelude.{ℕ, ◌-◌, List, [], Option, None, option_map, unwrap_or, Result, Ok, Err}
use Rattle.task_base.specs.Plan.{Plan}
use Rattle.script_model.specs.Grammar.{first_fault, script_read}
use Rattle.script_lines.specs.declared.command.Command.{Command}
use Rattle.script_lines.specs.Said.{line_said}
use Rattle.line_places.specs.Bytes.{front_of, line_at}
use Rattle.lint_text.specs.declared.complaint.Complaint.TheVariants.{Breaks}
use Rattle.lint_text.specs.declared.objection.Objection.{Objection}
use Rattle.lint_text.specs.Objections.{at, objection_line}
use Rattle.script_lint.specs.Words.{word_objection}
use Rattle.script_lint.specs.Lines.{line_objection}

-- what is wrong with a command behind the bytes of the lines before it, if these are a script
abbrev pub objection_behind : Result Plan (ℕ × ℕ) → List ℕ → Command → ℕ → Option Objection
objection_behind (Err fault) front command reason = None
objection_behind (Ok script) front command reason = line_objection script front command reason

-- what is wrong with a line behind the bytes of the lines before it, by the line's reason: its words alone, or what it says behind
-- them
abbrev pub objection_by : Result Command ℕ → List ℕ → List ℕ → ℕ → Objection
objection_by (Err worded) front line reason = word_objection line reason
objection_by (Ok command) front line reason = unwrap_or (objection_behind (script_read front) front command reason) (at 1 (Breaks reason))

abbrev pub objection_of : List ℕ → List ℕ → ℕ → Objection
objection_of front line reason = objection_by (line_said line) front line reason

-- the line of text that says what is wrong with the line of this number of the bytes, by its reason
abbrev pub fault_line : List ℕ → ℕ → ℕ → List ℕ
fault_line bytes number reason = objection_line [] number (line_at bytes (number - 1)) (objection_of (front_of bytes (number - 1)) (line_at bytes (number - 1)) reason)

-- what is said of bytes: of their first fault, if they have one
abbrev pub lint_of : List ℕ → Option (List ℕ)
lint_of bytes = option_map (λ fault. fault_line bytes fault.0 fault.1) (first_fault bytes)
