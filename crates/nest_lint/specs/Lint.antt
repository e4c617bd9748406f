-- What is said of bytes that are no nest script.
use Rattle.std.specs.Prelude.{ℕ, ◌-◌, ◌==◌, if◌then◌else◌, List, [], Option, None, option_map, unwrap_or, Result, Ok, Err}
use Rattle.line_places.specs.declared.expected.Language.TheVariants.{Nest}
use Rattle.line_places.specs.Bytes.{front_of, line_at}
use Rattle.lint_text.specs.declared.complaint.Complaint.TheVariants.{Breaks}
use Rattle.lint_text.specs.declared.objection.Objection.{Objection}
use Rattle.lint_text.specs.Objections.{at, by_words, objection_line}
use Rattle.nested_loop.specs.Plan.{NestPlan}
use Rattle.nested_loop.specs.NestGrammar.{nest_fault, nest_read}
use Rattle.nested_loop.specs.NestReasons.{bad_nest_line}
use Rattle.nest_lint.specs.Objections.{nest_objection}

-- what is wrong with a line behind the bytes of the lines before it, if these are a nest script
abbrev pub objection_behind : Result NestPlan (ℕ × ℕ) → List ℕ → List ℕ → ℕ → Option Objection
objection_behind (Err fault) front line reason = None
objection_behind (Ok nest) front line reason = nest_objection nest front line reason

-- what is wrong with a line behind the bytes of the lines before it, by the line's reason: its words alone, or what it says behind
-- them
unfoldable pub objection_of : List ℕ → List ℕ → ℕ → Objection
objection_of front line reason =
    if reason == bad_nest_line then by_words Nest line
    else unwrap_or (objection_behind (nest_read front) front line reason) (at 1 (Breaks reason))

-- the line of text that says what is wrong with the line of this number of the bytes, by its reason
abbrev pub fault_line : List ℕ → ℕ → ℕ → List ℕ
fault_line bytes number reason =
    objection_line [] number (line_at bytes (number - 1)) (objection_of (front_of bytes (number - 1)) (line_at bytes (number - 1)) reason)

-- what is said of bytes: of their first bad line, if they have one
abbrev pub nest_lint_of : List ℕ → Option (List ℕ)
nest_lint_of bytes = option_map (λ fault. fault_line bytes fault.0 fault.1) (nest_fault bytes)
