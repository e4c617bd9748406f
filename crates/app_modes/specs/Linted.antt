-- What `lint` says of its input.
use Rattle.std.specs.Prelude.{ℕ, List, [], Option, Some, None, Result, Ok, Err}
use Rattle.task_base.specs.Plan.{Plan}
use Rattle.command_line.specs.declared.words.Linted.{Linted}
use Rattle.command_line.specs.declared.words.Linted.TheVariants.{Script, Replies, Nest}
use Rattle.script_model.specs.Grammar.{script_read}
use Rattle.app_streams.specs.Parts.{part_behind, script_part}
use Rattle.script_lint.specs.Lint.{lint_of}
use Rattle.reply_lint.specs.Lint.{reply_lint_of}
use Rattle.nest_lint.specs.Lint.{nest_lint_of}

-- what is said of replies behind a script that was read, or of the script
abbrev pub replies_said : Result Plan (ℕ × ℕ) → List ℕ → Option (List ℕ)
replies_said (Err fault) bytes = lint_of (script_part bytes)
replies_said (Ok script) bytes = reply_lint_of script (part_behind bytes)

-- what is said of an input that is none: one line, with its line feed
abbrev pub lint_said : Linted → List ℕ → Option (List ℕ)
lint_said Script bytes = lint_of bytes
lint_said Replies bytes = replies_said (script_read (script_part bytes)) bytes
lint_said Nest bytes = nest_lint_of bytes

-- this holds of status 0 and no text, or where something is said of status 1 and what it is
abbrev pub IsSaid : Option (List ℕ) → (ℕ → List ℕ → Type 0) → Type 0
IsSaid None Holds = Holds 0 []
IsSaid (Some text) Holds = Holds 1 text
