-- What is wrong with a line of a script whose words alone are wrong: the first place for which the reason holds, and what it takes.
use Rattle.std.specs.Prelude.{ℕ, ◌==◌, if◌then◌else◌, List, drop, unwrap_or, Some, None}
use Rattle.std.specs.Result.{result_unwrap_or}
use Rattle.script_model.specs.Words.{words_of}
use Rattle.script_model.specs.Reasons.{not_ascii}
use Rattle.script_model.specs.Places.{number_at}
use Rattle.line_places.specs.declared.expected.Language.TheVariants.{Script}
use Rattle.line_places.specs.declared.expected.Expected.TheVariants.{Number}
use Rattle.line_places.specs.First.{first_beyond_ascii, first_place}
use Rattle.lint_text.specs.declared.complaint.Complaint.TheVariants.{NotAscii}
use Rattle.lint_text.specs.declared.objection.Objection.{Objection}
use Rattle.lint_text.specs.Objections.{at, unexpected}

-- a word has a byte above 127
abbrev pub ascii_objection : List ℕ → Objection
ascii_objection line = at (unwrap_or (first_beyond_ascii line) 1) NotAscii

-- the limit of all foreground work that a line says, or 64 where it says none
abbrev pub foreground_of : List ℕ → ℕ
foreground_of line = result_unwrap_or (number_at 1 64 (drop 1 (words_of line)) 0) 64

-- the limit of best-effort work is above that of all foreground work: the one reason of words that no place alone gives
abbrev pub above_foreground : List ℕ → ℕ → Objection
above_foreground line reason = at 3 (unexpected Script line (Number 1 (foreground_of line)) reason)

-- what is wrong with a line, by the least reason of its words
abbrev pub word_objection : List ℕ → ℕ → Objection
word_objection line reason =
    if reason == not_ascii then ascii_objection line
    else elim (first_place Script (Some reason) line) as (λ _. Objection) [
      | None ↦ above_foreground line reason
      | Some found ↦ at found.place (unexpected Script line found.expected reason)
    ]
