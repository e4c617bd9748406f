-- Whether an objection to a line says what is wrong there, and not only that the line breaks a rule.
use Rattle.std.specs.Prelude.{ℕ, ◌==◌, ◌&&◌, ◌||◌, Bool, true, false, codes, List, Option, Some, None}
use Rattle.std.specs.Option.{option_and_then}
use Rattle.script_model.specs.Words.{is_word, is_mark}
use Rattle.script_model.specs.Reasons.{out_of_range, word_count}
use Rattle.lint_text.specs.declared.complaint.Complaint.{Complaint}
use Rattle.lint_text.specs.declared.complaint.Complaint.TheVariants.{Breaks}
use Rattle.lint_text.specs.declared.objection.Objection.{Objection}
use Rattle.line_places.specs.declared.expected.Language.TheVariants.{Script}
use Rattle.line_places.specs.declared.expected.Expected.{Expected}
use Rattle.line_places.specs.declared.expected.Expected.TheVariants.{Number}
use Rattle.line_places.specs.Faults.{fault_of, is_required, takes_word}
use Rattle.line_places.specs.Words.{command_of, word_at}
use Rattle.script_lint.specs.Words.{foreground_of}

-- the complaint is not only that a rule is broken
abbrev pub says_why : Complaint → Bool
says_why (Breaks reason) = false
says_why complaint = true

-- there is an objection, and it says what is wrong
abbrev pub is_told : Option Objection → Bool
is_told None = false
is_told (Some objection) = says_why objection.complaint

-- there is a fault, and it has this reason
abbrev pub is_reason : ℕ → Option ℕ → Bool
is_reason reason None = false
is_reason reason (Some fault) = fault == reason

-- the reason holds of a place where this is expected: the word there can't stand there, or one is needed and missing, at the end of
-- the line or before a `;`
abbrev pub holds_at : ℕ → Expected → Option (List ℕ) → Bool
holds_at reason expected None = is_required expected && word_count == reason
holds_at reason expected (Some word) =
    is_reason reason (fault_of Script expected word) || (is_mark word && (takes_word expected && word_count == reason))

-- why the word can't stand where this is expected, if there is one, and it can't
abbrev pub word_fault : Expected → Option (List ℕ) → Option ℕ
word_fault expected word = option_and_then (λ word. fault_of Script expected word) word

-- the one reason of words that no place alone gives: the second limit of `groups` is a number, but none from 1 to the first
abbrev pub is_above_foreground : List ℕ → ℕ → Bool
is_above_foreground line reason =
    reason == out_of_range && (is_word (command_of line) (codes "groups")
    && is_reason reason (word_fault (Number 1 (foreground_of line)) (word_at line 3)))
