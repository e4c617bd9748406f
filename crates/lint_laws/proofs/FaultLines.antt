-- What is said of the first fault of bytes is what is wrong there.
-- Cited by `each_fault_says_what_is_wrong`.
use Rattle.std.proofs.Common.{◌≡◌, ℕ, ◌-◌, ◌<◌, Bool, true, false, cond, eqb, List, length, refl, sym, ap, subst, ◌∙◌}
use Rattle.std.proofs.Common.{Option, Some, None, Result, Ok, Err, arith}
use Rattle.std.specs.Prelude.{unwrap_or}
use Rattle.std.proofs.lemmas.Option.{slice_get_within, same_Some}
use Rattle.script_model.specs.Words.{lines_of}
use Rattle.script_model.specs.Reasons.{◌>>=◌, not_ascii}
use Rattle.script_model.specs.Draft.{Draft, script_of}
use Rattle.script_model.specs.Grammar.{script_read, first_fault}
use Rattle.script_model.specs.Lines.{line_read}
use Rattle.script_model.proofs.Laws.Faults.{first_fault-only}
use Rattle.script_lines.specs.declared.command.Command.{Command}
use Rattle.script_lines.specs.Said.{line_said}
use Rattle.task_script.specs.Added.{added}
use Rattle.task_script.proofs.ReadLines.{line-read}
use Rattle.line_places.specs.declared.expected.Language.TheVariants.{Script}
use Rattle.line_places.specs.declared.expected.Found.{Found}
use Rattle.line_places.specs.First.{first_place}
use Rattle.line_places.specs.Bytes.{front_of, line_at}
use Rattle.lint_text.specs.declared.objection.Objection.{Objection}
use Rattle.lint_text.specs.Objections.{at, unexpected}
use Rattle.script_lint.specs.Words.{ascii_objection, above_foreground, word_objection}
use Rattle.script_lint.specs.Lint.{objection_behind, objection_by, objection_of}
use Rattle.lint_laws.specs.Told.{says_why, is_told}
use Rattle.lint_laws.proofs.CutLines.{line_at-cut, front_of-read}
use Rattle.lint_laws.proofs.RefusedLines.{refused_told}

-- an objection to words is no mere rule that is broken
words_told : (line : List ℕ) (reason : ℕ) → says_why (word_objection line reason).complaint ≡ true
words_told line reason = by_reason (eqb reason not_ascii) (first_place Script (Some reason) line)
  where
    by_reason : (b : Bool) (o : Option Found) → says_why (cond b (ascii_objection line) (elim o as (λ _. Objection) [
      | None ↦ above_foreground line reason
      | Some found ↦ at found.place (unexpected Script line found.expected reason)
    ])).complaint ≡ true
    by_reason true o = refl
    by_reason false None = refl
    by_reason false (Some found) = refl

-- an objection that is told is so in the place of another
told_first : (o : Option Objection) (other : Objection) → is_told o ≡ true → says_why (unwrap_or o other).complaint ≡ true
told_first None other told = absurd cc
told_first (Some objection) other told = told

-- the objection to a line that is bad behind a draft
line_told : (d : Draft) (front line : List ℕ) (reason : ℕ) → script_read front ≡ Ok (script_of d) → line_read d line ≡ Err reason
    → says_why (objection_of front line reason).complaint ≡ true
line_told d front line reason before bad = by_words (line_said line) (sym (line-read d line) ∙ bad)
  where
    by_words : (r : Result Command ℕ) → (r >>= added d) ≡ Err reason → says_why (objection_by r front line reason).complaint ≡ true
    by_words (Err worded) e = words_told line reason
    by_words (Ok command) e =
        rw before (told_first (objection_behind (Ok (script_of d)) front command reason) _ (refused_told d front command reason e))

-- the first fault, as a line that is bad behind a draft
fault_line : (bytes : List ℕ) (line reason : ℕ) → first_fault bytes ≡ Some (line, reason)
    → (d : Draft) × (script_read (front_of bytes (line - 1)) ≡ Ok (script_of d)) × (line_read d (line_at bytes (line - 1)) ≡ Err reason)
fault_line bytes line reason fault =
    let found = first_fault-only bytes line reason fault in
    let k = found.0 in
    let bad = found.2 in
    let number : line - 1 ≡ k = omega (arith, found.1) in
    let within : k < length (lines_of bytes) = slice_get_within (lines_of bytes) k bad.line bad.here in
    let same : bad.line ≡ line_at bytes k = same_Some bad.line (line_at bytes k) (sym bad.here ∙ line_at-cut bytes k within) in
    let here : line_read bad.draft (line_at bytes k) ≡ Err reason = subst (λ l. line_read bad.draft l ≡ Err reason) same bad.fault in
    rw number (bad.draft, front_of-read bytes k bad.draft within bad.before, here)

pub fault_told : (bytes : List ℕ) (line reason : ℕ) → first_fault bytes ≡ Some (line, reason)
    → says_why (objection_of (front_of bytes (line - 1)) (line_at bytes (line - 1)) reason).complaint ≡ true
fault_told bytes line reason fault =
    let bad = fault_line bytes line reason fault in
    line_told bad.0 (front_of bytes (line - 1)) (line_at bytes (line - 1)) reason bad.1 bad.2

-- where the words of its line are wrong, their reason is the fault's
pub fault_worded : (bytes : List ℕ) (line reason worded : ℕ) → first_fault bytes ≡ Some (line, reason) → line_said (line_at bytes (line - 1)) ≡ Err worded
    → worded ≡ reason
fault_worded bytes line reason worded fault said =
    let bad = fault_line bytes line reason fault in
    let read : (line_said (line_at bytes (line - 1)) >>= added bad.0) ≡ Err reason = sym (line-read bad.0 (line_at bytes (line - 1))) ∙ bad.2 in
    let one : ◌≡◌ {A = Result Draft ℕ} (Err worded) (Err reason) = ap (λ r. r >>= added bad.0) (sym said) ∙ read in
    cc
