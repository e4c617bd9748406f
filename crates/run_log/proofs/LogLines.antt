-- Entries whose lines begin a text, and texts of no log.
-- Cited by `entries_of`, `read_log`.
use Rattle.std.proofs.Common.{◌≡◌, ◌≢◌, ◌<◌, ℕ, List, [], ◌∷◌, ◌++◌, All, length, sym, ap, ◌∙◌, arith, append_assoc, length-append}
use Rattle.std.proofs.lemmas.List.{append_cancel_left}
use Rattle.task_base.specs.declared.entry.Entry.{Entry}
use Rattle.log_model.specs.declared.version.Version.{Version}
use Rattle.log_model.specs.Fits.{Fits}
use Rattle.log_model.specs.LogText.{IsLogLine, BeginsWithNoLine, line_of, log_lines, head_of, end_of, text_in, version_of}
use Rattle.log_model.proofs.Laws.LogLines.{line_words, line_lacks_feed}
use Rattle.log_model.proofs.Laws.LogTexts.{log_lines-push, same_with_rest, end_begins_with_no_line, version_of-text_in}
use Rattle.run_log.specs.TextLines.{text_lines, IsRead, IsBadLine}
use Rattle.run_log.proofs.LinesOfText.{text_lines-fed}

-- what entries read, and what is left, with one entry more
pub one_more : (text : List ℕ) (entries : List Entry) (rest line behind : List ℕ) (e : Entry) → text ≡ log_lines entries ++ rest → rest ≡ line ++ behind
    → IsLogLine (length entries) line e → text ≡ log_lines (entries ++ e ∷ []) ++ behind
one_more text entries rest line behind e read cut h =
    read ∙ ap (λ left. log_lines entries ++ left) (cut ∙ ap (λ front. front ++ behind) h.same)
    ∙ sym (append_assoc (log_lines entries) (line_of (length entries) e) behind) ∙ ap (λ front. front ++ behind) (sym (log_lines-push entries e))

-- the line of an entry is not empty
pub line_is_some : (place : ℕ) (line : List ℕ) (e : Entry) → IsLogLine place line e → 0 < length line
line_is_some place line e h = rw (h.same, length-append) (omega arith)

-- a text in whose first line no entry stands begins with the line of none
pub no_line_begins : (place : ℕ) (text line behind : List ℕ) → (0 < length text → text_lines text ≡ line ∷ text_lines behind)
    → ((e : Entry) → ¬ IsLogLine place line e) → BeginsWithNoLine place text
no_line_begins place text line behind first none front rest same e h =
    let words : List ℕ = line_words place e in
    let begun : text ≡ words ++ 10 ∷ rest = same ∙ ap (λ start. start ++ rest) h.same ∙ append_assoc words (10 ∷ []) rest in
    let some : 0 < length text = rw (begun, length-append) (omega arith) in
    let lines : line ∷ text_lines behind ≡ (words ++ 10 ∷ []) ∷ text_lines rest =
    sym (first some) ∙ ap text_lines begun ∙ text_lines-fed words rest (line_lacks_feed place e h.fits) in
    let here : line ≡ words ++ 10 ∷ [] = cc in
    none e (record { same = here; fits = h.fits })

-- where all lines are read and the end of such a text is left, the text is that of the entries
pub text_of_entries : (text lines : List ℕ) (entries : List Entry) (rest : List ℕ) → text ≡ head_of (version_of text) ++ lines → IsRead lines entries rest
    → rest ≡ end_of (version_of text) (length entries) → text_in (version_of text) entries ≡ text
text_of_entries text lines entries rest headed read end =
    sym (headed ∙ ap (λ text'. head_of (version_of text) ++ text') (read.same ∙ ap (λ left. log_lines entries ++ left) end))

-- the text of a log is bad nowhere
pub bad_is_no_log : (text : List ℕ) (line : ℕ) → IsBadLine text line → (version : Version) (log : List Entry) → All Fits log → text_in version log ≢ text
bad_is_no_log text line bad version log fits same =
    let named : version_of text ≡ version = ap version_of (sym same) ∙ version_of-text_in version log in
    let headed : text ≡ head_of version ++ bad.lines = rw named at bad.headed in
    let lines : log_lines log ++ end_of version (length log) ≡ log_lines bad.entries ++ bad.rest =
    append_cancel_left (head_of version) _ _ (same ∙ headed) ∙ bad.read.same in
    let read = same_with_rest log bad.entries (end_of version (length log)) bad.rest fits bad.read.fit
    (end_begins_with_no_line version (length log) (length log)) bad.read.no_further lines in
    bad.no_end (sym read.1 ∙ ap (λ entries. end_of version (length entries)) read.0 ∙ ap (λ v. end_of v (length bad.entries)) (sym named))
