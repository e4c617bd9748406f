-- Texts that begin that of a log, and texts that don't.
-- Cited by `read_beginning`, `env_app`.
use Rattle.std.proofs.Common.{◌≡◌, ◌<◌, ℕ, Bool, true, false, List, [], ◌∷◌, ◌++◌, All, length, get_or, refl, sym, ap, subst, ◌∙◌, inl, inr, arith}
use Rattle.std.proofs.Common.{Option, Some, None, append_assoc, length-append}
use Rattle.std.specs.List.{position_or_len}
use Rattle.std.proofs.Math.Seq.{get_or-append_seam}
use Rattle.std.proofs.lemmas.Bool.{cases_lt, lt-ltb, true≢false}
use Rattle.std.proofs.lemmas.Slice.Eq.{bytes_eq-Decides}
use Rattle.std.proofs.lemmas.List.{append_cancel_left}
use Rattle.std.proofs.lemmas.List.Sums.{fails_before_first}
use Rattle.task_base.specs.declared.entry.Entry.{Entry}
use Rattle.log_model.specs.declared.version.Version.{Version}
use Rattle.log_model.specs.Fits.{Fits}
use Rattle.log_model.specs.LogText.{BeginsWithNoLine, end_of, head_of, version_of}
use Rattle.log_model.proofs.Laws.LogLines.{line_words}
use Rattle.log_model.proofs.Laws.LogTexts.{end_begins_with_no_line, same_with_rest}
use Rattle.run_log.specs.Beginnings.{IsBeginningOf, IsTail, has_feed, is_cut_off, is_end}
use Rattle.run_log.specs.TextLines.{IsRead}
use Rattle.run_log.proofs.LinesOfText.{is_feed}

-- a text without a line feed begins with no line
no_line_without_feed : (place : ℕ) (text : List ℕ) → has_feed text ≡ false → BeginsWithNoLine place text
no_line_without_feed place text none front rest same e h =
    let words : List ℕ = line_words place e in
    let begun : text ≡ words ++ 10 ∷ rest = same ∙ ap (λ start. start ++ rest) h.same ∙ append_assoc words (10 ∷ []) rest in
    let feed : get_or text (length words) 0 ≡ 10 = rw begun (get_or-append_seam words 10 rest 0) in
    let long : length words < length text = omega (arith, ap length begun, length-append words (10 ∷ rest)) in
    elim (cases_lt (position_or_len is_feed text) (length text)) [
      | inl within ↦ let some = rw (lt-ltb _ _ within) at none in absurd cc
      | inr beyond ↦ let fails = rw feed at (fails_before_first is_feed text (length words) 0 (omega (arith, beyond, long))) in absurd cc
    ]

-- nor does what may stand behind the lines
cut_has_no_feed : (version : Version) (n : ℕ) (rest : List ℕ) → is_cut_off version n rest ≡ true → has_feed rest ≡ false
cut_has_no_feed version n [] is = absurd cc
cut_has_no_feed version n (byte ∷ rest) is = by_feed (has_feed (byte ∷ rest)) refl
  where
    by_feed : (b : Bool) → has_feed (byte ∷ rest) ≡ b → b ≡ false
    by_feed false has = refl
    by_feed true has = let none = rw has at is in absurd cc

end_has_no_line : (version : Version) (n place : ℕ) (rest : List ℕ) → is_end version n rest ≡ true → BeginsWithNoLine place rest
end_has_no_line version n place [] is = no_line_without_feed place [] refl
end_has_no_line version n place (byte ∷ rest) is =
    let same : byte ∷ rest ≡ end_of version n = (bytes_eq-Decides (byte ∷ rest) (end_of version n)).0 is in
    subst (BeginsWithNoLine place) (sym same) (end_begins_with_no_line version n place)

tail_begins_with_no_line : (version : Version) (n place : ℕ) (rest : List ℕ) (cut : Option ℕ) → IsTail version n rest cut → BeginsWithNoLine place rest
tail_begins_with_no_line version n place rest None tail = end_has_no_line version n place rest tail
tail_begins_with_no_line version n place rest (Some line) tail = no_line_without_feed place rest (cut_has_no_feed version n rest tail.0)

-- a text begins that of one log alone
pub begins_once : (text : List ℕ) (log other : List Entry) (cut last : Option ℕ) → All Fits log → All Fits other → IsBeginningOf text log cut
    → IsBeginningOf text other last → log ≡ other
begins_once text log other cut last fits fit this that =
    (same_with_rest log other this.rest that.rest fits fit (tail_begins_with_no_line _ _ _ _ _ this.tail) (tail_begins_with_no_line _ _ _ _ _ that.tail)
    (append_cancel_left (head_of (version_of text)) _ _ (sym this.same ∙ that.same))).0

-- what is neither a line that is cut off nor such an end is no tail
pub no_tail : (version : Version) (n : ℕ) (rest : List ℕ) → is_cut_off version n rest ≡ false → is_end version n rest ≡ false → (cut : Option ℕ)
    → IsTail version n rest cut → ⊥
no_tail version n rest whole more None tail = true≢false (sym tail ∙ more)
no_tail version n rest whole more (Some line) tail = true≢false (sym tail.0 ∙ whole)

-- where these entries are read, and what is left is no such tail, the text begins that of no log
pub begins_no_log : (text lines : List ℕ) (entries : List Entry) (rest : List ℕ) → text ≡ head_of (version_of text) ++ lines → IsRead lines entries rest
    → ((cut : Option ℕ) → IsTail (version_of text) (length entries) rest cut → ⊥) → (log : List Entry) (cut : Option ℕ) → All Fits log
    → IsBeginningOf text log cut → ⊥
begins_no_log text lines entries rest headed read none log cut fits begun =
    let same = same_with_rest log entries begun.rest rest fits read.fit (tail_begins_with_no_line _ _ _ _ _ begun.tail) read.no_further
    (append_cancel_left (head_of (version_of text)) _ _ (sym begun.same ∙ headed) ∙ read.same) in
    none cut (subst (λ r. IsTail (version_of text) (length entries) r cut) same.1
    (subst (λ l. IsTail (version_of text) (length l) begun.rest cut) same.0 begun.tail))
