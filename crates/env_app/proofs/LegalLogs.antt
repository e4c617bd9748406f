-- Where a log is found right it is a legal one, and where it is found wrong there is none.
-- Cited by `Causes`, `OpenLogs`.
use Rattle.std.proofs.Common.{rules, tests, ◌≡◌, ℕ, Bool, true, false, List, refl}
use Rattle.std.proofs.Common.{sym, ap, subst, ◌∙◌, inl, inr, Option, Some, None, arith}
use Rattle.std.specs.Prelude.{is_none, All}
use Rattle.log_model.specs.Fits.{Fits}
use Rattle.task_base.specs.Plan.{Plan}
use Rattle.task_base.specs.declared.entry.Entry.{Entry}
use Rattle.log_model.specs.declared.version.Version.{Version}
use Rattle.log_model.specs.LogText.{text_in, version_of}
use Rattle.log_model.proofs.Laws.LogTexts.{same_in, version_of-text_in}
use Rattle.hist_model.specs.Legal.{IsLegal, first_illegal}
use Rattle.hist_model.specs.Script.{IsWhole, is_whole}
use Rattle.hist_model.proofs.Laws.Fitting.Entries.{entries_fit}
use Rattle.hist_model.proofs.Laws.Legal.{first_illegal_none}
use Rattle.script_model.proofs.Laws.Sound.{reads_sound}
use Rattle.run_log.proofs.Beginnings.{begins_once}
use Rattle.env_check.specs.declared.verdict.Verdict.{Verdict}
use Rattle.env_check.specs.declared.verdict.Verdict.TheVariants.{Legal, Illegal}
use Rattle.env_check.specs.Verdicts.{prefix_verdict_at, prefix_verdict_of, verdict_at, verdict_of}
use Rattle.app_streams.specs.Parts.{part_behind, script_part}
use Rattle.app_modes.specs.Explained.{HasExplained, IsSaidAt}
use Rattle.app_modes.specs.Judged.{HasLegalLog, HasChecked, HasTraced, IsFoundAt, IsFoundIn, IsLegalLog, IsTextFor, IsTraced, line_in, verdict_on, verdict_status}
use Rattle.app_streams.specs.Ends.{Ends}
use Rattle.app_modes.specs.Outcome.{IsWritten}

-- ---- legal and whole

pub none_from : (o : Option ℕ) → is_none o ≡ true → o ≡ None
none_from None is = refl
none_from (Some place) is = absurd cc

-- the verdict on a log that is legal, and whole where that is asked for, is that it is legal
legal_verdict : (prefix : Bool) (script : Plan) (log : List Entry) → IsLegal script log → (prefix ≡ false → IsWhole script log)
    → verdict_on prefix script log ≡ Legal
unfolding verdict_on verdict_of prefix_verdict_of
legal_verdict false script log legal whole = rw (none_from (first_illegal script log) (first_illegal_none script log ∙ legal), whole refl) refl
legal_verdict true script log legal whole = rw (none_from (first_illegal script log) (first_illegal_none script log ∙ legal)) refl

-- and only on such a one
legal_from_verdict : (prefix : Bool) (script : Plan) (log : List Entry) → verdict_on prefix script log ≡ Legal
    → IsLegal script log × (prefix ≡ false → IsWhole script log)
unfolding verdict_on verdict_of prefix_verdict_of
legal_from_verdict false script log verdict = by_first_illegal (first_illegal script log) refl (is_whole script log) refl verdict
  where
    by_first_illegal : (o : Option ℕ) → first_illegal script log ≡ o → (b : Bool) → is_whole script log ≡ b → verdict_at script log o ≡ Legal
        → IsLegal script log × (false ≡ false → IsWhole script log)
    by_first_illegal (Some place) found b whole is = absurd cc
    by_first_illegal None found true whole is = (sym (first_illegal_none script log) ∙ ap is_none found, λ asked. whole)
    by_first_illegal None found false whole is = search (rules, tests)
legal_from_verdict true script log verdict = by_first_illegal (first_illegal script log) refl verdict
  where
    by_first_illegal : (o : Option ℕ) → first_illegal script log ≡ o → prefix_verdict_at o ≡ Legal → IsLegal script log × (true ≡ false → IsWhole script log)
    by_first_illegal (Some place) found is = absurd cc
    by_first_illegal None found is = (sym (first_illegal_none script log) ∙ ap is_none found, λ other. absurd cc)

-- ---- what was found

pub no_line : (version : Version) (verdict : Verdict) → None ≡ line_in version verdict → verdict ≡ Legal
no_line version Legal is = refl
no_line version (Illegal place) is = absurd cc

-- where no line is wrong, the log is such a one
pub is_legal_log : (prefix : Bool) (bytes : List ℕ) → IsFoundIn prefix bytes None → HasLegalLog prefix bytes
is_legal_log prefix bytes h = elim h.found [
  | inl found ↦
      let judged = legal_from_verdict prefix h.script found.0 (no_line (version_of (part_behind bytes)) _ found.2) in
      record {
        script = h.script;
        log = found.0;
        fits = found.1.fits;
        is = record { reads = h.reads; cut = h.cut; text = found.1.is; legal = judged.0; whole = judged.1 };
      }
  | inr found ↦ let other : None ≡ Some found.0 = found.2 in absurd cc
]

-- a text is that of one log alone, and begins that of one alone
pub same_text : (prefix : Bool) (text : List ℕ) (log other : List Entry) (cut last : Option ℕ) → All Fits log → All Fits other → IsTextFor prefix text log cut
    → IsTextFor prefix text other last → log ≡ other
same_text false text log other cut last fits fit (this, is, none) (that, same, nothing) =
    let versions : this ≡ that = sym (version_of-text_in this log) ∙ ap version_of (is ∙ sym same) ∙ version_of-text_in that other in
    same_in that log other fits fit (subst (λ v. text_in v log ≡ text) versions is ∙ sym same)
same_text true text log other cut last fits fit this that = begins_once text log other cut last fits fit this that

-- where one is, there is none
pub is_no_legal_log : (prefix : Bool) (bytes : List ℕ) (line : ℕ) → IsFoundIn prefix bytes (Some line) → (script : Plan) (log : List Entry)
    → IsLegalLog prefix bytes script log → ⊥
is_no_legal_log prefix bytes line h script log there =
    let fits = entries_fit script log (reads_sound (script_part bytes) script there.reads) there.legal in
    elim h.found [
      | inl found ↦
          let same : found.0 ≡ log = same_text prefix (part_behind bytes) found.0 log h.cut there.cut found.1.fits fits found.1.is there.text in
          let of : h.script ≡ script = cc (h.reads, there.reads) in
          let legal = legal_verdict prefix script log there.legal there.whole in
          let verdict : verdict_on prefix h.script found.0 ≡ Legal = rw (of, same) legal in
          let other : Some line ≡ None = found.2 ∙ ap (line_in (version_of (part_behind bytes))) verdict in
          absurd cc
      | inr found ↦ found.1.none log there.cut (record { fits = fits; is = there.text })
    ]

-- ---- what `check` and `trace` say with their status

-- 0 says that the log is legal, and 1 that it is not
pub record SaysLegal (prefix : Bool) (bytes : List ℕ) (status : ℕ) : Type 0 where
  pub legal : status ≡ 0 → HasLegalLog prefix bytes
  pub not_legal : status ≡ 1 → (script : Plan) (log : List Entry) → IsLegalLog prefix bytes script log → ⊥

says_of : (prefix : Bool) (bytes : List ℕ) (status : ℕ) (line : Option ℕ) → IsFoundIn prefix bytes line → status ≡ verdict_status line
    → SaysLegal prefix bytes status
says_of prefix bytes status None found is =
    record { legal = λ zero. is_legal_log prefix bytes found; not_legal = λ one. absurd (omega (arith, is)) }
says_of prefix bytes status (Some line) found is =
    record { legal = λ zero. absurd (omega (arith, is)); not_legal = λ one. is_no_legal_log prefix bytes line found }

pub check_says : (prefix : Bool) (bytes : List ℕ) (sink : Ends) (status : ℕ) → HasChecked prefix bytes (IsWritten sink status)
    → SaysLegal prefix bytes status
check_says prefix bytes sink status h =
    says_of prefix bytes status h.line (record { script = h.script; cut = h.cut; reads = h.reads; found = h.found }) h.holds.0

-- what is said of a text goes with the line at which it is found wrong
found_as_said : (json prefix : Bool) (script : Plan) (text said : List ℕ) (line : Option ℕ) → IsSaidAt json prefix script text line said
    → (cut : Option ℕ) × IsFoundAt prefix script text line cut
found_as_said json prefix script text said line (inl h) = (h.cut, inl (h.log, h.of, h.line_is))
found_as_said json prefix script text said line (inr h) = (None, inr (h.bad, h.is, h.line_is))

pub explain_says : (json prefix : Bool) (bytes : List ℕ) (sink : Ends) (status : ℕ) → HasExplained json prefix bytes (IsWritten sink status)
    → SaysLegal prefix bytes status
explain_says json prefix bytes sink status h =
    let found = found_as_said json prefix h.script (part_behind bytes) h.said h.line h.found in
    says_of prefix bytes status h.line (record { script = h.script; cut = found.0; reads = h.reads; found = found.1 }) h.holds.0

traced_status : (full prefix : Bool) (script : Plan) (text : List ℕ) (sink : Ends) (status : ℕ) (line : Option ℕ)
    → IsTraced full prefix script text (IsWritten sink status) line → status ≡ verdict_status line
traced_status full prefix script text sink status None traced = traced.3.0
traced_status full prefix script text sink status (Some line) traced = traced.0

pub trace_says : (full prefix : Bool) (bytes : List ℕ) (sink : Ends) (status : ℕ) → HasTraced full prefix bytes (IsWritten sink status)
    → SaysLegal prefix bytes status
trace_says full prefix bytes sink status h =
    says_of prefix bytes status h.line h.found (traced_status full prefix h.found.script (part_behind bytes) sink status h.line h.holds)
