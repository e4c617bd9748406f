-- The same of a log of an open plan.
-- Cited by `Causes`.
use Rattle.std.proofs.Common.{rules, tests, ◌≡◌, ℕ, Bool, true, false, List}
use Rattle.std.proofs.Common.{refl, sym, ap, ◌∙◌, inl, inr, Option, Some, None, arith}
use Rattle.std.specs.Prelude.{is_none}
use Rattle.task_base.specs.Plan.{Plan, opened}
use Rattle.task_base.specs.declared.entry.Entry.{Entry}
use Rattle.task_model.specs.Seats.{is_quiet}
use Rattle.log_model.specs.LogText.{version_of}
use Rattle.script_model.specs.Grammar.{Reads}
use Rattle.hist_model.specs.Legal.{IsLegal, first_illegal}
use Rattle.hist_model.proofs.Laws.Legal.{first_illegal_none}
use Rattle.env_check.specs.declared.verdict.Verdict.TheVariants.{Legal}
use Rattle.env_check.specs.Verdicts.{prefix_verdict_at, prefix_verdict_of}
use Rattle.open_check.specs.Plans.{plan_fault}
use Rattle.open_check.specs.Verdicts.{open_verdict_at, open_verdict_of}
use Rattle.app_streams.specs.Parts.{part_behind, script_part}
use Rattle.app_modes.specs.Judged.{line_in, verdict_status}
use Rattle.app_modes.specs.ExplainedOpen.{HasExplainedOpen, IsSaidOpenAt}
use Rattle.app_modes.specs.Opened.{HasCheckedOpen, HasLegalOpenLog, HasTracedOpen, IsFoundOpen, IsLegalOpenLog, IsOpenAt, IsTracedOpen, open_verdict_on}
use Rattle.app_streams.specs.Ends.{Ends}
use Rattle.app_modes.specs.Outcome.{IsWritten}
use Rattle.env_app.proofs.LegalLogs.{no_line, none_from, same_text}

-- ---- legal, and nobody at work

-- the verdict on a log that is legal, and ends where nobody is at work, if that is asked for, is that it is legal
legal_verdict : (prefix : Bool) (script : Plan) (log : List Entry) → IsLegal (opened script) log → (prefix ≡ false → is_quiet (opened script) log ≡ true)
    → open_verdict_on prefix script log ≡ Legal
unfolding open_verdict_on open_verdict_of prefix_verdict_of
legal_verdict false script log legal quiet =
    rw (none_from (first_illegal (opened script) log) (first_illegal_none (opened script) log ∙ legal), quiet refl) refl
legal_verdict true script log legal quiet = rw (none_from (first_illegal (opened script) log) (first_illegal_none (opened script) log ∙ legal)) refl

-- and only on such a one
legal_from_verdict : (prefix : Bool) (script : Plan) (log : List Entry) → open_verdict_on prefix script log ≡ Legal
    → IsLegal (opened script) log × (prefix ≡ false → is_quiet (opened script) log ≡ true)
unfolding open_verdict_on open_verdict_of prefix_verdict_of
legal_from_verdict false script log verdict = by_first_illegal (first_illegal (opened script) log) refl (is_quiet (opened script) log) refl verdict
  where
    by_first_illegal : (o : Option ℕ) → first_illegal (opened script) log ≡ o → (b : Bool) → is_quiet (opened script) log ≡ b
        → open_verdict_at (opened script) log o ≡ Legal → IsLegal (opened script) log × (false ≡ false → is_quiet (opened script) log ≡ true)
    by_first_illegal (Some place) found b quiet is = absurd cc
    by_first_illegal None found true quiet is = (sym (first_illegal_none (opened script) log) ∙ ap is_none found, λ asked. quiet)
    by_first_illegal None found false quiet is = search (rules, tests)
legal_from_verdict true script log verdict = by_first_illegal (first_illegal (opened script) log) refl verdict
  where
    by_first_illegal : (o : Option ℕ) → first_illegal (opened script) log ≡ o → prefix_verdict_at o ≡ Legal
        → IsLegal (opened script) log × (true ≡ false → is_quiet (opened script) log ≡ true)
    by_first_illegal (Some place) found is = absurd cc
    by_first_illegal None found is = (sym (first_illegal_none (opened script) log) ∙ ap is_none found, λ other. absurd cc)

-- ---- what was found

-- where no line is wrong, the log is such a one
is_legal_log : (prefix : Bool) (bytes : List ℕ) → IsFoundOpen prefix bytes None → HasLegalOpenLog prefix bytes
is_legal_log prefix bytes h = elim h.found [
  | inl found ↦
      let judged = legal_from_verdict prefix h.script found.0 (no_line (version_of (part_behind bytes)) _ found.2) in
      record {
        script = h.script;
        log = found.0;
        is = record {
          reads = h.reads;
          plan = h.plan;
          cut = h.cut;
          fits = found.1.fits;
          text = found.1.is;
          legal = judged.0;
          quiet = judged.1;
        };
      }
  | inr found ↦ let other : None ≡ Some found.0 = found.2 in absurd cc
]

-- where one is, there is none
is_no_legal_log : (prefix : Bool) (bytes : List ℕ) (line : ℕ) → IsFoundOpen prefix bytes (Some line) → (script : Plan) (log : List Entry)
    → IsLegalOpenLog prefix bytes script log → ⊥
is_no_legal_log prefix bytes line h script log there = elim h.found [
  | inl found ↦
      let same : found.0 ≡ log = same_text prefix (part_behind bytes) found.0 log h.cut there.cut found.1.fits there.fits found.1.is there.text in
      let of : h.script ≡ script = cc (h.reads, there.reads) in
      let legal = legal_verdict prefix script log there.legal there.quiet in
      let verdict : open_verdict_on prefix h.script found.0 ≡ Legal = rw (of, same) legal in
      let other : Some line ≡ None = found.2 ∙ ap (line_in (version_of (part_behind bytes))) verdict in
      absurd cc
  | inr found ↦ found.1.none log there.cut (record { fits = there.fits; is = there.text })
]

-- ---- what is said with a status

-- 0 says that the log is legal, and 1 that it is not
pub record SaysLegalOpen (prefix : Bool) (bytes : List ℕ) (status : ℕ) : Type 0 where
  pub legal : status ≡ 0 → HasLegalOpenLog prefix bytes
  pub not_legal : status ≡ 1 → (script : Plan) (log : List Entry) → IsLegalOpenLog prefix bytes script log → ⊥

says_of : (prefix : Bool) (bytes : List ℕ) (status : ℕ) (line : Option ℕ) → IsFoundOpen prefix bytes line → status ≡ verdict_status line
    → SaysLegalOpen prefix bytes status
says_of prefix bytes status None found is =
    record { legal = λ zero. is_legal_log prefix bytes found; not_legal = λ one. absurd (omega (arith, is)) }
says_of prefix bytes status (Some line) found is =
    record { legal = λ zero. absurd (omega (arith, is)); not_legal = λ one. is_no_legal_log prefix bytes line found }

pub check_open_says : (prefix : Bool) (bytes : List ℕ) (sink : Ends) (status : ℕ) → HasCheckedOpen prefix bytes (IsWritten sink status)
    → SaysLegalOpen prefix bytes status
check_open_says prefix bytes sink status h =
    says_of prefix bytes status h.line (record { script = h.script; cut = h.cut; reads = h.reads; plan = h.plan; found = h.found }) h.holds.0

-- what is said of a text goes with the line at which it is found wrong
found_as_said : (json prefix : Bool) (script : Plan) (text said : List ℕ) (line : Option ℕ) → IsSaidOpenAt json prefix script text line said
    → (cut : Option ℕ) × IsOpenAt prefix script text line cut
found_as_said json prefix script text said line (inl h) = (h.cut, inl (h.log, h.of, h.line_is))
found_as_said json prefix script text said line (inr h) = (None, inr (h.bad, h.is, h.line_is))

pub explain_open_says : (json prefix : Bool) (bytes : List ℕ) (sink : Ends) (status : ℕ) → HasExplainedOpen json prefix bytes (IsWritten sink status)
    → SaysLegalOpen prefix bytes status
explain_open_says json prefix bytes sink status h =
    let found = found_as_said json prefix h.script (part_behind bytes) h.said h.line h.found in
    says_of prefix bytes status h.line (record { script = h.script; cut = found.0; reads = h.reads; plan = h.plan; found = found.1 }) h.holds.0

traced_status : (full prefix : Bool) (script : Plan) (text : List ℕ) (sink : Ends) (status : ℕ) (line : Option ℕ)
    → IsTracedOpen full prefix script text (IsWritten sink status) line → status ≡ verdict_status line
traced_status full prefix script text sink status None traced = traced.3.0
traced_status full prefix script text sink status (Some line) traced = traced.0

pub trace_open_says : (full prefix : Bool) (bytes : List ℕ) (sink : Ends) (status : ℕ) → HasTracedOpen full prefix bytes (IsWritten sink status)
    → SaysLegalOpen prefix bytes status
trace_open_says full prefix bytes sink status h =
    says_of prefix bytes status h.line h.found (traced_status full prefix h.found.script (part_behind bytes) sink status h.line h.holds)
