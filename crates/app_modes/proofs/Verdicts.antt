-- What a verdict on a log says of the text that the log has.
-- Cited by `why`, `why`, `judge_log`, `judge_open_log`, `Explained`, `Opened`.
use Rattle.std.proofs.Common.{rules, tests, ◌≡◌, ◌≤◌, ◌+◌, ℕ, Bool, true, false, List, [], ◌∷◌, ◌++◌, length, refl}
use Rattle.std.proofs.Common.{ap, length-append, Option, Some, None, arith}
use Rattle.task_base.specs.Plan.{Plan}
use Rattle.task_base.specs.declared.entry.Entry.{Entry}
use Rattle.log_model.specs.declared.version.Version.{Version}
use Rattle.log_model.specs.declared.version.Version.TheVariants.{One, Two}
use Rattle.log_model.specs.LogText.{lines_before, line_of, text_from, log_lines, head_of, end_of, version_of}
use Rattle.log_model.proofs.Laws.LogLines.{line_words}
use Rattle.hist_model.specs.Legal.{first_illegal}
use Rattle.hist_model.specs.Script.{is_whole}
use Rattle.hist_model.proofs.Laws.Legal.{first_illegal_some}
use Rattle.env_check.specs.declared.verdict.Verdict.TheVariants.{Illegal}
use Rattle.env_check.specs.Verdicts.{prefix_verdict_at, prefix_verdict_of, verdict_at, verdict_of}
use Rattle.app_modes.specs.Judged.{IsTextOf, verdict_on}

-- ---- places

-- a place of the log's first illegal entry is within the log
pub illegal_within : (script : Plan) (log : List Entry) (at place : ℕ) → first_illegal script log ≡ Some at → Illegal at ≡ Illegal place → place ≤ length log
illegal_within script log at place found is =
    let here = first_illegal_some script log at found in
    let same : at ≡ place = cc in
    let parts = ap length here.parts in
    omega (arith, same, here.place_is, parts, length-append here.past (here.entry ∷ here.rest))

-- the place that a verdict names is within the log, or its length
pub place_within : (prefix : Bool) (script : Plan) (log : List Entry) (place : ℕ) → verdict_on prefix script log ≡ Illegal place → place ≤ length log
unfolding verdict_on verdict_of prefix_verdict_of
place_within false script log place verdict = by_first_illegal (first_illegal script log) refl (is_whole script log) refl verdict
  where
    by_first_illegal : (o : Option ℕ) → first_illegal script log ≡ o → (b : Bool) → is_whole script log ≡ b → verdict_at script log o ≡ Illegal place
        → place ≤ length log
    by_first_illegal (Some at) found b whole is = illegal_within script log at place found is
    by_first_illegal None found true whole is = search (rules, tests)
    by_first_illegal None found false whole is = search (rules, tests)
place_within true script log place verdict = by_first_illegal (first_illegal script log) refl verdict
  where
    by_first_illegal : (o : Option ℕ) → first_illegal script log ≡ o → prefix_verdict_at o ≡ Illegal place → place ≤ length log
    by_first_illegal (Some at) found is = illegal_within script log at place found is
    by_first_illegal None found is = absurd cc

-- ---- texts

-- a log has no more entries than its text has bytes
entries_from : (place : ℕ) (log : List Entry) → length log ≤ length (text_from place log)
entries_from place [] = omega arith
entries_from place (e ∷ log) =
    omega (arith, entries_from (place + 1) log, length-append (line_of place e) (text_from (place + 1) log), length-append (line_words place e) (10 ∷ []))

pub few_entries : (prefix : Bool) (text : List ℕ) (log : List Entry) (cut : Option ℕ) → IsTextOf prefix text log cut → length log ≤ length text
unfolding log_lines
few_entries false text log cut of =
    let behind : List ℕ = end_of of.is.0 (length log) in
    omega (arith, entries_from 0 log, length-append (head_of of.is.0) (text_from 0 log ++ behind), length-append (text_from 0 log) behind, ap length of.is.1)
few_entries true text log cut of = omega (
  arith,
  entries_from 0 log,
  length-append (head_of (version_of text)) (text_from 0 log ++ of.is.rest),
  length-append (text_from 0 log) of.is.rest,
  ap length of.is.same,
)

-- at most one line stands before those of the entries
pub one_before : (version : Version) → lines_before version ≤ 1
one_before One = omega arith
one_before Two = omega arith
