-- A verdict on a log of an open plan, and how a command ends that wrote one.
-- Cited by `judge_open`, `explain_open`, `judge_open_log`, `ExplainedOpen`.
use Rattle.std.proofs.Common.{rules, tests, ◌≡◌, ◌≢◌, ◌≤◌, ℕ, Bool, true, false, List, length, refl, Option, Some, None}
use Rattle.std.specs.Prelude.{IfErr, Result, Ok, Err}
use Rattle.task_base.specs.Plan.{Plan, opened}
use Rattle.task_base.specs.declared.entry.Entry.{Entry}
use Rattle.task_base.specs.declared.fault.Fault.{Fault}
use Rattle.task_base.specs.declared.fault.Fault.TheVariants.{NotLegal, TooLarge, WriteFault}
use Rattle.task_model.specs.Seats.{is_quiet}
use Rattle.hist_model.specs.Legal.{first_illegal}
use Rattle.env_check.specs.declared.verdict.Verdict.TheVariants.{Illegal}
use Rattle.env_check.specs.Verdicts.{prefix_verdict_at, prefix_verdict_of}
use Rattle.open_check.specs.Verdicts.{open_verdict_at, open_verdict_of}
use Rattle.app_modes.proofs.Verdicts.{illegal_within}
use Rattle.app_modes.specs.Failures.{failure_status, is_verdict}
use Rattle.app_modes.specs.Opened.{open_verdict_on}
use Rattle.app_modes.specs.Outcome.{HasSaid, in_common}
use Rattle.app_modes.specs.declared.failure.Failure.{Failure}
use Rattle.app_modes.specs.declared.failure.Failure.TheVariants.{Common}
use Rattle.app_streams.specs.Ends.{Ends}

-- the place that a verdict names is within the log, or its length
pub open_place_within : (prefix : Bool) (script : Plan) (log : List Entry) (place : ℕ) → open_verdict_on prefix script log ≡ Illegal place → place ≤ length log
unfolding open_verdict_on open_verdict_of prefix_verdict_of
open_place_within false script log place verdict = by_first_illegal (first_illegal (opened script) log) refl (is_quiet (opened script) log) refl verdict
  where
    by_first_illegal : (o : Option ℕ) → first_illegal (opened script) log ≡ o → (b : Bool) → is_quiet (opened script) log ≡ b
        → open_verdict_at (opened script) log o ≡ Illegal place → place ≤ length log
    by_first_illegal (Some at) found b quiet is = illegal_within (opened script) log at place found is
    by_first_illegal None found true quiet is = search (rules, tests)
    by_first_illegal None found false quiet is = search (rules, tests)
open_place_within true script log place verdict = by_first_illegal (first_illegal (opened script) log) refl verdict
  where
    by_first_illegal : (o : Option ℕ) → first_illegal (opened script) log ≡ o → prefix_verdict_at o ≡ Illegal place → place ≤ length log
    by_first_illegal (Some at) found is = illegal_within (opened script) log at place found is
    by_first_illegal None found is = absurd cc

-- where something was written, each failure is a verdict or that of the write
pub said_kept : (P : Type 0) (line : Option ℕ) (text : List ℕ) (sink : Ends) (end : Result (Unit {0}) Fault) (result : Result (Unit {0}) Failure)
    → HasSaid line text sink end → result ≡ in_common end → IfErr result (λ failure. is_verdict failure ≡ false → failure_status failure ≢ 5 → P)
said_kept P line text sink (Ok done) result said is = rw is tt
said_kept P line text sink (Err (NotLegal at)) result said is = rw is (λ other not_five. absurd cc)
said_kept P line text sink (Err WriteFault) result said is = rw is (λ other not_five. absurd (not_five refl))
said_kept P line text sink (Err fault) result said is = absurd said

-- and the input was not too large
pub said_not_large : (line : Option ℕ) (text : List ℕ) (sink : Ends) (end : Result (Unit {0}) Fault) (result : Result (Unit {0}) Failure)
    → HasSaid line text sink end → result ≡ in_common end → result ≡ Err (Common TooLarge) → ⊥
said_not_large line text sink (Ok done) result said is large = cc
said_not_large line text sink (Err (NotLegal at)) result said is large = cc
said_not_large line text sink (Err WriteFault) result said is large = cc
said_not_large line text sink (Err fault) result said is large = said
