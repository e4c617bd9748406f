-- What an explanation says of the verdict that it is of.
-- Cited by `why`.
use Rattle.std.proofs.Common.{◌≡◌, ◌≤◌, ◌++◌, ℕ, Bool, true, false, List, append-nil, length, refl, sym, ◌∙◌, Option, Some, None}
use Rattle.task_base.specs.Plan.{Plan}
use Rattle.task_base.specs.declared.entry.Entry.{Entry}
use Rattle.next_entry.specs.declared.cause.Explanation.{Explanation}
use Rattle.next_entry.specs.declared.cause.Explanation.TheVariants as explanations
use Rattle.env_check.specs.declared.verdict.Verdict.TheVariants.{Legal, Illegal}
use Rattle.env_explain.specs.Explained.{verdict_told}
use Rattle.app_modes.specs.Explained.{place_told}
use Rattle.app_modes.specs.Judged.{cut_text, verdict_on}
use Rattle.app_modes.proofs.Verdicts.{place_within}

-- beside a line that is wrong nothing is said of one that was left out
pub no_cut : (json : Bool) (line : ℕ) (cut : Option ℕ) (said : List ℕ) → said ≡ said ++ cut_text json (Some line) cut
no_cut true line cut said = sym (append-nil said)
no_cut false line cut said = sym (append-nil said)

pub illegal_told : (told : Explanation) (place : ℕ) → place_told told ≡ Some place → verdict_told told ≡ Illegal place
illegal_told explanations.Legal place is = absurd cc
illegal_told (explanations.Barred at cause) place is = cc
illegal_told (explanations.Unfinished at seat cause) place is = cc
illegal_told (explanations.AtWork at busy) place is = cc

pub legal_told : (told : Explanation) → place_told told ≡ None → verdict_told told ≡ Legal
legal_told explanations.Legal is = refl
legal_told (explanations.Barred at cause) is = absurd cc
legal_told (explanations.Unfinished at seat cause) is = absurd cc
legal_told (explanations.AtWork at busy) is = absurd cc

-- the place is within the log, or its length
pub told_within : (prefix : Bool) (script : Plan) (log : List Entry) (told : Explanation) (place : ℕ) → verdict_told told ≡ verdict_on prefix script log
    → place_told told ≡ Some place → place ≤ length log
told_within prefix script log told place verdict is = place_within prefix script log place (sym verdict ∙ illegal_told told place is)
