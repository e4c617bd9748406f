-- What is told of a log of an open plan says of the verdict that it is of.
-- Cited by `why`.
use Rattle.std.proofs.Common.{◌≡◌, ◌≤◌, ℕ, Bool, List, length, sym, ◌∙◌, Some}
use Rattle.task_base.specs.Plan.{Plan}
use Rattle.task_base.specs.declared.entry.Entry.{Entry}
use Rattle.next_entry.specs.declared.open_cause.OpenTold.{OpenTold}
use Rattle.next_entry.specs.declared.open_cause.OpenTold.TheVariants as told
use Rattle.env_check.specs.declared.verdict.Verdict.TheVariants.{Illegal}
use Rattle.open_explain.specs.Told.{verdict_told}
use Rattle.app_modes.specs.ExplainedOpen.{open_place_told}
use Rattle.app_modes.specs.Opened.{open_verdict_on}
use Rattle.app_modes.proofs.Opened.{open_place_within}

pub illegal_told : (said : OpenTold) (place : ℕ) → open_place_told said ≡ Some place → verdict_told said ≡ Illegal place
illegal_told told.Legal place is = absurd cc
illegal_told (told.Barred at cause) place is = cc
illegal_told (told.AtWork at busy) place is = cc

-- the place is within the log, or its length
pub told_within : (prefix : Bool) (script : Plan) (log : List Entry) (said : OpenTold) (place : ℕ) → verdict_told said ≡ open_verdict_on prefix script log
    → open_place_told said ≡ Some place → place ≤ length log
told_within prefix script log said place verdict is = open_place_within prefix script log place (sym verdict ∙ illegal_told said place is)
