-- The verdict on a log.
use Rattle.std.specs.Prelude.{ℕ, if◌then◌else◌, List, length, Option, Some, None}
use Rattle.task_base.specs.Plan.{Plan}
use Rattle.task_base.specs.declared.entry.Entry.{Entry}
use Rattle.hist_model.specs.Legal.{first_illegal}
use Rattle.hist_model.specs.Script.{is_whole}
use Rattle.env_check.specs.declared.verdict.Verdict.{Verdict}
use Rattle.env_check.specs.declared.verdict.Verdict.TheVariants.{Legal, Illegal}

-- the verdict where the first entry that is not allowed is at this place, or there is none
abbrev pub verdict_at : Plan → List Entry → Option ℕ → Verdict
verdict_at script log (Some place) = Illegal place
verdict_at script log None = if is_whole script log then Legal else Illegal (length log)

-- legal where each entry is allowed after those before it, and the whole script is done; else the least place whose entry
-- is not allowed, or the length where each is allowed but something is left to be done (this project's own rule)
unfoldable pub verdict_of : Plan → List Entry → Verdict
verdict_of script log = verdict_at script log (first_illegal script log)

-- the verdict on the beginning of a log whose first entry that is not allowed is at this place, or that has none
abbrev pub prefix_verdict_at : Option ℕ → Verdict
prefix_verdict_at (Some place) = Illegal place
prefix_verdict_at None = Legal

-- legal where each entry is allowed after those before it, whatever is left to be done; else the least place whose entry is
-- not allowed (this project's own rule)
unfoldable pub prefix_verdict_of : Plan → List Entry → Verdict
prefix_verdict_of script log = prefix_verdict_at (first_illegal script log)
