-- The verdict on a log of an open plan (this project's own rule).
use Rattle.std.specs.Prelude.{ℕ, if◌then◌else◌, List, length, Option, Some, None}
use Rattle.task_base.specs.Plan.{Plan}
use Rattle.task_base.specs.declared.entry.Entry.{Entry}
use Rattle.task_model.specs.Seats.{is_quiet}
use Rattle.hist_model.specs.Legal.{first_illegal}
use Rattle.env_check.specs.declared.verdict.Verdict.{Verdict}
use Rattle.env_check.specs.declared.verdict.Verdict.TheVariants.{Legal, Illegal}

-- the verdict where the first entry that is not allowed is at this place, or there is none
abbrev pub open_verdict_at : Plan → List Entry → Option ℕ → Verdict
open_verdict_at plan log (Some place) = Illegal place
open_verdict_at plan log None = if is_quiet plan log then Legal else Illegal (length log)

-- legal where each entry is allowed after those before it, and no seat runs a task or holds an item at the end; else the least place
-- whose entry is not allowed, or the length where each is allowed, but a seat does. Of a beginning of a log nothing is asked of its end
-- (`env_check`, `prefix_verdict_of`)
unfoldable pub open_verdict_of : Plan → List Entry → Verdict
open_verdict_of plan log = open_verdict_at plan log (first_illegal plan log)
