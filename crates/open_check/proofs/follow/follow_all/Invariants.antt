use Rattle.std.proofs.Common.{◌≡◌, [], take}
use Rattle.task_base.specs.Plan.{Plan}
use Rattle.live_core.specs.StandsFor.{StandsFor}
use Rattle.open_check.proofs.follow.follow_all.Given as goal

abbrev pub invariant-loop-entry : goal.invariant-loop-entry
invariant-loop-entry l =
    ((plan : Plan) → StandsFor plan [] l.initial.live → StandsFor plan (take l.entry-index l.log) l.live) × (l.place ≡ l.entry-index)
