-- What is known of a roster between two calls.
use Rattle.std.specs.Prelude.{List}
use Rattle.task_base.specs.Plan.{Plan}
use Rattle.task_base.specs.declared.entry.Entry.{Entry}
use Rattle.live_roster.specs.StandsFor.{StandsFor}
use Rattle.live_roster.specs.declared.roster.LiveRoster.{LiveRoster}

-- the roster stands for a past of an open plan
abbrev pub Stands : LiveRoster → Type 0
Stands roster = (plan : Plan) × (past : List Entry) × StandsFor plan past roster
