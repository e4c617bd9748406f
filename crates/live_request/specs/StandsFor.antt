-- What a live environment for C stands for.
use Rattle.std.specs.Prelude.{List}
use Rattle.task_base.specs.Plan.{Plan}
use Rattle.task_base.specs.declared.entry.Entry.{Entry}
use Rattle.live_roster.specs.StandsFor.{StandsFor as RosterStandsFor}
use Rattle.live_request.specs.declared.live.Live.{Live}

-- its roster stands for the past
abbrev pub StandsFor : Plan → List Entry → Live → Type 0
StandsFor plan past live = RosterStandsFor plan past live.roster
