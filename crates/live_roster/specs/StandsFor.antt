-- What a roster stands for.
use Rattle.std.specs.Prelude.{◌≡◌, ◌+◌, ◌≤◌, ◌^◌, false, List, length}
use Rattle.task_base.specs.Plan.{Plan}
use Rattle.task_base.specs.declared.entry.Entry.{Entry}
use Rattle.live_core.specs.StandsFor.{StandsFor as CoreStandsFor}
use Rattle.live_roster.specs.Wakes.{NobodyRests, NoWakeIsLost}
use Rattle.live_roster.specs.declared.roster.LiveRoster.{LiveRoster}

-- the core stands for the past, and each seat has a note
pub record HasNotes (plan : Plan) (past : List Entry) (roster : LiveRoster) : Type 0 where
  pub core : CoreStandsFor plan past roster.core
  pub seats : length roster.notes.items ≡ plan.workers + 1
  pub few : length roster.notes.items ≤ 2 ^ 32
  pub nobody : roster.some_rest ≡ false → NobodyRests roster.notes.items

-- and no wake is lost
pub record StandsFor (plan : Plan) (past : List Entry) (roster : LiveRoster) : Type 0 where
  pub noted : HasNotes plan past roster
  pub kept : NoWakeIsLost plan past roster.wish roster.notes.items
