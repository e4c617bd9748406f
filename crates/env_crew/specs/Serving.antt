-- What a worker does at its desk.
use Rattle.std.specs.Prelude.{◌≡◌, ◌<◌, true, false, length, None}
use Rattle.task_model.specs.Sources.{best_of}
use Rattle.hist_model.specs.Script.{is_finished}
use Rattle.env_core.specs.Calls.{IsFreeWorker}
use Rattle.env_crew.specs.Desk.{DeskView, as_seen, mine}
use Rattle.env_crew.specs.declared.worker.Served.{Served}
use Rattle.env_crew.specs.declared.worker.Served.TheVariants as served

-- the desk is a worker's that runs nothing
abbrev pub IsFree : DeskView → Type 0
IsFree d = IsFreeWorker (as_seen d) d.seat

-- it made no entry, since there was nothing that it might take
pub record FoundNothing (old new : DeskView) : Type 0 where
  pub unchanged : mine new ≡ mine old
  pub unfinished : is_finished new.script new.seen ≡ false
  pub none : best_of new.script new.seen new.seat ≡ None

-- it made no entry, since the script was finished
pub record FoundEnd (old new : DeskView) : Type 0 where
  pub unchanged : mine new ≡ mine old
  pub finished : is_finished new.script new.seen ≡ true

-- what was done at the desk
abbrev pub HasServed : DeskView → DeskView → Served → Type 0
HasServed old new served.Worked = length (mine old) < length (mine new)
HasServed old new served.Nothing = FoundNothing old new
HasServed old new served.Over = FoundEnd old new
