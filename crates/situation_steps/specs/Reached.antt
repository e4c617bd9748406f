-- Situations that are reached.
use Rattle.std.specs.Prelude.{◌≡◌, ◌+◌, ◌^◌, ◌<◌, true, List, length}
use Rattle.task_base.specs.Plan.{Plan}
use Rattle.task_base.specs.declared.entry.Entry.{Entry}
use Rattle.script_model.specs.Laws.Sound.{IsSound}
use Rattle.hist_model.specs.Legal.{IsLegal}
use Rattle.situation.specs.Situation.{Situation, is_pool_script, situation_of}

-- the situation is that of some legal past of a sound script without main queues
pub record IsReached (script : Plan) (s : Situation) : Type 0 where
  pub past : List Entry
  pub legal : IsLegal script past
  pub same : situation_of script past ≡ s
  pub sound : IsSound script
  pub pool : is_pool_script script ≡ true

-- the sequences and the jobs of the script have numbers of 32 bits
pub record HasNumbers (script : Plan) : Type 0 where
  pub sequences : length script.runners + length script.tasks < 2 ^ 32
  pub jobs : length script.jobs < 2 ^ 32
