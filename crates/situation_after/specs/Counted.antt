-- Which situations can go on by an entry with every number within its type.
use Rattle.std.specs.Prelude.{ℕ, ◌+◌, ◌^◌, ◌<◌, length}
use Rattle.task_base.specs.Plan.{Plan}
use Rattle.task_base.specs.declared.entry.Kind.{Kind}
use Rattle.task_base.specs.declared.entry.Kind.TheVariants as kinds
use Rattle.situation.specs.Situation.{Situation}
use Rattle.log_count.specs.Parts.{acts_in, claimed_in}

-- the moment from which a task that is posted at this moment is ripe fits its type
abbrev pub RipeFits : ℕ → Kind → Type 0
RipeFits now (kinds.Post task runner delay ok) = now + delay < 2 ^ 64
RipeFits now kind = Unit {0}

-- the script's numbers and one more of each count fit their types
pub record FitsOnward (script : Plan) (s : Situation) (kind : Kind) : Type 0 where
  pub workers : script.workers + 1 < 2 ^ 32
  pub runners : length script.runners < 2 ^ 32
  pub jobs : length script.jobs < 2 ^ 32
  pub made : s.driver.made + 1 < 2 ^ 32
  pub acts : (seat : ℕ) → acts_in s seat + 1 < 2 ^ 32
  pub moment : s.now + script.threshold < 2 ^ 64
  pub ripe : RipeFits s.now kind
  pub claims : (job : ℕ) → claimed_in s job + 1 < 2 ^ 32
  pub blocks : s.blocks + 1 < 2 ^ 32
  pub skips : s.skips + 1 < 2 ^ 32
