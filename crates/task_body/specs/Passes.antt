-- What contracts see of a pass.
use Rattle.std.specs.Prelude.{ℕ}

-- an item of a job that is held, under the number that its holder has inside the job
pub record PassView : Type 0 where
  pub job : ℕ
  pub id : ℕ
  pub item : ℕ
