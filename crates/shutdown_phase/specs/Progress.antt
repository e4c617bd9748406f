-- What contracts see of the phase and its count.
use Rattle.std.specs.Prelude.{ℕ}
use Rattle.task_traits.specs.declared.phase.Phase.{Phase}

-- how far shutdown has come, and how many pieces of work block its end
pub record Progress : Type 0 where
  pub phase : Phase
  pub count : ℕ
