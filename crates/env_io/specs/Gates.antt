-- What contracts see of a gate that holds a worker up (this project's own rule).
use Rattle.std.specs.Prelude.{ℕ}

-- the task that is held, the one that it is held for, and how often the gate looks for that one
pub record HoldView : Type 0 where
  pub held : ℕ
  pub until : ℕ
  pub turns : ℕ
