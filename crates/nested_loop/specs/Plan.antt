-- What contracts see of a nest.
use Rattle.std.specs.Prelude.{ℕ, Bool, List}
use Rattle.nested_loop.specs.declared.nest.NestStep.{NestStep}
use Rattle.nested_loop.specs.declared.nest.NestAction.{NestAction}

-- a task of a nest without the room of its list
pub record NestTaskPlan : Type 0 where
  pub nestable : Bool
  pub steps : List NestStep

-- a nest without the room of its lists
pub record NestPlan : Type 0 where
  pub classes : List ℕ
  pub tasks : List NestTaskPlan
  pub actions : List NestAction
