-- What contracts see of bodies and of an assignment.
use Rattle.std.specs.Prelude.{◌≡◌, ℕ, ◌^◌, ◌<◌, ◌≤◌, List, [], ◌++◌, length, Option, Some, None}
use Rattle.task_base.specs.Steps.{after}
use Rattle.task_base.specs.declared.step.Step.{Step}
use Rattle.task_body.specs.Progress.{OnlyComputes, done_of}

-- all steps of a body, and those that are still to do
pub record BodyView : Type 0 where
  pub whole : List Step
  pub rest : List Step

-- what is left to do: all steps while there is work, then none
abbrev pub left_of : {W : Type 0} → Option W → List Step → List Step
left_of (Some work) whole = whole
left_of None whole = []

-- work that is to do stands for the steps: these can be counted, there is one, and all are compute steps
pub record StandsForSteps (stands whole : List Step) : Type 0 where
  pub some : 1 ≤ length whole
  pub countable : length whole < 2 ^ 32
  pub computes : OnlyComputes whole
  pub same : stands ≡ whole

-- work that is to do stands for the steps
abbrev pub IsReady : {W : Type 0} → (W → List Step) → Option W → List Step → Type 0
IsReady stands (Some work) whole = StandsForSteps (stands work) whole
IsReady stands None whole = Unit {0}

-- a task under way: its number, the runner or main queue that it was posted to, the value that it found, the value that
-- its cell has now, and the steps of its body
pub record AssignmentView : Type 0 where
  pub task : ℕ
  pub home : ℕ
  pub found : ℕ
  pub value : ℕ
  pub whole : List Step
  pub rest : List Step

-- the value is what the steps that are done leave of the one that was found
pub record IsConsistent (a : AssignmentView) : Type 0 where
  pub parted : a.whole ≡ done_of a.whole a.rest ++ a.rest
  pub left : a.value ≡ after (done_of a.whole a.rest) a.found
