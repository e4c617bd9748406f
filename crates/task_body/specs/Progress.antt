-- What one step of a body does, and what the steps that are done leave.
use Rattle.std.specs.Prelude.{◌≡◌, ℕ, ◌-◌, ◌≤◌, false, List, [], ◌∷◌, length, take, drop}
use Rattle.std.specs.List.{AllByRecursion}
use Rattle.task_base.specs.Steps.{is_act, after}
use Rattle.task_base.specs.declared.step.Step.{Step}
use Rattle.task_base.specs.declared.step.Step.TheVariants as steps
use Rattle.task_body.specs.declared.act.Act.{Act}
use Rattle.task_body.specs.declared.act.Act.TheVariants.{Did, Post, Main, Enter, Leave, Finished}

-- none of the steps is an act step
abbrev pub OnlyComputes : List Step → Type 0
OnlyComputes steps = AllByRecursion (λ step. is_act step ≡ false) steps

-- the first steps, `count` of them and at least one, are compute steps; they are done, and the value is what they leave
pub record Computes (rest : List Step) (value count : ℕ) (later : List Step) (left : ℕ) : Type 0 where
  pub some : 1 ≤ count
  pub within : count ≤ length rest
  pub computed : OnlyComputes (take count rest)
  pub dropped : later ≡ drop count rest
  pub leaves : left ≡ after (take count rest) value

-- the first step is this act step; it is done, and the value stays
pub record Reaches (rest : List Step) (value : ℕ) (step : Step) (later : List Step) (left : ℕ) : Type 0 where
  pub reached : rest ≡ step ∷ later
  pub stays : left ≡ value

-- no step is left, and the value stays
pub record Rests (rest : List Step) (value : ℕ) (later : List Step) (left : ℕ) : Type 0 where
  pub none : rest ≡ []
  pub none_later : later ≡ []
  pub stays : left ≡ value

-- one step of a body answers this where `rest` is to be done from the value: what is to be done `later`, and the value
-- that is `left` (this project's own rule)
abbrev pub Progress : List Step → ℕ → Act → List Step → ℕ → Type 0
Progress rest value (Did count) later left = Computes rest value count later left
Progress rest value (Post task runner delay) later left = Reaches rest value (steps.Post task runner delay) later left
Progress rest value (Main task queue delay) later left = Reaches rest value (steps.Main task queue delay) later left
Progress rest value (Enter scope) later left = Reaches rest value (steps.Block scope) later left
Progress rest value Leave later left = Reaches rest value steps.Unblock later left
Progress rest value Finished later left = Rests rest value later left

-- the steps of the whole that are done, where `rest` is to be done
abbrev pub done_of : List Step → List Step → List Step
done_of whole rest = take (length whole - length rest) whole
