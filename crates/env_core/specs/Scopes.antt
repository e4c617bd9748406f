-- Whether a scope is open behind some steps.
use Rattle.std.specs.Prelude.{Bool, true, false, List, [], ◌∷◌}
use Rattle.task_base.specs.declared.step.Step.{Step}
use Rattle.task_base.specs.declared.step.Step.TheVariants as steps

-- whether a scope is open behind some steps
abbrev pub is_open_after : Bool → List Step → Bool
is_open_after now [] = now
is_open_after now (steps.Block scope ∷ rest) = is_open_after true rest
is_open_after now (steps.Unblock ∷ rest) = is_open_after false rest
is_open_after now (step ∷ rest) = is_open_after now rest
