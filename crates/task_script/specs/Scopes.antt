-- Blocking scopes, step by step.
use Rattle.std.specs.Prelude.{Bool, true, false, if◌then◌else◌, Option, Some, None}
use Rattle.task_base.specs.declared.step.Step.{Step}
use Rattle.task_base.specs.declared.step.Step.TheVariants.{Block, Unblock}

-- whether a scope is open behind a step, if the step opens no second one and closes one that is open
abbrev pub next_inside : Bool → Step → Option Bool
next_inside inside (Block scope) = if inside then None else Some true
next_inside inside Unblock = if inside then Some false else None
next_inside inside step = Some inside
