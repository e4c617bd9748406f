-- What steps do to the value of a cell.
use Rattle.std.specs.Prelude.{ℕ, Bool, true, false, ◌+◌, ◌*◌, ◌%◌, ◌^◌, List, fold}
use Rattle.task_base.specs.declared.step.Step.{Step}
use Rattle.task_base.specs.declared.step.Step.TheVariants.{Add, Mul, Set, Post, Main, Block, Unblock}

-- the step makes an entry of the history; the others compute
abbrev pub is_act : Step → Bool
is_act (Add by) = false
is_act (Mul by) = false
is_act (Set to) = false
is_act (Post task runner delay) = true
is_act (Main task queue delay) = true
is_act (Block scope) = true
is_act Unblock = true

-- the value that one step leaves, modulo 2^64; an act step leaves it as it is (this project's own rule)
abbrev pub apply_step : Step → ℕ → ℕ
apply_step (Add by) value = (value + by) % 2 ^ 64
apply_step (Mul by) value = (value * by) % 2 ^ 64
apply_step (Set to) value = to
apply_step (Post task runner delay) value = value
apply_step (Main task queue delay) value = value
apply_step (Block scope) value = value
apply_step Unblock value = value

-- the value that steps leave, applied in order (this project's own rule)
abbrev pub after : List Step → ℕ → ℕ
after steps value = fold (λ v step. apply_step step v) value steps
