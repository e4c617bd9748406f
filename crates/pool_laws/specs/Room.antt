-- Words of the laws on how much work runs, and how much may.
use Rattle.std.specs.Prelude.{ℕ, ◌==◌, Bool, false, if◌then◌else◌}
use Rattle.task_base.specs.declared.entry.Kind.{Kind}
use Rattle.task_base.specs.declared.entry.Kind.TheVariants.{Enter, Leave}

-- one where the test holds
abbrev pub share : Bool → ℕ
share b = if b then 1 else 0

-- the entry opens or closes a scope of the task
abbrev pub scopes : ℕ → Kind → Bool
scopes t (Enter task scope) = task == t
scopes t (Leave task) = task == t
scopes t kind = false
