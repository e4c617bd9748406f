-- Whose runners are.
use Rattle.std.specs.Prelude.{ℕ, ◌==◌, Bool, not}
use Rattle.list_laws.specs.Lists.{holds_of}
use Rattle.task_base.specs.Plan.{Plan}
use Rattle.task_base.specs.Runners.{seat_of}

-- the runner is a single-thread one of another seat
abbrev pub is_others : Plan → ℕ → ℕ → Bool
is_others script seat runner = holds_of (λ only. not (only == seat)) (seat_of script runner)
