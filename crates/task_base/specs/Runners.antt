-- Which tasks of a runner form one sequence, and which seat may take them.
use Rattle.std.specs.Prelude.{ℕ, ◌+◌, Bool, true, false, if◌then◌else◌, length, Option, Some, None, slice_get, option_and_then}
use Rattle.task_base.specs.Plan.{Plan}
use Rattle.task_base.specs.declared.script.RunnerKind.{RunnerKind}
use Rattle.task_base.specs.declared.script.RunnerKind.TheVariants.{Parallel, Sequenced, Single}
use Rattle.list_laws.specs.Lists.{holds_of}

-- the runner makes a sequence of each task
abbrev pub is_parallel : RunnerKind → Bool
is_parallel Parallel = true
is_parallel Sequenced = false
is_parallel (Single seat) = false

-- the sequence of a task on a runner: each task of a parallel runner is a sequence of its own, and all
-- tasks of another runner are one (`thread_pool.h`; the numbering is this project's own)
abbrev pub sequence_of : Plan → ℕ → ℕ → ℕ
sequence_of script runner task =
    if holds_of (λ r. is_parallel r.kind) (slice_get script.runners runner) then length script.runners + task else runner

-- how many sequence numbers there are
abbrev pub sequence_count : Plan → ℕ
sequence_count script = length script.runners + length script.tasks

-- the seat of a single-thread runner
abbrev pub seat_of_kind : RunnerKind → Option ℕ
seat_of_kind Parallel = None
seat_of_kind Sequenced = None
seat_of_kind (Single seat) = Some seat

-- the seat of a single-thread runner, if the runner is one
abbrev pub seat_of : Plan → ℕ → Option ℕ
seat_of script runner = option_and_then (λ r. seat_of_kind r.kind) (slice_get script.runners runner)
