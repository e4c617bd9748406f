-- Which plans a live core takes.
use Rattle.std.specs.Prelude.{ℕ, ◌==◌, Bool, false, length, slice_get, Option}
use Rattle.std.specs.List.{find, range_with_len}
use Rattle.list_laws.specs.Lists.{holds_of}
use Rattle.task_base.specs.Plan.{Plan}
use Rattle.task_base.specs.declared.script.RunnerKind.{RunnerKind}
use Rattle.task_base.specs.declared.script.RunnerKind.TheVariants as runner_kinds

-- only this seat takes what is posted to a runner of this kind
abbrev pub is_bound_to : RunnerKind → ℕ → Bool
is_bound_to (runner_kinds.Single bound) seat = bound == seat
is_bound_to kind seat = false

-- there is a runner at the place, and it is bound to the last seat, which is the guest's and takes nothing
abbrev pub is_guests : Plan → ℕ → Bool
is_guests plan place = holds_of (λ runner. is_bound_to runner.kind plan.workers) (slice_get plan.runners place)

-- the first runner of the guest's seat, if there is one
abbrev pub guest_runner : Plan → Option ℕ
guest_runner plan = find (is_guests plan) (range_with_len 0 (length plan.runners))
