-- How much work of a limit runs, and how much may.
use Rattle.std.specs.Prelude.{ℕ, Bool, true, false, if◌then◌else◌, nat_lt, List, length, Option, Some, None, option_and_then}
use Rattle.std.specs.Option.{option_map}
use Rattle.list_laws.specs.Lists.{count, holds_of}
use Rattle.task_base.specs.Groups.{Background, Foreground, Group, group_of, is_best_effort}
use Rattle.task_base.specs.Plan.{Plan}
use Rattle.task_base.specs.declared.entry.Entry.{Entry}
use Rattle.task_base.specs.declared.entry.Kind.{Kind}
use Rattle.task_base.specs.declared.entry.Kind.TheVariants as kinds
use Rattle.task_traits.specs.declared.traits.Priority.{Priority}
use Rattle.task_model.specs.Capacity.{best_capacity, best_load, capacity, is_best_in, is_blocked, is_in, load, priority_of, priority_of_job, work_at}
use Rattle.task_model.specs.Seats.{worker_seats}
use Rattle.log_context.specs.declared.fact.Fact.{Fact}
use Rattle.log_context.specs.declared.fact.Fact.TheVariants as facts
use Rattle.log_context.specs.declared.fact.Limit.{Limit}
use Rattle.log_context.specs.declared.fact.Limit.TheVariants as limits
use Rattle.log_context.specs.declared.sought.TheConstants.{MOST_SEARCHED}

-- how much work of a limit runs, and how much may (`Capacity.has_room` has these counts)
abbrev pub room : Plan → List Entry → Limit → Fact
room script past limits.Foreground = facts.Room limits.Foreground (load script past Foreground) (capacity script past Foreground)
room script past limits.BestEffort = facts.Room limits.BestEffort (best_load script past Foreground) (best_capacity script past Foreground)
room script past limits.Background = facts.Room limits.Background (load script past Background) (capacity script past Background)

-- the limit of all work of a group
abbrev pub limit_of : Group → Limit
limit_of Foreground = limits.Foreground
limit_of Background = limits.Background

-- the limit of best-effort work in a group with other work
abbrev pub best_of : Group → Bool → Option Limit
best_of Foreground true = Some limits.BestEffort
best_of group best = None

-- the priority of what an entry takes
abbrev pub priority_by : Plan → List Entry → Kind → Option Priority
priority_by script past (kinds.Take task runner found) = Some (priority_of script past runner)
priority_by script past (kinds.JobTake job id item) = Some (priority_of_job script job)
priority_by script past kind = None

-- the same where the past is not too long
abbrev pub counted_by : Plan → List Entry → Kind → Option Priority
counted_by script past kind = if nat_lt MOST_SEARCHED (length past) then None else priority_by script past kind

-- what runs, and may, of the group of what an entry takes
abbrev pub first_room : Plan → List Entry → Kind → Option Fact
first_room script past kind = option_map (λ p. room script past (limit_of (group_of script p))) (counted_by script past kind)

-- the same of best-effort work in a group with other work, where the entry takes such work
abbrev pub second_room : Plan → List Entry → Kind → Option Fact
second_room script past kind =
    option_and_then (λ p. option_map (room script past) (best_of (group_of script p) (is_best_effort p))) (counted_by script past kind)

-- work of this priority is of the limit
abbrev pub is_of : Plan → Limit → Priority → Bool
is_of script limits.Foreground = is_in script Foreground
is_of script limits.BestEffort = is_best_in script Foreground
is_of script limits.Background = is_in script Background

-- a seat does work of the limit, or it does and is blocked
abbrev pub is_counted : Plan → List Entry → Limit → Bool → ℕ → Bool
is_counted script past limit false seat = holds_of (is_of script limit) (work_at script past seat)
is_counted script past limit true seat = is_blocked script past (is_of script limit) seat

-- how many workers
abbrev pub counted : Plan → List Entry → Limit → Bool → ℕ
counted script past limit blocked = count (is_counted script past limit blocked) (worker_seats script)

-- how much work of the limit may run by the script
abbrev pub most_of : Plan → Limit → ℕ
most_of script limits.Foreground = script.foreground
most_of script limits.BestEffort = script.foreground_best
most_of script limits.Background = script.background
