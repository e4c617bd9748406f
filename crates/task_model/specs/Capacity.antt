-- How much work may run at once.
use Rattle.std.specs.Prelude.{ℕ, ◌+◌, ◌==◌, Bool, not, ◌&&◌, ◌||◌, nat_lt, if◌then◌else◌, List, slice_get, Option, Some, None, fold, is_some}
use Rattle.std.specs.Option.{option_map_or}
use Rattle.task_base.specs.Plan.{Plan}
use Rattle.task_base.specs.declared.entry.Entry.{Entry}
use Rattle.task_base.specs.declared.entry.Kind.{Kind}
use Rattle.task_base.specs.declared.entry.Kind.TheVariants.{Take, End, MainTake, MainEnd, Enter, Leave, Reprio}
use Rattle.task_base.specs.declared.step.Scope.{Scope}
use Rattle.task_traits.specs.declared.traits.Priority.{Priority}
use Rattle.task_traits.specs.declared.traits.Priority.TheVariants.{BestEffort}
use Rattle.list_laws.specs.Lists.{count, holds_of}
use Rattle.task_model.specs.Past.{fold_past}
use Rattle.task_model.specs.Time.{now_of}
use Rattle.task_model.specs.Seats.{Holding, running, holding, worker_seats}
use Rattle.task_base.specs.Groups.{Group, Foreground, Background, is_best_effort, group_of, same_group, has_come}

-- the priority that the script declares for a runner
abbrev pub declared_priority : Plan → ℕ → Priority
declared_priority script runner = option_map_or (λ r. r.traits.priority) (slice_get script.runners runner) BestEffort

-- the priority of a runner after an entry
abbrev pub priority_after : ℕ → Priority → Kind → Priority
priority_after runner now (Reprio changed priority) = if changed == runner then priority else now
priority_after runner now kind = now

-- the priority of a runner's sequences: the one that it was given last, at first the script's
-- (`updateable_sequenced_task_runner.h`)
unfoldable pub priority_of : Plan → List Entry → ℕ → Priority
priority_of script past runner = fold (λ now e. priority_after runner now e.kind) (declared_priority script runner) past

-- the priority of a job
abbrev pub priority_of_job : Plan → ℕ → Priority
priority_of_job script j = option_map_or (λ job. job.priority) (slice_get script.jobs j) BestEffort

-- how much work the group may run
abbrev pub limit : Plan → Group → ℕ
limit script Foreground = script.foreground
limit script Background = script.background

-- how much best-effort work the group may run
abbrev pub best_limit : Plan → Group → ℕ
best_limit script Foreground = script.foreground_best
best_limit script Background = script.background

-- the priority that the seat's pool task counts with after an entry of its own: the one that its runner has as it is
-- taken; a main task is no work of the pool
abbrev pub taken_after : Plan → List Entry → Option Priority → Kind → Option Priority
taken_after script before now (Take task runner found) = Some (priority_of script before runner)
taken_after script before now (MainTake task queue found) = None
taken_after script before now (End task left) = None
taken_after script before now (MainEnd task left) = None
taken_after script before now kind = now

-- the priority that the pool task which the seat runs was taken with, if it runs one
unfoldable pub taken_with : Plan → List Entry → ℕ → Option Priority
taken_with script past seat = fold_past (λ before now e. if e.seat == seat then taken_after script before now e.kind else now) None past

-- the priority of the item that a seat holds, if it holds one
abbrev pub priority_of_holding : Plan → Option Holding → Option Priority
priority_of_holding script None = None
priority_of_holding script (Some h) = Some (priority_of_job script h.job)

-- the priority of the pool's work that the seat does: a task, or an item of a job
abbrev pub work_at : Plan → List Entry → ℕ → Option Priority
work_at script past seat =
    if is_some (running past seat) then taken_with script past seat else priority_of_holding script (holding past seat)

-- work of the group
abbrev pub is_in : Plan → Group → Priority → Bool
is_in script group priority = same_group (group_of script priority) group

-- best-effort work of the group
abbrev pub is_best_in : Plan → Group → Priority → Bool
is_best_in script group priority = is_in script group priority && is_best_effort priority

-- how many workers do pool work that passes the test
abbrev pub load_of : Plan → List Entry → (Priority → Bool) → ℕ
load_of script past test = count (λ seat. holds_of test (work_at script past seat)) (worker_seats script)

-- a blocking scope that is open, and the moment at which it was opened
pub record OpenScope : Type 0 where
  pub scope : Scope
  pub since : ℕ

-- the open scope of a task after an entry
abbrev pub scope_after : ℕ → List Entry → Option OpenScope → Kind → Option OpenScope
scope_after t before now (Enter task scope) = if task == t then Some (record { scope = scope; since = now_of before }) else now
scope_after t before now (Leave task) = if task == t then None else now
scope_after t before now kind = now

-- the scope that the task opened last and has not closed (`scoped_blocking_call.h`)
unfoldable pub open_scope : List Entry → ℕ → Option OpenScope
open_scope past t = fold_past (λ before now e. scope_after t before now e.kind) None past

-- the open scope counts by now
abbrev pub scope_counts : Plan → List Entry → OpenScope → Bool
scope_counts script past opened = has_come opened.scope (opened.since + script.threshold) (now_of past)

-- the seat runs a pool task of a priority that passes the test, and its open scope counts
abbrev pub is_blocked : Plan → List Entry → (Priority → Bool) → ℕ → Bool
is_blocked script past test seat =
    holds_of (λ w. holds_of test (taken_with script past seat) && holds_of (scope_counts script past) (open_scope past w.task)) (running past seat)

-- how many workers are blocked in such a task
abbrev pub blocked_of : Plan → List Entry → (Priority → Bool) → ℕ
blocked_of script past test = count (is_blocked script past test) (worker_seats script)

-- how much work of the group runs
unfoldable pub load : Plan → List Entry → Group → ℕ
load script past group = load_of script past (is_in script group)

-- how much may run: the limit, and one more for each task that is blocked
unfoldable pub capacity : Plan → List Entry → Group → ℕ
capacity script past group = limit script group + blocked_of script past (is_in script group)

-- how much best-effort work of the group runs
unfoldable pub best_load : Plan → List Entry → Group → ℕ
best_load script past group = load_of script past (is_best_in script group)

-- how much best-effort work may run
unfoldable pub best_capacity : Plan → List Entry → Group → ℕ
best_capacity script past group = best_limit script group + blocked_of script past (is_best_in script group)

-- the group has room for work of the priority
abbrev pub has_room_in : Plan → List Entry → Group → Priority → Bool
has_room_in script past group priority =
    nat_lt (load script past group) (capacity script past group)
    && (not (is_best_effort priority) || nat_lt (best_load script past group) (best_capacity script past group))

-- work of the priority may start: its group runs less than it may, and for best-effort work also less
-- best-effort work than it may (this project's own rule)
unfoldable pub has_room : Plan → List Entry → Priority → Bool
has_room script past priority = has_room_in script past (group_of script priority) priority
