-- Who runs what.
use Rattle.std.specs.Prelude.{ℕ, ◌+◌, ◌==◌, Bool, true, false, not, ◌&&◌, if◌then◌else◌, List, [], filter, fold, Option, Some, None, is_none, slice_get, option_and_then}
use Rattle.std.specs.List.{list_any, list_all, range_with_len}
use Rattle.std.specs.Option.{option_map_or}
use Rattle.task_base.specs.Plan.{Plan}
use Rattle.task_base.specs.Steps.{is_act}
use Rattle.task_base.specs.declared.step.Step.{Step}
use Rattle.task_base.specs.declared.entry.Entry.{Entry}
use Rattle.task_base.specs.declared.entry.Kind.{Kind}
use Rattle.task_base.specs.declared.entry.Kind.TheVariants.{Post, Main, Take, End, Enter, Leave, MainTake, MainEnd, JobTake, JobStep}
use Rattle.list_laws.specs.Lists.{holds_of}
use Rattle.task_base.specs.Runners.{sequence_of}

-- a task that runs, its home, what it found in the cell, and whether it is a main task
pub record Running : Type 0 where
  pub task : ℕ
  pub home : ℕ
  pub found : ℕ
  pub is_main : Bool

-- what a seat runs after an entry of its own
abbrev pub running_after : Option Running → Kind → Option Running
running_after now (Take task runner found) = Some (record { task = task; home = runner; found = found; is_main = false })
running_after now (MainTake task queue found) = Some (record { task = task; home = queue; found = found; is_main = true })
running_after now (End task left) = None
running_after now (MainEnd task left) = None
running_after now kind = now

-- what a seat runs: the task that it took last, until it ends it
unfoldable pub running : List Entry → ℕ → Option Running
running past seat = fold (λ now e. if e.seat == seat then running_after now e.kind else now) None past

-- an item of a job that is held, under a number inside the job
pub record Holding : Type 0 where
  pub job : ℕ
  pub id : ℕ
  pub item : ℕ

-- what a seat holds after an entry of its own
abbrev pub holding_after : Option Holding → Kind → Option Holding
holding_after now (JobTake job id item) = Some (record { job = job; id = id; item = item })
holding_after now (JobStep job id item value (Some next)) = Some (record { job = job; id = id; item = next })
holding_after now (JobStep job id item value None) = None
holding_after now kind = now

-- what a seat holds: the item that it claimed last, until it leaves the job
unfoldable pub holding : List Entry → ℕ → Option Holding
holding past seat = fold (λ now e. if e.seat == seat then holding_after now e.kind else now) None past

-- the worker seats
abbrev pub worker_seats : Plan → List ℕ
worker_seats script = range_with_len 1 script.workers

-- the driver's seat and the worker seats
abbrev pub all_seats : Plan → List ℕ
all_seats script = range_with_len 0 (script.workers + 1)

-- the seat runs no task and holds no item
abbrev pub is_free : List Entry → ℕ → Bool
is_free past seat = is_none (running past seat) && is_none (holding past seat)

-- no seat runs a task, and none holds an item
unfoldable pub is_quiet : Plan → List Entry → Bool
is_quiet script past = list_all (is_free past) (all_seats script)

-- the task that runs is of this sequence
abbrev pub runs_of : Plan → ℕ → Running → Bool
runs_of script s w = not w.is_main && sequence_of script w.home w.task == s

-- some seat runs a task of this sequence (`thread_pool.h`: a sequence runs one task at a time)
unfoldable pub runs_sequence : Plan → List Entry → ℕ → Bool
runs_sequence script past s = list_any (λ seat. holds_of (runs_of script s) (running past seat)) (all_seats script)

-- the seats that hold an item of the job
unfoldable pub inside : Plan → List Entry → ℕ → List ℕ
inside script past j = filter (λ seat. holds_of (λ h. h.job == j) (holding past seat)) (all_seats script)

-- how many act steps were entered after an entry of the seat's own
abbrev pub acts_after : ℕ → Kind → ℕ
acts_after n (Take task runner found) = 0
acts_after n (MainTake task queue found) = 0
acts_after n (Post task runner delay ok) = n + 1
acts_after n (Main task queue delay ok) = n + 1
acts_after n (Enter task scope) = n + 1
acts_after n (Leave task) = n + 1
acts_after n kind = n

-- how many act steps of the task that the seat runs were entered
unfoldable pub acts_done : List Entry → ℕ → ℕ
acts_done past seat = fold (λ n e. if e.seat == seat then acts_after n e.kind else n) 0 past

-- the steps of a task
abbrev pub steps_of : Plan → ℕ → List Step
steps_of script task = option_map_or (λ steps. steps) (slice_get script.tasks task) []

-- the next act step of the task that the seat runs
abbrev pub next_act : Plan → List Entry → ℕ → Option Step
next_act script past seat = option_and_then (λ w. slice_get (filter is_act (steps_of script w.task)) (acts_done past seat)) (running past seat)
