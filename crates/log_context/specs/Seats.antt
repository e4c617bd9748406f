-- What a seat is at work with, and where a task is.
use Rattle.std.specs.Prelude.{ℕ, ◌==◌, Bool, true, false, not, List, Option, None}
use Rattle.std.specs.Option.{option_or}
use Rattle.list_laws.specs.Lists.{holds_of, keep}
use Rattle.task_base.specs.declared.entry.Entry.{Entry}
use Rattle.task_base.specs.declared.entry.Kind.{Kind}
use Rattle.task_base.specs.declared.entry.Kind.TheVariants as kinds
use Rattle.log_context.specs.Seen.{last_marked, stands_as, tells}
use Rattle.log_context.specs.declared.fact.Fact.{Fact}
use Rattle.log_context.specs.declared.fact.Role.{Role}
use Rattle.log_context.specs.declared.fact.Role.TheVariants as roles
use Rattle.log_context.specs.declared.mark.Mark.TheVariants as marks
use Rattle.log_context.specs.declared.seen.Seen.{Seen}

-- the entry starts a task, or enters a job
abbrev pub starts_work : Kind → Bool
starts_work (kinds.Take task runner found) = true
starts_work (kinds.MainTake task queue found) = true
starts_work (kinds.JobTake job id item) = true
starts_work kind = false

-- where the seat started what it is at work with, which is this to the entry
abbrev pub busy : Role → List Entry → ℕ → Option Fact
busy role past seat = stands_as role (keep (λ s. starts_work s.entry.kind) (last_marked (marks.Work seat) past))

-- a seat is still at work with what it started by this entry
abbrev pub is_at_work : List Entry → Seen → Bool
is_at_work past seen = holds_of (λ last. last.place == seen.place) (last_marked (marks.Work seen.entry.seat) past)

-- where a task was ended, or else taken by another seat
abbrev pub ended_or_taken : List Entry → ℕ → ℕ → Option Fact
ended_or_taken past seat task =
    option_or (tells roles.Ended (marks.End task) past)
    (stands_as roles.Elsewhere (keep (λ s. not (s.entry.seat == seat)) (last_marked (marks.Take task) past)))

-- where the task that makes the entry was ended before, or taken by another seat
abbrev pub elsewhere : List Entry → ℕ → Kind → Option Fact
elsewhere past seat (kinds.End task left) = ended_or_taken past seat task
elsewhere past seat (kinds.Enter task scope) = ended_or_taken past seat task
elsewhere past seat (kinds.Leave task) = ended_or_taken past seat task
elsewhere past seat kind = None
