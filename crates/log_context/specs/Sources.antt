-- What is said of the task, or of the job, that an entry takes.
use Rattle.std.specs.Prelude.{ℕ, ◌==◌, Bool, false, not, ◌&&◌, if◌then◌else◌, List, slice_get, Option, Some, None, is_none, option_and_then}
use Rattle.std.specs.Option.{option_map}
use Rattle.list_laws.specs.Lists.{holds_of, keep}
use Rattle.task_base.specs.Plan.{Plan}
use Rattle.task_base.specs.Runners.{is_parallel}
use Rattle.task_base.specs.declared.entry.Entry.{Entry}
use Rattle.task_base.specs.declared.entry.Kind.{Kind}
use Rattle.task_base.specs.declared.entry.Kind.TheVariants as kinds
use Rattle.task_base.specs.declared.script.RunnerKind.{RunnerKind}
use Rattle.task_base.specs.declared.script.RunnerKind.TheVariants as runners
use Rattle.task_model.specs.Capacity.{priority_of, priority_of_job}
use Rattle.task_model.specs.Keys.{key_of}
use Rattle.task_model.specs.Policies.{is_held}
use Rattle.task_model.specs.Refusal.{is_forbidden, is_job_forbidden}
use Rattle.pool_laws.specs.Posts.{post_of}
use Rattle.log_context.specs.Posts.{is_answered_otherwise}
use Rattle.log_context.specs.Seats.{is_at_work}
use Rattle.log_context.specs.Seen.{last_marked, stands_as, tells}
use Rattle.log_context.specs.declared.fact.Fact.{Fact}
use Rattle.log_context.specs.declared.fact.Fact.TheVariants as facts
use Rattle.log_context.specs.declared.fact.Role.TheVariants as roles
use Rattle.log_context.specs.declared.mark.Mark.TheVariants as marks
use Rattle.log_context.specs.declared.mark.Plain.TheVariants as plains
use Rattle.log_context.specs.declared.seen.Seen.{Seen}

-- each task of the runner is a sequence of its own
abbrev pub is_of_parallel : Plan → ℕ → Bool
is_of_parallel script runner = holds_of (λ r. is_parallel r.kind) (slice_get script.runners runner)

-- where a task was taken by another seat that is at work with it
abbrev pub runs_still : List Entry → ℕ → Option Seen → Option Fact
runs_still past seat last = stands_as roles.Runs (keep (λ s. not (s.entry.seat == seat) && is_at_work past s) last)

-- where another seat took the task of the sequence that runs, of which the entry takes a task
abbrev pub sequence : Plan → List Entry → ℕ → Kind → Option Fact
sequence script past seat (kinds.Take task runner found) =
    if is_of_parallel script runner then None else runs_still past seat (last_marked (marks.TakeOf runner) past)
sequence script past seat kind = None

-- where the task was posted that is due in place of the one that the entry takes, of the same sequence or of the main queues
abbrev pub due_by : Plan → List Entry → Kind → Kind → Option Fact
due_by script past (kinds.Take task runner found) (kinds.Take next other value) =
    if not (task == next) && runner == other && not (is_of_parallel script runner) then tells roles.Due (marks.Post next) past else None
due_by script past (kinds.MainTake task queue found) (kinds.MainTake next other value) =
    if not (task == next) then tells roles.Due (marks.Main next) past else None
due_by script past kinds.MainNone (kinds.MainTake next other value) = tells roles.Due (marks.Main next) past
due_by script past kind next = None

abbrev pub due : Plan → List Entry → Kind → Option Kind → Option Fact
due script past kind named = option_and_then (due_by script past kind) named

-- the task that an entry takes
abbrev pub task_of_take : Kind → Option ℕ
task_of_take (kinds.Take task runner found) = Some task
task_of_take (kinds.MainTake task queue found) = Some task
task_of_take kind = None

-- where the value was left that is in the cell, where the entry finds another one: at the end of the task that was taken last
abbrev pub left_by : Plan → List Entry → Kind → Kind → Option Fact
left_by script past (kinds.Take task runner found) (kinds.Take next other value) =
    if task == next && not (found == value) && not (is_of_parallel script runner)
    then option_and_then (λ s. option_and_then (λ t. tells roles.Left (marks.End t) past) (task_of_take s.entry.kind)) (last_marked (marks.TakeOf runner) past)
    else None
left_by script past (kinds.MainTake task queue found) (kinds.MainTake next other value) =
    if task == next && not (found == value)
    then option_and_then (λ s. option_and_then (λ t. tells roles.Left (marks.MainEnd t) past) (task_of_take s.entry.kind))
    (last_marked (marks.MainTakeOf queue) past)
    else None
left_by script past kind next = None

abbrev pub left : Plan → List Entry → Kind → Option Kind → Option Fact
left script past kind named = option_and_then (left_by script past kind) named

-- the policy holds back what the entry takes
abbrev pub holds_back : Plan → List Entry → Kind → Bool
holds_back script past (kinds.Take task runner found) = is_held past (priority_of script past runner)
holds_back script past (kinds.JobTake job id item) = is_held past (priority_of_job script job)
holds_back script past kind = false

-- where the policy was set that holds back what the entry takes
abbrev pub held : Plan → List Entry → Kind → Option Fact
held script past kind = if holds_back script past kind then tells roles.Policy (marks.Plain plains.Policy) past else None

-- shutdown forbids what the entry takes, or decides on the post that the entry is
abbrev pub forbids : Plan → List Entry → Kind → Option Kind → Bool
forbids script past (kinds.Take task runner found) named = holds_of (is_forbidden script past) (post_of past task)
forbids script past (kinds.JobTake job id item) named = is_job_forbidden script past job
forbids script past kind named = is_answered_otherwise kind named

-- where shutdown started, which forbids what the entry takes, or decides on the post that the entry is
abbrev pub shut : Plan → List Entry → Kind → Option Kind → Option Fact
shut script past kind named = if forbids script past kind named then tells roles.Shutdown (marks.Plain plains.Shutdown) past else None

-- what shutdown does with the tasks of the runner that the entry posts to, where another reply may come
abbrev pub behaves : Plan → Kind → Option Kind → Option Fact
behaves script (kinds.Post task runner delay ok) named =
    if is_answered_otherwise (kinds.Post task runner delay ok) named
    then option_map (λ r. facts.Behaves runner r.traits.behaviour) (slice_get script.runners runner)
    else None
behaves script kind named = None

-- a task was accepted and has no key yet
abbrev pub is_unripe : List Entry → ℕ → Bool
is_unripe past task = holds_of (λ p. is_none (key_of past p)) (post_of past task)

-- where the clock was read last, where the task that the entry takes is not ripe yet
abbrev pub ripens : List Entry → Kind → Option Fact
ripens past (kinds.Take task runner found) = if is_unripe past task then tells roles.Moment (marks.Plain plains.Tick) past else None
ripens past kind = None

-- where the job was cancelled that the entry enters
abbrev pub stopped : List Entry → Kind → Option Fact
stopped past (kinds.JobTake job id item) = tells roles.Cancelled (marks.JobCancel job) past
stopped past kind = None

-- which seat alone takes tasks of a runner, where that is another one
abbrev pub only_seat_of : ℕ → ℕ → RunnerKind → Option Fact
only_seat_of seat runner (runners.Single only) = if only == seat then None else Some (facts.Single runner only)
only_seat_of seat runner kind = None

abbrev pub only_seat : Plan → ℕ → Kind → Option Fact
only_seat script seat (kinds.Take task runner found) = option_and_then (λ r. only_seat_of seat runner r.kind) (slice_get script.runners runner)
only_seat script seat kind = None

-- the priorities of two runners, where the entry takes a task of the one, and the best source is of the other
abbrev pub priorities_by : Plan → List Entry → Kind → Kind → Option Fact
priorities_by script past (kinds.Take task runner found) (kinds.Take next best value) =
    if runner == best then None else Some (facts.Priorities runner (priority_of script past runner) best (priority_of script past best))
priorities_by script past kind next = None

abbrev pub priorities : Plan → List Entry → Kind → Option Kind → Option Fact
priorities script past kind named = option_and_then (priorities_by script past kind) named
