-- What comes in an open plan: its driver, the tasks that run and a guest enter what they like, each where its own condition
-- holds and what it names is declared (this project's own rules).
use Rattle.std.specs.Prelude.{◌≡◌, ℕ, ◌==◌, Bool, true, false, not, ◌&&◌, ◌||◌, nat_lt, nat_le, List, length, is_none, is_some}
use Rattle.std.specs.List.{list_any}
use Rattle.task_base.specs.declared.limits.TheConstants.{MOST_MICROSECONDS}
use Rattle.task_base.specs.Plan.{Plan}
use Rattle.task_base.specs.declared.step.Step.{Step}
use Rattle.task_base.specs.declared.step.Step.TheVariants as steps
use Rattle.task_base.specs.declared.entry.Entry.{Entry}
use Rattle.task_base.specs.declared.entry.Kind.{Kind}
use Rattle.task_base.specs.declared.entry.Kind.TheVariants as kinds
use Rattle.task_traits.specs.declared.phase.Phase.{Phase}
use Rattle.task_traits.specs.declared.phase.Phase.TheVariants.{Running as Before, Started, Done}
use Rattle.list_laws.specs.Lists.{holds_of}
use Rattle.script_model.specs.Draft.{is_voter, may_block_on}
use Rattle.task_model.specs.Phase.{phase_of}
use Rattle.task_model.specs.Seats.{running, is_free}
use Rattle.task_model.specs.Jobs.{job_post_of}
use Rattle.task_model.specs.Capacity.{open_scope}

-- the plan is closed: the driver does its actions, and each task its steps
abbrev pub IsClosed : Plan → Type 0
IsClosed script = script.is_open ≡ false

-- the plan is open
abbrev pub IsOpen : Plan → Type 0
IsOpen script = script.is_open ≡ true

-- ---- the driver

-- shutdown was not started
abbrev pub is_before : Phase → Bool
is_before Before = true
is_before Started = false
is_before Done = false

-- shutdown is done
abbrev pub is_done : Phase → Bool
is_done Before = false
is_done Started = false
is_done Done = true

-- the entry reads the clock
abbrev pub is_tick : Kind → Bool
is_tick (kinds.Tick now) = true
is_tick kind = false

-- by its own entries, the driver may enter this kind, and names what is declared: a job is posted once, and cancelled and
-- joined after that; shutdown is started once
abbrev pub is_in_order : Plan → List Entry → Kind → Bool
is_in_order script own (kinds.Tick now) = true
is_in_order script own (kinds.Policy policy) = true
is_in_order script own (kinds.Reprio runner priority) = nat_lt runner (length script.runners)
is_in_order script own (kinds.Fence queue at) = nat_lt queue (length script.queues)
is_in_order script own (kinds.Unfence queue) = nat_lt queue (length script.queues)
is_in_order script own (kinds.Vote queue voter on) = is_voter script.queues queue voter
is_in_order script own (kinds.Rank queue class) = nat_lt queue (length script.queues) && nat_le class 7
is_in_order script own (kinds.Close queue) = nat_lt queue (length script.queues)
is_in_order script own (kinds.MainTake task queue found) = true
is_in_order script own kinds.MainNone = true
is_in_order script own (kinds.JobPost job ok) = nat_lt job (length script.jobs) && is_none (job_post_of own job)
is_in_order script own (kinds.JobTake job id item) = true
is_in_order script own (kinds.JobCancel job) = is_some (job_post_of own job)
is_in_order script own (kinds.Cancelled job) = true
is_in_order script own (kinds.Joined job reply) = is_some (job_post_of own job)
is_in_order script own kinds.Idle = true
is_in_order script own kinds.Shutdown = is_before (phase_of own)
is_in_order script own kinds.Done = true
is_in_order script own kind = false

-- the driver of an open plan may enter this kind: until shutdown is done, and while it runs and holds nothing; it reads the
-- clock also amid a task or an item
abbrev pub serves : Plan → List Entry → Kind → Bool
serves script own kind = not (is_done (phase_of own)) && (is_tick kind || is_free own 0) && is_in_order script own kind

-- ---- the guest

-- the last seat of an open plan: what is posted from outside of the environment is posted under it, and it takes nothing
abbrev pub is_guest : Plan → ℕ → Bool
is_guest script seat = script.is_open && seat == script.workers

-- ---- posts

-- the entry posts this task, accepted or refused
abbrev pub posts_task : ℕ → Kind → Bool
posts_task t (kinds.Post task runner delay ok) = task == t
posts_task t (kinds.Main task queue delay ok) = task == t
posts_task t kind = false

-- the task was posted, accepted or refused
unfoldable pub was_posted : List Entry → ℕ → Bool
was_posted past t = list_any (λ e. posts_task t e.kind) past

-- the step posts this task
abbrev pub step_posts : ℕ → Step → Bool
step_posts t (steps.Post task runner delay) = task == t
step_posts t (steps.Main task queue delay) = task == t
step_posts t step = false

-- a step of some task posts it
abbrev pub is_kept : Plan → ℕ → Bool
is_kept script t = list_any (λ task. list_any (step_posts t) task) script.tasks

-- the post names what is declared, and its delay is in its range
abbrev pub is_post_within : Plan → Kind → Bool
is_post_within script (kinds.Post task runner delay ok) =
    nat_lt task (length script.tasks) && nat_lt runner (length script.runners) && nat_le delay MOST_MICROSECONDS
is_post_within script (kinds.Main task queue delay ok) =
    nat_lt task (length script.tasks) && nat_lt queue (length script.queues) && nat_le delay MOST_MICROSECONDS
is_post_within script kind = false

-- the seat may post at any time: the driver, the guest, or one that runs a task
abbrev pub is_poster : Plan → List Entry → ℕ → Bool
is_poster script past seat = seat == 0 || is_guest script seat || is_some (running past seat)

-- ---- scopes

-- the seat runs this task of the pool, on a runner that may block, and no scope of it is open
abbrev pub may_open_scope : Plan → List Entry → ℕ → ℕ → Bool
may_open_scope script past seat task =
    holds_of (λ w. w.task == task && not w.is_main && may_block_on script.runners w.home) (running past seat) && is_none (open_scope past task)

-- the seat runs this task, and a scope of it is open
abbrev pub may_close_scope : List Entry → ℕ → ℕ → Bool
may_close_scope past seat task = holds_of (λ w. w.task == task) (running past seat) && is_some (open_scope past task)
