-- The events of a log (which entries make them is this project's own rule).
use Rattle.std.specs.Prelude.{ℕ, ◌+◌, ◌-◌, true, List, [], ◌∷◌, ◌++◌, map, slice_get, slice_set, slice_index_or, Option, Some, None}
use Rattle.std.specs.Option.{option_map_or}
use Rattle.std.specs.List.{range_with_len}
use Rattle.task_base.specs.Plan.{Plan}
use Rattle.task_base.specs.declared.entry.Entry.{Entry}
use Rattle.task_base.specs.declared.entry.Kind.{Kind}
use Rattle.task_base.specs.declared.entry.Kind.TheVariants as kinds
use Rattle.task_traits.specs.declared.traits.Priority.{Priority}
use Rattle.task_traits.specs.declared.traits.Priority.TheVariants.{BestEffort}
use Rattle.task_traits.specs.declared.traits.Behaviour.{Behaviour}
use Rattle.task_traits.specs.declared.traits.Behaviour.TheVariants.{ContinueOnShutdown}
use Rattle.task_model.specs.Capacity.{priority_of_job}
use Rattle.task_model.specs.Refusal.{behaviour_of_job}
use Rattle.full_trace.specs.declared.event.Event.{Event}
use Rattle.full_trace.specs.declared.event.What.{What}
use Rattle.full_trace.specs.declared.event.What.TheVariants.{Process, Seat, TaskBegins, MainBegins, TaskEnds, ItemBegins, ItemEnds, ScopeBegins, ScopeEnds}
use Rattle.full_trace.specs.declared.event.What.TheVariants.{Posts, MainPosts, FlowsFrom, FlowsTo, Happens, Work}

-- ---- what the log has come to

-- the priority of each runner, how many tasks of the pool run, and how many were accepted and have not been taken
pub record Standing : Type 0 where
  pub priorities : List Priority
  pub running : ℕ
  pub waiting : ℕ

-- before the first entry: each runner has the priority that the script declares
abbrev pub declared : Plan → Standing
declared script = record { priorities = map (λ r. r.traits.priority) script.runners; running = 0; waiting = 0 }

-- the priorities after an entry
abbrev pub priorities_after : List Priority → Kind → List Priority
priorities_after priorities (kinds.Reprio runner priority) = slice_set priorities runner priority
priorities_after priorities kind = priorities

-- how many tasks run after an entry
abbrev pub running_after : ℕ → Kind → ℕ
running_after n (kinds.Take task runner found) = n + 1
running_after n (kinds.End task left) = n - 1
running_after n kind = n

-- how many tasks wait after an entry
abbrev pub waiting_after : ℕ → Kind → ℕ
waiting_after n (kinds.Post task runner delay true) = n + 1
waiting_after n (kinds.Take task runner found) = n - 1
waiting_after n kind = n

-- the same of all three
unfoldable pub course_after : Standing → Kind → Standing
course_after c kind = record {
  priorities = priorities_after c.priorities kind;
  running = running_after c.running kind;
  waiting = waiting_after c.waiting kind;
}

-- ---- what an entry says

abbrev pub priority_at : List Priority → ℕ → Priority
priority_at priorities runner = slice_index_or priorities runner BestEffort

-- what shutdown does with the tasks of a runner
abbrev pub behaviour_of : Plan → ℕ → Behaviour
behaviour_of script runner = option_map_or (λ r. r.traits.behaviour) (slice_get script.runners runner) ContinueOnShutdown

abbrev pub begin_of_task : Plan → Standing → ℕ → ℕ → ℕ → What
begin_of_task script c task runner found = TaskBegins task runner (priority_at c.priorities runner) (behaviour_of script runner) found

abbrev pub begin_of_item : Plan → ℕ → ℕ → ℕ → What
begin_of_item script job id item = ItemBegins job item id (priority_of_job script job) (behaviour_of_job script job)

-- what an entry says first, where that is in the entry alone: a post, a beginning, an end, or a mark
abbrev pub said_of : Kind → What
said_of (kinds.Post task runner delay ok) = Posts task runner delay ok
said_of (kinds.Main task queue delay ok) = MainPosts task queue delay ok
said_of (kinds.MainTake task queue found) = MainBegins task queue found
said_of (kinds.End task left) = TaskEnds task left
said_of (kinds.MainEnd task left) = TaskEnds task left
said_of (kinds.JobStep job id item value next) = ItemEnds job item value
said_of (kinds.Enter task scope) = ScopeBegins scope
said_of (kinds.Leave task) = ScopeEnds
said_of kind = Happens kind

-- what an entry says first, after which the log has come to this
abbrev pub said : Plan → Standing → Kind → What
said script c (kinds.Take task runner found) = begin_of_task script c task runner found
said script c (kinds.JobTake job id item) = begin_of_item script job id item
said script c kind = said_of kind

-- the end of a flow that an entry is: a post that was accepted, or the take of its task
abbrev pub flow_of : Kind → Option What
flow_of (kinds.Post task runner delay true) = Some (FlowsFrom task)
flow_of (kinds.Main task queue delay true) = Some (FlowsFrom task)
flow_of (kinds.Take task runner found) = Some (FlowsTo task)
flow_of (kinds.MainTake task queue found) = Some (FlowsTo task)
flow_of kind = None

-- the item that a seat goes on with
abbrev pub next_of : Plan → Kind → Option What
next_of script (kinds.JobStep job id item value (Some next)) = Some (begin_of_item script job id next)
next_of script kind = None

-- how much work of the pool there is, where the entry changes that
abbrev pub work_of : Standing → Kind → Option What
work_of c (kinds.Post task runner delay true) = Some (Work c.running c.waiting)
work_of c (kinds.Take task runner found) = Some (Work c.running c.waiting)
work_of c (kinds.End task left) = Some (Work c.running c.waiting)
work_of c kind = None

-- ---- the events

-- an event, where something is said
abbrev pub event_if : ℕ → ℕ → Option What → List Event
event_if seat place None = []
event_if seat place (Some what) = record { seat = seat; place = place; what = what } ∷ []

-- the events of an entry at its place, after which the log has come to this
unfoldable pub events_at : Plan → Standing → ℕ → Entry → List Event
events_at script c place e = event_if e.seat place (Some (said script c e.kind)) ++ event_if e.seat place (flow_of e.kind)
    ++ event_if e.seat place (next_of script e.kind) ++ event_if e.seat place (work_of c e.kind)

-- the events of the entries from a place on, where the log has come to this before
abbrev pub events_from : Plan → Standing → ℕ → List Entry → List Event
events_from script c place [] = []
events_from script c place (e ∷ rest) =
    events_at script (course_after c e.kind) place e ++ events_from script (course_after c e.kind) (place + 1) rest

-- the name of a seat, at the first place
abbrev pub seat_event : ℕ → Event
seat_event seat = record { seat = seat; place = 0; what = Seat }

-- the names of the process and of these seats
abbrev pub names_of : ℕ → List Event
names_of seats = record { seat = 0; place = 0; what = Process } ∷ map seat_event (range_with_len 0 seats)

-- the trace of a log: the names of the process, the driver and the workers, and the events of the entries, in order
unfoldable pub trace_of : Plan → List Entry → List Event
trace_of script log = names_of (script.workers + 1) ++ events_from script (declared script) 0 log
