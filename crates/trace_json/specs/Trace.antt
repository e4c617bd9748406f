-- The trace events of a log (duration events of the Trace Event Format; which entries make them is this project's own rule).
use Rattle.std.specs.Prelude.{ℕ, ◌+◌, List, [], ◌∷◌, ◌++◌, Option, Some, None}
use Rattle.task_base.specs.declared.entry.Entry.{Entry}
use Rattle.task_base.specs.declared.entry.Kind.{Kind}
use Rattle.task_base.specs.declared.entry.Kind.TheVariants as kinds
use Rattle.trace_json.specs.declared.event.EventName.{EventName}
use Rattle.trace_json.specs.declared.event.EventName.TheVariants.{Task, Item}
use Rattle.trace_json.specs.declared.event.EventPhase.{EventPhase}
use Rattle.trace_json.specs.declared.event.EventPhase.TheVariants.{Begin, End}
use Rattle.trace_json.specs.declared.event.TraceEvent.{TraceEvent}

-- what an entry ends: a task, or the item of a job that the seat held
abbrev pub ended_by : Kind → Option EventName
ended_by (kinds.End task left) = Some (Task task)
ended_by (kinds.MainEnd task left) = Some (Task task)
ended_by (kinds.JobStep job id item value next) = Some (Item job item)
ended_by kind = None

-- what an entry begins: a task that it takes, or the item of a job that it claims
abbrev pub begun_by : Kind → Option EventName
begun_by (kinds.Take task runner found) = Some (Task task)
begun_by (kinds.MainTake task queue found) = Some (Task task)
begun_by (kinds.JobTake job id item) = Some (Item job item)
begun_by (kinds.JobStep job id item value (Some next)) = Some (Item job next)
begun_by kind = None

-- an event, where there is a name for it
abbrev pub event_if : Option EventName → EventPhase → ℕ → ℕ → List TraceEvent
event_if None phase seat place = []
event_if (Some name) phase seat place = record { name = name; phase = phase; seat = seat; place = place } ∷ []

-- the events of an entry at its place: the end, and then the beginning
abbrev pub events_at : ℕ → Entry → List TraceEvent
events_at place e = event_if (ended_by e.kind) End e.seat place ++ event_if (begun_by e.kind) Begin e.seat place

-- the events of the entries from a place on
abbrev pub trace_from : ℕ → List Entry → List TraceEvent
trace_from place [] = []
trace_from place (e ∷ rest) = events_at place e ++ trace_from (place + 1) rest

-- the trace of a log: the events of its entries, in order
unfoldable pub trace_of : List Entry → List TraceEvent
trace_of log = trace_from 0 log
