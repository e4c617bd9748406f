-- Events and traces as JSON data (the keys are those of the Trace Event Format; the names are this project's own).
use Rattle.std.specs.Prelude.{ℕ, List, [], ◌∷◌, ◌++◌, map, codes, decimal}
use Rattle.serde_json.specs.Data.{Data, Members, array, object, member, no_members}
use Rattle.serde_json.specs.View.{items_of}
use Rattle.serde_json.specs.Written.{compact_text}
use Rattle.task_base.specs.declared.entry.Kind.{Kind}
use Rattle.task_base.specs.declared.entry.Kind.TheVariants as kinds
use Rattle.full_trace.specs.declared.event.Event.{Event}
use Rattle.full_trace.specs.declared.event.What.{What}
use Rattle.full_trace.specs.declared.event.What.TheVariants.{Process, Seat, TaskBegins, MainBegins, TaskEnds, ItemBegins, ItemEnds, ScopeBegins, ScopeEnds}
use Rattle.full_trace.specs.declared.event.What.TheVariants.{Posts, MainPosts, FlowsFrom, FlowsTo, Happens, Work}
use Rattle.full_trace.specs.declared.event.Phase.{Phase}
use Rattle.full_trace.specs.declared.event.Phase.TheVariants.{Name, Begin, End, Count, Short, Mark, From, To}
use Rattle.full_trace.specs.Args.{of_number, of_word, args_data}

-- the name of a mark: the word of its entry in a log
abbrev pub mark_name : Kind → List ℕ
mark_name (kinds.Tick now) = codes "tick"
mark_name (kinds.Policy policy) = codes "policy"
mark_name (kinds.Reprio runner priority) = codes "reprio"
mark_name (kinds.Fence queue at) = codes "fence"
mark_name (kinds.Unfence queue) = codes "unfence"
mark_name (kinds.Vote queue voter on) = codes "vote"
mark_name (kinds.Rank queue class) = codes "rank"
mark_name (kinds.Close queue) = codes "close"
mark_name kinds.MainNone = codes "mainnone"
mark_name (kinds.JobPost job ok) = codes "startjob"
mark_name (kinds.JobCancel job) = codes "cancel"
mark_name (kinds.Cancelled job) = codes "cancelled"
mark_name (kinds.Joined job reply) = codes "joined"
mark_name kinds.Idle = codes "idle"
mark_name kinds.Shutdown = codes "shutdown"
mark_name kinds.Done = codes "done"
mark_name kind = codes "entry"

-- the name that a viewer shows
abbrev pub name_of : What → List ℕ
name_of Process = codes "process_name"
name_of Seat = codes "thread_name"
name_of (TaskBegins task runner priority behaviour found) = codes "task " ++ decimal task
name_of (MainBegins task queue found) = codes "task " ++ decimal task
name_of (TaskEnds task left) = codes "task " ++ decimal task
name_of (ItemBegins job item id priority behaviour) = (codes "job " ++ decimal job) ++ codes " item " ++ decimal item
name_of (ItemEnds job item value) = (codes "job " ++ decimal job) ++ codes " item " ++ decimal item
name_of (ScopeBegins scope) = codes "scope"
name_of ScopeEnds = codes "scope"
name_of (Posts task runner delay ok) = codes "post " ++ decimal task
name_of (MainPosts task queue delay ok) = codes "post " ++ decimal task
name_of (FlowsFrom task) = codes "post"
name_of (FlowsTo task) = codes "post"
name_of (Happens kind) = mark_name kind
name_of (Work running waiting) = codes "tasks of the pool"

-- how a viewer is to show it
abbrev pub phase_of : What → Phase
phase_of Process = Name
phase_of Seat = Name
phase_of (TaskBegins task runner priority behaviour found) = Begin
phase_of (MainBegins task queue found) = Begin
phase_of (TaskEnds task left) = End
phase_of (ItemBegins job item id priority behaviour) = Begin
phase_of (ItemEnds job item value) = End
phase_of (ScopeBegins scope) = Begin
phase_of ScopeEnds = End
phase_of (Posts task runner delay ok) = Short
phase_of (MainPosts task queue delay ok) = Short
phase_of (FlowsFrom task) = From task
phase_of (FlowsTo task) = To task
phase_of (Happens kind) = Mark
phase_of (Work running waiting) = Count

-- the letter of a phase
abbrev pub phase_letter : Phase → List ℕ
phase_letter Name = codes "M"
phase_letter Begin = codes "B"
phase_letter End = codes "E"
phase_letter Count = codes "C"
phase_letter Short = codes "X"
phase_letter Mark = codes "i"
phase_letter (From task) = codes "s"
phase_letter (To task) = codes "f"

-- what a phase asks for, before other members: a short span has no length, so it ends before the next place; a mark goes across all
-- seats; and a flow has a category and the number of its task, by which its ends belong together, and its end is bound to the span
-- that is open there
abbrev pub members_of : Phase → Members → Members
members_of Name rest = rest
members_of Begin rest = rest
members_of End rest = rest
members_of Count rest = rest
members_of Short rest = of_number (codes "dur") 0 rest
members_of Mark rest = of_word (codes "s") (codes "g") rest
members_of (From task) rest = of_word (codes "cat") (codes "post") (of_number (codes "id") task rest)
members_of (To task) rest = of_word (codes "cat") (codes "post") (of_number (codes "id") task (of_word (codes "bp") (codes "e") rest))

-- who did it, when, and the arguments: all events are of one process, the seat is the thread, and the place is the time
abbrev pub rest_of : Event → Members
rest_of e = of_number (codes "pid") 0 (of_number (codes "tid") e.seat (of_number (codes "ts") e.place
    (member (codes "args") (args_data e.seat e.what) no_members)))

-- an event
abbrev pub event_data : Event → Data
event_data e = object (of_word (codes "name") (name_of e.what) (of_word (codes "ph") (phase_letter (phase_of e.what))
    (members_of (phase_of e.what) (rest_of e))))

-- a trace: an object of one member, the array of the events
abbrev pub trace_data : List Event → Data
trace_data events = object (member (codes "traceEvents") (array (items_of (map event_data events))) no_members)

-- the text of a trace: that of its data in compact form (RFC 8259), and a line feed
unfoldable pub trace_text : List Event → List ℕ
trace_text events = compact_text (trace_data events) ++ 10 ∷ []
