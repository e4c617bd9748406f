-- What the writer of JSON is sent for a trace, and that a trace has no float.
-- Cited by `TraceSerialize::serialize`, `full_text`.
use Rattle.std.proofs.Common.{◌≡◌, ℕ, suc, false, List, [], ◌∷◌, map, length, Some, refl, sym, ap, subst}
use Rattle.serde.specs.Event.{Log, Logs, seq_begins, seq_ends, WritesEach, WritesSeq}
use Rattle.serde_json.specs.Data.{Members, array}
use Rattle.serde_json.specs.View.{items_of}
use Rattle.serde_json.specs.Events.{SendsValue, SendsItems, items_len}
use Rattle.serde_json.specs.Written.{has_float, members_have_float, items_have_float}
use Rattle.task_base.specs.declared.entry.Kind.{Kind}
use Rattle.task_base.specs.declared.entry.Kind.TheVariants as kinds
use Rattle.task_base.specs.declared.entry.JobReply.TheVariants as replies
use Rattle.full_trace.specs.declared.event.Event.{Event}
use Rattle.full_trace.specs.declared.event.What.{What}
use Rattle.full_trace.specs.declared.event.What.TheVariants as whats
use Rattle.full_trace.specs.declared.event.Phase.{Phase}
use Rattle.full_trace.specs.declared.event.Phase.TheVariants as phases
use Rattle.full_trace.specs.Args.{args_data, mark_data}
use Rattle.full_trace.specs.Data.{event_data, members_of, phase_of, rest_of, trace_data}

-- ---- events that are sent as a list are sent as an array

items_len-events : (events : List Event) → items_len (items_of (map event_data events)) ≡ length events
items_len-events [] = refl
items_len-events (e ∷ events) = ap suc (items_len-events events)

each_sent : (events : List Event) (old last new : Log) → WritesEach (λ e. SendsValue (event_data e)) events old last → Logs last new seq_ends
    → SendsItems (items_of (map event_data events)) old new
each_sent [] old last new sent ended = subst (λ log. Logs log new seq_ends) sent ended
each_sent (e ∷ events) old last new sent ended = (sent.0, sent.1, each_sent events sent.0 last new sent.2 ended)

pub events_sent : (events : List Event) (old new : Log) → WritesSeq (λ e. SendsValue (event_data e)) events old new
    → SendsValue (array (items_of (map event_data events))) old new
events_sent events old new sent =
    (sent.0, subst (λ n. Logs old sent.0 (seq_begins (Some n))) (sym (items_len-events events)) sent.2, each_sent events sent.0 sent.1 new sent.3 sent.4)

-- ---- no event has a float

mark_has_none : (kind : Kind) → has_float (mark_data kind) ≡ false
mark_has_none (kinds.Post task runner delay ok) = refl
mark_has_none (kinds.Main task queue delay ok) = refl
mark_has_none (kinds.Tick now) = refl
mark_has_none (kinds.Take task runner found) = refl
mark_has_none (kinds.End task left) = refl
mark_has_none (kinds.Enter task scope) = refl
mark_has_none (kinds.Leave task) = refl
mark_has_none (kinds.Policy policy) = refl
mark_has_none (kinds.Reprio runner priority) = refl
mark_has_none (kinds.Fence queue at) = refl
mark_has_none (kinds.Unfence queue) = refl
mark_has_none (kinds.Vote queue voter on) = refl
mark_has_none (kinds.Rank queue class) = refl
mark_has_none (kinds.Close queue) = refl
mark_has_none (kinds.MainTake task queue found) = refl
mark_has_none (kinds.MainEnd task left) = refl
mark_has_none kinds.MainNone = refl
mark_has_none (kinds.JobPost job ok) = refl
mark_has_none (kinds.JobTake job id item) = refl
mark_has_none (kinds.JobStep job id item value next) = refl
mark_has_none (kinds.JobCancel job) = refl
mark_has_none (kinds.Cancelled job) = refl
mark_has_none kinds.Idle = refl
mark_has_none kinds.Shutdown = refl
mark_has_none kinds.Done = refl
mark_has_none (kinds.Joined job replies.Refused) = refl
mark_has_none (kinds.Joined job (replies.Finished sum)) = refl
mark_has_none (kinds.Joined job replies.Cancelled) = refl
mark_has_none (kinds.Joined job replies.Stopped) = refl

args_have_none : (seat : ℕ) (what : What) → has_float (args_data seat what) ≡ false
args_have_none seat whats.Process = refl
args_have_none seat whats.Seat = refl
args_have_none seat (whats.TaskBegins task runner priority behaviour found) = refl
args_have_none seat (whats.MainBegins task queue found) = refl
args_have_none seat (whats.TaskEnds task left) = refl
args_have_none seat (whats.ItemBegins job item id priority behaviour) = refl
args_have_none seat (whats.ItemEnds job item value) = refl
args_have_none seat (whats.ScopeBegins scope) = refl
args_have_none seat whats.ScopeEnds = refl
args_have_none seat (whats.Posts task runner delay ok) = refl
args_have_none seat (whats.MainPosts task queue delay ok) = refl
args_have_none seat (whats.FlowsFrom task) = refl
args_have_none seat (whats.FlowsTo task) = refl
args_have_none seat (whats.Work running waiting) = refl
args_have_none seat (whats.Happens kind) = mark_has_none kind

phase_has_none : (phase : Phase) (rest : Members) → members_have_float rest ≡ false → members_have_float (members_of phase rest) ≡ false
phase_has_none phases.Name rest none = none
phase_has_none phases.Begin rest none = none
phase_has_none phases.End rest none = none
phase_has_none phases.Count rest none = none
phase_has_none phases.Short rest none = none
phase_has_none phases.Mark rest none = none
phase_has_none (phases.From task) rest none = none
phase_has_none (phases.To task) rest none = none

event_has_none : (e : Event) → has_float (event_data e) ≡ false
event_has_none e = phase_has_none (phase_of e.what) (rest_of e) (rw (args_have_none e.seat e.what) refl)

events_have_none : (events : List Event) → items_have_float (items_of (map event_data events)) ≡ false
events_have_none [] = refl
events_have_none (e ∷ events) = rw (event_has_none e, events_have_none events) refl

pub trace_has_no_float : (events : List Event) → has_float (trace_data events) ≡ false
trace_has_no_float events = rw (events_have_none events) refl
