-- What the trace of every legal log is like.
use Rattle.std.specs.Prelude.{◌≡◌, ℕ, ◌<◌, ◌==◌, List, [], ◌∷◌, filter, Some, slice_get}
use Rattle.task_base.specs.Plan.{Plan}
use Rattle.task_base.specs.Runners.{sequence_of}
use Rattle.task_base.specs.declared.entry.Entry.{Entry}
use Rattle.task_base.specs.declared.entry.Kind.TheVariants as kinds
use Rattle.hist_model.specs.Laws.Places.{IsAt}
use Rattle.trace_json.specs.declared.event.EventName.TheVariants.{Task}
use Rattle.trace_json.specs.declared.event.EventPhase.TheVariants.{Begin, End}
use Rattle.trace_json.specs.declared.event.TraceEvent.{TraceEvent}
use Rattle.trace_json.specs.Trace.{trace_of}

-- the events of a seat
abbrev pub events_of : ℕ → List TraceEvent → List TraceEvent
events_of seat events = filter (λ e. e.seat == seat) events

-- the first event begins a span, and the second one ends it
pub record IsSpan (begin end : TraceEvent) : Type 0 where
  pub begins : begin.phase ≡ Begin
  pub ends : end.phase ≡ End
  pub same_name : end.name ≡ begin.name

-- the events are spans, one behind the other
abbrev pub AreSpans : List TraceEvent → Type 0
AreSpans [] = Unit {0}
AreSpans (begin ∷ []) = ⊥
AreSpans (begin ∷ end ∷ rest) = IsSpan begin end × AreSpans rest

-- the events are spans, one behind the other, of which the last one may be open still
abbrev pub AreSpansToNow : List TraceEvent → Type 0
AreSpansToNow [] = Unit {0}
AreSpansToNow (begin ∷ []) = begin.phase ≡ Begin
AreSpansToNow (begin ∷ end ∷ rest) = IsSpan begin end × AreSpansToNow rest

-- at this index of the trace a task of the pool begins, which is of this sequence
pub record BeginsOf (script : Plan) (log : List Entry) (s index : ℕ) (begin : TraceEvent) : Type 0 where
  pub is : slice_get (trace_of log) index ≡ Some begin
  pub begins : begin.phase ≡ Begin
  pub task : ℕ
  pub runner : ℕ
  pub found : ℕ
  pub takes : IsAt log begin.place begin.seat (kinds.Take task runner found)
  pub name_is : begin.name ≡ Task task
  pub of_sequence : sequence_of script runner task ≡ s

-- at this index of the trace the span ends, at its seat and under its name
pub record EndsSpan (log : List Entry) (index : ℕ) (begin : TraceEvent) : Type 0 where
  pub end : TraceEvent
  pub is : slice_get (trace_of log) index ≡ Some end
  pub ends : IsSpan begin end
  pub same_seat : end.seat ≡ begin.seat

-- between these two indices of the trace the span ends
pub record SpanEndsBetween (log : List Entry) (from to : ℕ) (begin : TraceEvent) : Type 0 where
  pub index : ℕ
  pub after : from < index
  pub before : index < to
  pub is : EndsSpan log index begin

-- the spans of the tasks of a sequence show one at a time
pub record SequencesShowSingly (script : Plan) (log : List Entry) : Type 0 where
  -- where a task of a sequence begins, the span of one that began before has ended
  pub ended_before : (s i j : ℕ) (a b : TraceEvent) → i < j → BeginsOf script log s i a → BeginsOf script log s j b → SpanEndsBetween log i j a
  -- so between the two ends of a span no other task of the sequence begins
  pub none_between : (s i j k : ℕ) (a b : TraceEvent) → i < j → j < k → BeginsOf script log s i a → BeginsOf script log s j b → EndsSpan log k a → ⊥
