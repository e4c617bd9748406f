-- The text of a trace: a compact JSON object (RFC 8259) and a line feed (the keys are those of the Trace Event Format).
use Rattle.std.specs.Prelude.{ℕ, List, [], ◌∷◌, ◌++◌, map, codes}
use Rattle.std.specs.Fmt.{decimal}
use Rattle.std.specs.List.{join_with_byte}
use Rattle.log_model.specs.LogText.{json_array}
use Rattle.trace_json.specs.declared.event.EventName.{EventName}
use Rattle.trace_json.specs.declared.event.EventName.TheVariants.{Task, Item}
use Rattle.trace_json.specs.declared.event.EventPhase.{EventPhase}
use Rattle.trace_json.specs.declared.event.EventPhase.TheVariants.{Begin, End}
use Rattle.trace_json.specs.declared.event.TraceEvent.{TraceEvent}

-- the name that a viewer shows (this project's own)
abbrev pub name_text : EventName → List ℕ
name_text (Task task) = codes "task " ++ decimal task
name_text (Item job item) = codes "job " ++ decimal job ++ codes " item " ++ decimal item

-- the letter of a phase (the Trace Event Format)
abbrev pub phase_letter : EventPhase → List ℕ
phase_letter Begin = codes "B"
phase_letter End = codes "E"

-- a string in JSON, of bytes that need no escape
abbrev pub json_string : List ℕ → List ℕ
json_string bytes = 34 ∷ bytes ++ 34 ∷ []

-- a member of a JSON object: its key, a colon, and its value
abbrev pub json_member : List ℕ → List ℕ → List ℕ
json_member key value = json_string key ++ 58 ∷ value

-- a JSON object in compact form, of members in JSON
abbrev pub json_object : List (List ℕ) → List ℕ
json_object members = 123 ∷ join_with_byte 44 members ++ 125 ∷ []

-- an event in JSON: all are of one process, the seat is the thread, and the place is the time
abbrev pub event_json : TraceEvent → List ℕ
event_json e = json_object (
    json_member (codes "name") (json_string (name_text e.name))
    ∷ json_member (codes "ph") (json_string (phase_letter e.phase))
    ∷ json_member (codes "pid") (decimal 0)
    ∷ json_member (codes "tid") (decimal e.seat)
    ∷ json_member (codes "ts") (decimal e.place)
    ∷ [])

-- the text of a trace: an object with the array of the events, and a line feed
unfoldable pub trace_text : List TraceEvent → List ℕ
trace_text events = json_object (json_member (codes "traceEvents") (json_array (map event_json events)) ∷ []) ++ 10 ∷ []
