-- Events and traces as JSON data, as they are handed to the writer of JSON.
use Rattle.std.specs.Prelude.{List, map, codes}
use Rattle.serde_json.specs.Data.{Data, string, number, unsigned, array, object, member, no_members}
use Rattle.serde_json.specs.View.{items_of}
use Rattle.trace_json.specs.declared.event.TraceEvent.{TraceEvent}
use Rattle.trace_json.specs.Text.{name_text, phase_letter}

-- an event: an object of five members
abbrev pub event_data : TraceEvent → Data
event_data e = object
    (member (codes "name") (string (name_text e.name))
    (member (codes "ph") (string (phase_letter e.phase))
    (member (codes "pid") (number (unsigned 0))
    (member (codes "tid") (number (unsigned e.seat))
    (member (codes "ts") (number (unsigned e.place)) no_members)))))

-- a trace: an object of one member, the array of the events
abbrev pub trace_data : List TraceEvent → Data
trace_data events = object (member (codes "traceEvents") (array (items_of (map event_data events))) no_members)
