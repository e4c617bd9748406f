-- The text of a trace's data is the text of the trace.
-- Cited by `TraceSerialize::serialize`, `trace_text`.
use Rattle.std.proofs.Common.{◌≡◌, ◌==◌, ◌<◌, ◌%◌, ◌/◌, ℕ, zero, suc, true, false, if◌then◌else◌, List, [], ◌∷◌}
use Rattle.std.proofs.Common.{◌++◌, map, length, Some, refl, sym, ap, ◌∙◌, subst, append_assoc, arith}
use Rattle.std.specs.Prelude.{codes}
use Rattle.std.specs.Fmt.{decimal, digits, digits_onto, digit_glyph}
use Rattle.std.specs.List.{join_with_byte}
use Rattle.std.proofs.lemmas.Grind.{flat_map-append}
use Rattle.json.specs.Print.{escape_byte, escape, quoted}
use Rattle.json.proofs.Printed.Strings.{escape_byte_plain}
use Rattle.serde.specs.Event.{Log, Logs, seq_begins, seq_ends, WritesEach, WritesSeq}
use Rattle.serde_json.specs.Data.{Data, string, number, unsigned, array, object, Members, member, no_members}
use Rattle.serde_json.specs.View.{items_of}
use Rattle.serde_json.specs.Events.{SendsValue, SendsItems, items_len}
use Rattle.serde_json.specs.Written.{compact_text, members_text, has_float}
use Rattle.log_model.specs.LogText.{json_array}
use Rattle.run_log.proofs.JsonTexts.{array_text}
use Rattle.trace_json.specs.declared.event.EventName.{EventName}
use Rattle.trace_json.specs.declared.event.EventName.TheVariants.{Task, Item}
use Rattle.trace_json.specs.declared.event.EventPhase.{EventPhase}
use Rattle.trace_json.specs.declared.event.EventPhase.TheVariants.{Begin, End}
use Rattle.trace_json.specs.declared.event.TraceEvent.{TraceEvent}
use Rattle.trace_json.specs.Text.{name_text, phase_letter, json_member, json_object, event_json, trace_text}
use Rattle.trace_json.specs.Data.{event_data, trace_data}

-- ---- names need no escape

-- the byte of a digit stands for itself
digit_plain : (d : ℕ) → d < 10 → escape_byte (digit_glyph false d) ≡ digit_glyph false d ∷ []
digit_plain d low = escape_byte_plain (digit_glyph false d) (λ e. grind (arith, e)) (λ e. grind (arith, e)) (grind arith)

-- digits before bytes that stand for themselves
digits_onto_plain : (k n : ℕ) (rest : List ℕ) → escape rest ≡ rest → escape (digits_onto k 10 false n rest) ≡ digits_onto k 10 false n rest
digits_onto_plain zero n rest h = h
digits_onto_plain (suc k) n rest h =
    let digit = digit_glyph false (n % 10) in
    let longer = digits_onto k 10 false (n / 10) (digit ∷ rest) in
    let more : escape (digit ∷ rest) ≡ digit ∷ rest = rw (digit_plain (n % 10) (omega arith), h) refl in
    elim (n / 10 == 0) as (λ last. escape (if last then digit ∷ rest else longer) ≡ (if last then digit ∷ rest else longer)) [
      | true ↦ more
      | false ↦ digits_onto_plain k (n / 10) (digit ∷ rest) more
    ]

decimal_plain : (n : ℕ) → escape (decimal n) ≡ decimal n
unfolding digits
decimal_plain n = digits_onto_plain 64 n [] refl

-- what stands for itself does so behind what does
plain_append : (xs ys : List ℕ) → escape xs ≡ xs → escape ys ≡ ys → escape (xs ++ ys) ≡ xs ++ ys
plain_append xs ys p q = rw (flat_map-append escape_byte xs ys, p, q) refl

name_plain : (name : EventName) → escape (name_text name) ≡ name_text name
unfolding escape_byte
name_plain (Task task) = plain_append (codes "task ") (decimal task) refl (decimal_plain task)
name_plain (Item job item) =
    plain_append (codes "job " ++ decimal job ++ codes " item ") (decimal item)
    (plain_append (codes "job " ++ decimal job) (codes " item ") (plain_append (codes "job ") (decimal job) refl (decimal_plain job)) refl)
    (decimal_plain item)

letter_plain : (phase : EventPhase) → escape (phase_letter phase) ≡ phase_letter phase
unfolding escape_byte
letter_plain Begin = refl
letter_plain End = refl

-- ---- arrays and objects

-- the members of an object, by key and value
members : List (List ℕ × Data) → Members
members [] = no_members
members (m ∷ ms) = member m.0 m.1 (members ms)

-- a member in JSON
abbrev member_text : List ℕ × Data → List ℕ
member_text m = quoted m.0 ++ 58 ∷ compact_text m.1

-- the members of an object behind its first one, with the brace that closes it
members_joined : (m : List ℕ × Data) (ms : List (List ℕ × Data)) → quoted m.0 ++ 58 ∷ (compact_text m.1 ++ members_text true (members ms))
    ≡ join_with_byte 44 (member_text m ∷ map member_text ms) ++ 125 ∷ []
unfolding members
members_joined m [] = sym (append_assoc (quoted m.0) (58 ∷ compact_text m.1) (125 ∷ []))
members_joined m (n ∷ ms) =
    let later = join_with_byte 44 (member_text n ∷ map member_text ms) in
    ap (λ text. quoted m.0 ++ 58 ∷ (compact_text m.1 ++ 44 ∷ text)) (members_joined n ms)
    ∙ sym (append_assoc (quoted m.0) (58 ∷ compact_text m.1) (44 ∷ (later ++ 125 ∷ [])))
    ∙ sym (append_assoc (member_text m) (44 ∷ later) (125 ∷ []))

-- an object is its members in braces, parted by commas
object_text : (ms : List (List ℕ × Data)) → compact_text (object (members ms)) ≡ json_object (map member_text ms)
unfolding members
object_text [] = refl
object_text (m ∷ ms) = ap (λ text. 123 ∷ text) (members_joined m ms)

-- ---- the text

event_text : (e : TraceEvent) → compact_text (event_data e) ≡ event_json e
unfolding escape_byte members
event_text e = object_text (
    (codes "name", string (name_text e.name))
    ∷ (codes "ph", string (phase_letter e.phase))
    ∷ (codes "pid", number (unsigned 0))
    ∷ (codes "tid", number (unsigned e.seat))
    ∷ (codes "ts", number (unsigned e.place))
    ∷ []) ∙ rw (name_plain e.name, letter_plain e.phase) refl

event_texts : (events : List TraceEvent) → map compact_text (map event_data events) ≡ map event_json events
event_texts [] = refl
event_texts (e ∷ events) = ap (λ text. text ∷ map compact_text (map event_data events)) (event_text e) ∙ ap (λ texts. event_json e ∷ texts) (event_texts events)

-- the text of a trace's data, and a line feed
pub trace_text_is : (events : List TraceEvent) → compact_text (trace_data events) ++ 10 ∷ [] ≡ trace_text events
unfolding trace_text escape_byte members
trace_text_is events =
    ap (λ text. text ++ 10 ∷ []) (object_text ((codes "traceEvents", array (items_of (map event_data events))) ∷ []))
    ∙ ap (λ text. json_object (json_member (codes "traceEvents") text ∷ []) ++ 10 ∷ [])
    (array_text (map event_data events) ∙ ap json_array (event_texts events))

-- no event is a float, so no trace has one
pub trace_has_no_float : (events : List TraceEvent) → has_float (trace_data events) ≡ false
trace_has_no_float [] = refl
trace_has_no_float (e ∷ events) = trace_has_no_float events

-- ---- what the writer of JSON is sent

-- an array has as many items as there are events
items_len-events : (events : List TraceEvent) → items_len (items_of (map event_data events)) ≡ length events
items_len-events [] = refl
items_len-events (e ∷ events) = ap suc (items_len-events events)

-- events that are sent one after the other, and the end of an array, are the items of the array
each_sent : (events : List TraceEvent) (old last new : Log) → WritesEach (λ e. SendsValue (event_data e)) events old last → Logs last new seq_ends
    → SendsItems (items_of (map event_data events)) old new
each_sent [] old last new sent ended = subst (λ log. Logs log new seq_ends) sent ended
each_sent (e ∷ events) old last new sent ended = (sent.0, sent.1, each_sent events sent.0 last new sent.2 ended)

-- events that are sent as a list are sent as an array
pub events_sent : (events : List TraceEvent) (old new : Log) → WritesSeq (λ e. SendsValue (event_data e)) events old new
    → SendsValue (array (items_of (map event_data events))) old new
events_sent events old new sent =
    (sent.0, subst (λ n. Logs old sent.0 (seq_begins (Some n))) (sym (items_len-events events)) sent.2, each_sent events sent.0 sent.1 new sent.3 sent.4)
