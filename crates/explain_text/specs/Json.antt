-- The same as one compact JSON object (this project's own form; RFC 8259).
use Rattle.std.specs.Prelude.{ℕ, if◌then◌else◌, List, [], ◌∷◌, ◌++◌, flat_map, slice_get, codes, Option, Some, None}
use Rattle.task_base.specs.declared.entry.Entry.{Entry}
use Rattle.task_base.specs.declared.entry.Kind.{Kind}
use Rattle.task_base.specs.Entries.{entry_by}
use Rattle.log_model.specs.LogText.{json_of}
use Rattle.next_entry.specs.Causes.{named_by}
use Rattle.next_entry.specs.declared.cause.Bar.{Bar}
use Rattle.next_entry.specs.declared.cause.Bar.TheVariants as bars
use Rattle.next_entry.specs.declared.cause.Busy.{Busy}
use Rattle.next_entry.specs.declared.cause.Cause.{Cause}
use Rattle.next_entry.specs.declared.cause.Cause.TheVariants as causes
use Rattle.next_entry.specs.declared.cause.Edge.{Edge}
use Rattle.next_entry.specs.declared.cause.Edge.TheVariants as edges
use Rattle.next_entry.specs.declared.cause.Explanation.{Explanation}
use Rattle.next_entry.specs.declared.cause.Explanation.TheVariants as explanations
use Rattle.next_entry.specs.declared.cause.Work.{Work}
use Rattle.next_entry.specs.declared.cause.Work.TheVariants as works
use Rattle.explain_text.specs.Plain.{around, seat_of}

-- the word of a cause
abbrev pub cause_name : Cause → List ℕ
cause_name causes.NoSeat = codes "no_seat"
cause_name causes.OnlyDriver = codes "only_driver"
cause_name causes.RunsNothing = codes "runs_nothing"
cause_name (causes.Runs task next) = codes "runs"
cause_name (causes.Holds job next) = codes "holds"
cause_name (causes.Wants next) = codes "wants"
cause_name (causes.Best next edge) = codes "best"
cause_name (causes.NoSource bar) = codes "no_source"
cause_name causes.Finished = codes "finished"
cause_name (causes.NotIdle running ready) = codes "not_idle"
cause_name (causes.Inside job seats) = codes "inside"
cause_name (causes.Blocked count) = codes "blocked"

-- what the best source has over another, as a key
abbrev pub edge_key : Edge → List ℕ
edge_key edges.Same = codes ",\"by\":\"same\""
edge_key edges.Priority = codes ",\"by\":\"priority\""
edge_key edges.Inside = codes ",\"by\":\"inside\""
edge_key edges.Key = codes ",\"by\":\"key\""
edge_key edges.Barred = codes ",\"by\":\"barred\""
edge_key edges.Unready = codes ",\"by\":\"unready\""

-- what is against the take of the source that an entry takes, as a key
abbrev pub bar_key : Bar → List ℕ
bar_key bars.Unaccepted = codes ",\"why\":\"unaccepted\""
bar_key bars.Taken = codes ",\"why\":\"taken\""
bar_key bars.Cancelled = codes ",\"why\":\"cancelled\""
bar_key bars.Forbidden = codes ",\"why\":\"forbidden\""
bar_key bars.Unripe = codes ",\"why\":\"unripe\""
bar_key bars.Busy = codes ",\"why\":\"busy\""
bar_key bars.Claimed = codes ",\"why\":\"claimed\""
bar_key bars.Full = codes ",\"why\":\"full\""
bar_key bars.OtherSeat = codes ",\"why\":\"other_seat\""
bar_key bars.Held = codes ",\"why\":\"held\""
bar_key bars.Limit = codes ",\"why\":\"limit\""

-- what a cause names beside its seat and its entry
abbrev pub cause_keys : Cause → List ℕ
cause_keys (causes.Runs task next) = around (codes ",\"task\":") task []
cause_keys (causes.Holds job next) = around (codes ",\"job\":") job []
cause_keys (causes.Best next edge) = edge_key edge
cause_keys (causes.NoSource bar) = bar_key bar
cause_keys (causes.NotIdle running ready) =
    around (codes ",\"running\":") running (if ready then codes ",\"ready\":true" else codes ",\"ready\":false")
cause_keys (causes.Inside job seats) = around (codes ",\"job\":") job (around (codes ",\"seats\":") seats [])
cause_keys (causes.Blocked count) = around (codes ",\"count\":") count []
cause_keys cause = []

-- an entry at its place
abbrev pub entry_key : ℕ → Entry → List ℕ
entry_key place e = codes ",\"entry\":" ++ json_of place e

-- the entry that would be allowed there, if one is named
abbrev pub named_key : ℕ → ℕ → Option Kind → List ℕ
named_key place seat None = []
named_key place seat (Some next) = entry_key place (entry_by seat next)

-- the line, the word of the cause, and what goes on behind them
abbrev pub object_of : ℕ → List ℕ → List ℕ → List ℕ
object_of line name rest = around (codes "{\"line\":") line (codes ",\"cause\":\"" ++ name ++ codes "\"" ++ rest ++ codes "}\n")

-- the object of a cause that holds of a seat at a place
abbrev pub cause_object : ℕ → ℕ → ℕ → Cause → List ℕ → List ℕ
cause_object line place seat cause rest =
    object_of line (cause_name cause) (around (codes ",\"seat\":") seat (cause_keys cause ++ named_key place seat (named_by cause) ++ rest))

-- what a seat runs or holds, as a key
abbrev pub work_key : Work → List ℕ
work_key (works.Task task) = around (codes ",\"task\":") task (codes "}")
work_key (works.Item job) = around (codes ",\"job\":") job (codes "}")

-- a seat, and what it runs or holds, as an object
abbrev pub busy_object : Busy → List ℕ
busy_object busy = around (codes "{\"seat\":") busy.seat (work_key busy.work)

-- the same behind others
abbrev pub next_object : Busy → List ℕ
next_object busy = codes "," ++ busy_object busy

-- the same of several seats
abbrev pub busy_objects : List Busy → List ℕ
busy_objects [] = []
busy_objects (busy ∷ others) = busy_object busy ++ flat_map next_object others

-- the object that names the seats that run or hold something
abbrev pub at_work_object : ℕ → List Busy → List ℕ
at_work_object line busy = object_of line (codes "at_work") (codes ",\"seats\":[" ++ busy_objects busy ++ codes "],\"unfinished\":true")

-- what is said of a log that is wrong at this line; of a legal one nothing
abbrev pub told_json : ℕ → List Entry → Explanation → List ℕ
told_json line log explanations.Legal = []
told_json line log (explanations.Barred place cause) = cause_object line place (seat_of (slice_get log place)) cause []
told_json line log (explanations.Unfinished place seat cause) = cause_object line place seat cause (codes ",\"unfinished\":true")
told_json line log (explanations.AtWork place busy) = at_work_object line busy.items
