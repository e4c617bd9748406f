-- What was written to a sink.
use Rattle.std.specs.Prelude.{ℕ, Bool, true, false, if◌then◌else◌, List, ◌++◌, take, codes, Option}
use Rattle.task_base.specs.Plan.{Plan}
use Rattle.task_base.specs.declared.entry.Entry.{Entry}
use Rattle.env_io.specs.Bytes.{Gains}
use Rattle.log_model.specs.LogText.{log_json, log_text}
use Rattle.trace_json.specs.Trace as plain
use Rattle.trace_json.specs.Text as plain_text
use Rattle.full_trace.specs.Shown as full
use Rattle.full_trace.specs.Data as full_text

-- what a run writes of its log: its text, or its JSON form and a line feed
abbrev pub output_of : Bool → List Entry → List ℕ
output_of json log = if json then log_json log ++ codes "\n" else log_text log

-- what `trace` writes of a log of the script: its trace, or the full one
abbrev pub traced_text : Bool → Plan → List Entry → List ℕ
traced_text false script log = plain_text.trace_text (plain.trace_of log)
traced_text true script log = full_text.trace_text (full.trace_of script log)

-- the whole text was added to what the sink holds
abbrev pub WroteAll : Option (List ℕ) → Option (List ℕ) → List ℕ → Type 0
WroteAll before after text = Gains before text after

-- a front of the text was added to what the sink holds
abbrev pub WroteFront : Option (List ℕ) → Option (List ℕ) → List ℕ → Type 0
WroteFront before after text = (n : ℕ) × Gains before (take n text) after
