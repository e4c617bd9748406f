-- What is written of a log of an open plan that is right.
-- Cited by `trace_open`.
use Rattle.std.proofs.Common.{◌≡◌, ℕ, Bool, List, Option, None, inl, sym, ap}
use Rattle.task_base.specs.Plan.{Plan}
use Rattle.task_base.specs.declared.entry.Entry.{Entry}
use Rattle.script_model.specs.Grammar.{Reads}
use Rattle.log_model.specs.LogText.{version_of}
use Rattle.env_check.specs.declared.verdict.Verdict.TheVariants.{Legal}
use Rattle.open_check.specs.Plans.{plan_fault}
use Rattle.app_streams.specs.Parts.{part_behind, script_part}
use Rattle.app_streams.specs.Written.{traced_text}
use Rattle.app_modes.specs.Judged.{IsTextOf, line_in}
use Rattle.app_modes.specs.Opened.{HasTracedOpen, open_verdict_on}

-- its trace, or the full one
pub traced_open : (full prefix : Bool) (bytes : List ℕ) (script : Plan) (log : List Entry) (cut : Option ℕ) (Holds : ℕ → List ℕ → Type 0)
    → Reads (script_part bytes) script → plan_fault script (script_part bytes) ≡ None → IsTextOf prefix (part_behind bytes) log cut
    → open_verdict_on prefix script log ≡ Legal → Holds 0 (traced_text full script log) → HasTracedOpen full prefix bytes Holds
traced_open full prefix bytes script log cut Holds reads plan of legal holds = record {
  line = None;
  found = record { script = script; cut = cut; reads = reads; plan = plan; found = inl (log, of, sym (ap (line_in (version_of (part_behind bytes))) legal)) };
  holds = (log, cut, of, holds);
}
