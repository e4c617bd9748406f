-- What is written of a log that is right.
-- Cited by `trace`.
use Rattle.std.proofs.Common.{◌≡◌, ℕ, Bool, List, Option, None, inl, sym, ap}
use Rattle.task_base.specs.Plan.{Plan}
use Rattle.task_base.specs.declared.entry.Entry.{Entry}
use Rattle.script_model.specs.Grammar.{Reads}
use Rattle.log_model.specs.LogText.{version_of}
use Rattle.env_check.specs.declared.verdict.Verdict.TheVariants.{Legal}
use Rattle.app_streams.specs.Parts.{part_behind, script_part}
use Rattle.app_streams.specs.Written.{traced_text}
use Rattle.app_modes.specs.Judged.{HasTraced, IsTextOf, line_in, verdict_on}

-- its trace, or the full one
pub traced : (full prefix : Bool) (bytes : List ℕ) (script : Plan) (log : List Entry) (cut : Option ℕ) (Holds : ℕ → List ℕ → Type 0)
    → Reads (script_part bytes) script → IsTextOf prefix (part_behind bytes) log cut → verdict_on prefix script log ≡ Legal
    → Holds 0 (traced_text full script log) → HasTraced full prefix bytes Holds
traced full prefix bytes script log cut Holds reads of legal holds = record {
  line = None;
  found = record { script = script; cut = cut; reads = reads; found = inl (log, of, sym (ap (line_in (version_of (part_behind bytes))) legal)) };
  holds = (log, cut, of, holds);
}
