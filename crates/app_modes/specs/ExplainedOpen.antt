-- What `explain --open` says of a log of an open plan (this project's own rule).
use Rattle.std.specs.Prelude.{◌≡◌, ◌⊎◌, ℕ, Bool, true, false, List, [], ◌++◌, Option, Some, None}
use Rattle.task_base.specs.Plan.{Plan, opened}
use Rattle.task_base.specs.declared.entry.Entry.{Entry}
use Rattle.script_model.specs.Grammar.{Reads}
use Rattle.log_model.specs.LogText.{version_of}
use Rattle.next_entry.specs.declared.open_cause.OpenTold.{OpenTold}
use Rattle.next_entry.specs.declared.open_cause.OpenTold.TheVariants.{Legal, Barred, AtWork}
use Rattle.open_check.specs.Plans.{plan_fault}
use Rattle.open_explain.specs.Told.{IsTold, NamesAllowed, RulesOut, SaysNothingOfTheEnd, verdict_told}
use Rattle.explain_text.specs.OpenJson.{open_json}
use Rattle.explain_text.specs.OpenPlain.{open_text}
use Rattle.context_text.specs.Json.{with_context}
use Rattle.context_text.specs.Plain.{with_lines}
use Rattle.log_context.specs.declared.fact.Fact.{Fact}
use Rattle.told_context.specs.Open.{open_facts_of}
use Rattle.app_streams.specs.Parts.{script_part, part_behind}
use Rattle.app_modes.specs.Explained.{IsSaidOfBad}
use Rattle.app_modes.specs.Judged.{IsTextOf, cut_text, line_in, verdict_status, verdict_text}
use Rattle.app_modes.specs.Opened.{open_verdict_on}

-- the place at which something is told of a log, if it is not a legal one at whose end nobody is at work
abbrev pub open_place_told : OpenTold → Option ℕ
open_place_told Legal = None
open_place_told (Barred place cause) = Some place
open_place_told (AtWork place busy) = Some place

-- what is said of a log that is found wrong at this line, or nowhere, in words or in JSON: why, and these facts
abbrev pub open_said_of : Bool → Option ℕ → List Entry → OpenTold → List Fact → List ℕ
open_said_of json None log told facts = []
open_said_of false (Some line) log told facts = with_lines (open_text log told) facts
open_said_of true (Some line) log told facts = with_context (open_json line log told) facts

-- what is told of the verdict on a log, or on a beginning: the cause that it gives holds, the entry that it names is allowed, and what it
-- rules out is not; and nothing is told of the end of a beginning
pub record IsToldOn (prefix : Bool) (script : Plan) (log : List Entry) (told : OpenTold) : Type 0 where
  pub verdict : verdict_told told ≡ open_verdict_on prefix script log
  pub open_end : prefix ≡ true → SaysNothingOfTheEnd told
  pub holds : IsTold (opened script) log told
  pub named : NamesAllowed (opened script) log told
  pub ruled_out : RulesOut (opened script) log told

-- the text is that of a log, or begins it where that will do, at this line the log is found to be none that is legal, and at whose end
-- nobody is at work, or nowhere, and that is told, with what the log and the script have to do with it, or which line was left out
pub record IsSaidOfOpen (json prefix : Bool) (script : Plan) (text : List ℕ) (line : Option ℕ) (said : List ℕ) : Type 0 where
  pub log : List Entry
  pub cut : Option ℕ
  pub of : IsTextOf prefix text log cut
  pub told : OpenTold
  pub is : IsToldOn prefix script log told
  pub line_is : line ≡ line_in (version_of text) (open_verdict_on prefix script log)
  pub said_is : said ≡ open_said_of json line log told (open_facts_of script log told) ++ cut_text json line cut

-- one of the two: so it is, or the text is that of no log, and the mistake of its first bad line is said
abbrev pub IsSaidOpenAt : Bool → Bool → Plan → List ℕ → Option ℕ → List ℕ → Type 0
IsSaidOpenAt json prefix script text line said = IsSaidOfOpen json prefix script text line said ⊎ IsSaidOfBad json prefix text line said

-- the input begins with the script of an open plan, and this holds of the status of the line at which the log after it is found wrong,
-- and of what `explain --open` writes: what `check --open` writes of that line, and what is said of it
pub record HasExplainedOpen (json prefix : Bool) (bytes : List ℕ) (Holds : ℕ → List ℕ → Type 0) : Type 0 where
  pub script : Plan
  pub line : Option ℕ
  pub said : List ℕ
  pub reads : Reads (script_part bytes) script
  pub plan : plan_fault script (script_part bytes) ≡ None
  pub found : IsSaidOpenAt json prefix script (part_behind bytes) line said
  pub holds : Holds (verdict_status line) (verdict_text line ++ said)
