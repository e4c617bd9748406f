-- What `explain` says of a log (this project's own rule).
use Rattle.std.specs.Prelude.{◌≡◌, ◌⊎◌, ℕ, ◌-◌, Bool, true, false, List, [], ◌++◌, Option, Some, None}
use Rattle.task_base.specs.Plan.{Plan}
use Rattle.task_base.specs.declared.entry.Entry.{Entry}
use Rattle.script_model.specs.Grammar.{Reads}
use Rattle.log_model.specs.declared.version.Version.{Version}
use Rattle.log_model.specs.LogText.{lines_before, version_of}
use Rattle.log_mistakes.specs.declared.mistake.Mistake.{Mistake}
use Rattle.log_mistakes.specs.Mistakes.{mistake_at}
use Rattle.next_entry.specs.declared.cause.Explanation.{Explanation}
use Rattle.next_entry.specs.declared.cause.Explanation.TheVariants.{Legal, Barred, Unfinished, AtWork}
use Rattle.env_explain.specs.Explained.{IsExplained, NamesAllowed, RulesOut, SaysNothingOfTheEnd, verdict_told}
use Rattle.explain_text.specs.Json.{told_json}
use Rattle.explain_text.specs.Mistakes.{mistake_json, mistake_text}
use Rattle.explain_text.specs.Plain.{told_text}
use Rattle.context_text.specs.Json.{with_context}
use Rattle.context_text.specs.Plain.{with_lines}
use Rattle.log_context.specs.declared.fact.Fact.{Fact}
use Rattle.told_context.specs.Told.{IsContext}
use Rattle.app_streams.specs.Parts.{script_part, part_behind}
use Rattle.app_modes.specs.Judged.{IsBadText, IsTextOf, cut_text, line_in, verdict_on, verdict_status, verdict_text}

-- the place that an explanation is of, if the log is not a legal, whole one
abbrev pub place_told : Explanation → Option ℕ
place_told Legal = None
place_told (Barred place cause) = Some place
place_told (Unfinished place seat cause) = Some place
place_told (AtWork place busy) = Some place

-- what is said of a log that is found wrong at this line, or nowhere, in words or in JSON: why, and these facts
abbrev pub said_of : Bool → Option ℕ → List Entry → Explanation → List Fact → List ℕ
said_of json None log told facts = []
said_of false (Some line) log told facts = with_lines (told_text log told) facts
said_of true (Some line) log told facts = with_context (told_json line log told) facts

-- what is said of a line that is none of a log at its place, in a text of this version, by its mistake
abbrev pub said_of_bad : Bool → Version → ℕ → Mistake → List ℕ
said_of_bad false version line mistake = mistake_text line (line - 1 - lines_before version) mistake
said_of_bad true version line mistake = mistake_json line (line - 1 - lines_before version) mistake

-- an explanation of the verdict on a log, or on a beginning: the cause that it gives holds, the entry that it names is allowed, and
-- what it rules out is not; and nothing is said of what is left to be done at the end of a beginning
pub record IsExplanation (prefix : Bool) (script : Plan) (log : List Entry) (told : Explanation) : Type 0 where
  pub verdict : verdict_told told ≡ verdict_on prefix script log
  pub open_end : prefix ≡ true → SaysNothingOfTheEnd told
  pub holds : IsExplained script log told
  pub named : NamesAllowed script log told
  pub ruled_out : RulesOut script log told

-- the text is that of a log, or begins it where that will do, at this line the log is found to be no legal, whole one, or no legal one,
-- or nowhere, and an explanation of that is said, with what the log and the script have to do with it, or which line was left out
pub record IsSaidOfLog (json prefix : Bool) (script : Plan) (text : List ℕ) (line : Option ℕ) (said : List ℕ) : Type 0 where
  pub log : List Entry
  pub cut : Option ℕ
  pub of : IsTextOf prefix text log cut
  pub told : Explanation
  pub is : IsExplanation prefix script log told
  pub line_is : line ≡ line_in (version_of text) (verdict_on prefix script log)
  pub facts : List Fact
  pub context : IsContext script log told facts
  pub said_is : said ≡ said_of json line log told facts ++ cut_text json line cut

-- the text is that of no log, by this line, and the mistake of that line is said
pub record IsSaidOfBad (json prefix : Bool) (text : List ℕ) (line : Option ℕ) (said : List ℕ) : Type 0 where
  pub bad : ℕ
  pub is : IsBadText prefix text bad
  pub line_is : line ≡ Some bad
  pub said_is : said ≡ said_of_bad json (version_of text) bad (mistake_at text bad)

-- one of the two
abbrev pub IsSaidAt : Bool → Bool → Plan → List ℕ → Option ℕ → List ℕ → Type 0
IsSaidAt json prefix script text line said = IsSaidOfLog json prefix script text line said ⊎ IsSaidOfBad json prefix text line said

-- the input begins with a script, and this holds of the status of the line at which the log behind it is found wrong, and of
-- what `explain` writes: what `check` writes of that line, and what is said of it
pub record HasExplained (json prefix : Bool) (bytes : List ℕ) (Holds : ℕ → List ℕ → Type 0) : Type 0 where
  pub script : Plan
  pub line : Option ℕ
  pub said : List ℕ
  pub reads : Reads (script_part bytes) script
  pub found : IsSaidAt json prefix script (part_behind bytes) line said
  pub holds : Holds (verdict_status line) (verdict_text line ++ said)
