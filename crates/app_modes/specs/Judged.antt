-- What `check` and `trace` say of a log (this project's own rule).
use Rattle.std.specs.Prelude.{◌≡◌, ◌⊎◌, ℕ, ◌+◌, Bool, true, false, List, [], ◌++◌, All, codes, decimal, Option, Some, None}
use Rattle.task_base.specs.Plan.{Plan}
use Rattle.task_base.specs.declared.entry.Entry.{Entry}
use Rattle.script_model.specs.Grammar.{Reads}
use Rattle.log_model.specs.Fits.{Fits}
use Rattle.log_model.specs.declared.version.Version.{Version}
use Rattle.log_model.specs.LogText.{lines_before, text_in, version_of}
use Rattle.hist_model.specs.Legal.{IsLegal}
use Rattle.hist_model.specs.Script.{IsWhole}
use Rattle.run_log.specs.Beginnings.{IsBeginningOf}
use Rattle.run_log.specs.TextLines.{IsBadLine}
use Rattle.env_check.specs.declared.verdict.Verdict.{Verdict}
use Rattle.env_check.specs.declared.verdict.Verdict.TheVariants.{Legal, Illegal}
use Rattle.env_check.specs.Verdicts.{prefix_verdict_of, verdict_of}
use Rattle.app_modes.specs.declared.judged.Judged.{Judged}
use Rattle.app_modes.specs.declared.judged.Judged.TheVariants.{Right, Wrong}
use Rattle.app_modes.specs.declared.judged.Taken.{Taken}
use Rattle.app_modes.specs.declared.judged.Taken.TheVariants.{Log, Bad}
use Rattle.app_streams.specs.Parts.{script_part, part_behind}
use Rattle.app_streams.specs.Written.{traced_text}

-- the text is that of this log, in one of the two versions; or where a beginning will do, it begins that of the log, and this line of
-- it was left out, which is cut off, if there is one
abbrev pub IsTextFor : Bool → List ℕ → List Entry → Option ℕ → Type 0
IsTextFor false text log cut = (version : Version) × (text_in version log ≡ text) × (cut ≡ None)
IsTextFor true text log cut = IsBeginningOf text log cut

-- the same of a log whose numbers fit
pub record IsTextOf (prefix : Bool) (text : List ℕ) (log : List Entry) (cut : Option ℕ) : Type 0 where
  pub fits : All Fits log
  pub is : IsTextFor prefix text log cut

-- the text is that of no log, nor the beginning of one where that will do, by this line, the first that is wrong
pub record IsBadText (prefix : Bool) (text : List ℕ) (line : ℕ) : Type 0 where
  pub is : IsBadLine text line
  pub none : (log : List Entry) (cut : Option ℕ) → ¬ IsTextOf prefix text log cut

-- the input is this script, and behind it the text of this log, which is legal and whole for the script; or where a prefix of a
-- whole log is asked for, its beginning will do, and legal alone
pub record IsLegalLog (prefix : Bool) (bytes : List ℕ) (script : Plan) (log : List Entry) : Type 0 where
  pub reads : Reads (script_part bytes) script
  pub cut : Option ℕ
  pub text : IsTextFor prefix (part_behind bytes) log cut
  pub legal : IsLegal script log
  pub whole : prefix ≡ false → IsWhole script log

-- the input is a script, and behind it the text of such a log, whose numbers fit
pub record HasLegalLog (prefix : Bool) (bytes : List ℕ) : Type 0 where
  pub script : Plan
  pub log : List Entry
  pub fits : All Fits log
  pub is : IsLegalLog prefix bytes script log

-- the verdict that is asked for: on a whole log, or on one that may end before the script is done
unfoldable pub verdict_on : Bool → Plan → List Entry → Verdict
verdict_on false script log = verdict_of script log
verdict_on true script log = prefix_verdict_of script log

-- the line of a log's text, counted from 1, that a verdict names: that of the entry at its place
abbrev pub line_in : Version → Verdict → Option ℕ
line_in version Legal = None
line_in version (Illegal place) = Some (place + 1 + lines_before version)

-- the line at which the text is found to be no legal, whole log of the script, or no legal one, or none, and the line that was left
-- out: where it is the text of a log, that of the verdict on this log; else the first line that is no log line of its place
abbrev pub IsFoundAt : Bool → Plan → List ℕ → Option ℕ → Option ℕ → Type 0
IsFoundAt prefix script text line cut =
    ((log : List Entry) × IsTextOf prefix text log cut × (line ≡ line_in (version_of text) (verdict_on prefix script log)))
    ⊎ ((bad : ℕ) × IsBadText prefix text bad × (line ≡ Some bad))

-- what a text is taken for: that of such a log, or wrong at a line
abbrev pub IsTaken : Bool → List ℕ → Taken → Type 0
IsTaken prefix text (Log log cut) = IsTextOf prefix text log.items cut
IsTaken prefix text (Bad line) = IsBadText prefix text line

-- what it is found to be: that of such a log, which is right, or wrong at a line
abbrev pub IsJudged : Bool → Plan → List ℕ → Judged → Type 0
IsJudged prefix script text (Right log cut) = IsTextOf prefix text log.items cut × (verdict_on prefix script log.items ≡ Legal)
IsJudged prefix script text (Wrong line cut) = IsFoundAt prefix script text (Some line) cut

-- what is written of that line
abbrev pub verdict_text : Option ℕ → List ℕ
verdict_text None = codes "legal\n"
verdict_text (Some line) = codes "illegal " ++ decimal line ++ codes "\n"

-- what is said of a line that was left out, where no line is wrong: in words or in JSON
abbrev pub cut_text : Bool → Option ℕ → Option ℕ → List ℕ
cut_text false None (Some cut) = codes "line " ++ decimal cut ++ codes " is cut off, and was left out\n"
cut_text true None (Some cut) = codes "{\"line\":" ++ decimal cut ++ codes ",\"cut_off\":true}\n"
cut_text json line cut = []

-- the status that goes with it
abbrev pub verdict_status : Option ℕ → ℕ
verdict_status None = 0
verdict_status (Some line) = 1

-- the input begins with a script, and the log behind it is found wrong at this line, or nowhere
pub record IsFoundIn (prefix : Bool) (bytes : List ℕ) (line : Option ℕ) : Type 0 where
  pub script : Plan
  pub cut : Option ℕ
  pub reads : Reads (script_part bytes) script
  pub found : IsFoundAt prefix script (part_behind bytes) line cut

-- the input begins with a script, and this holds of the status of the line at which the log behind it is found wrong, and of
-- what `check` writes of that line, and of one that was left out
pub record HasChecked (prefix : Bool) (bytes : List ℕ) (Holds : ℕ → List ℕ → Type 0) : Type 0 where
  pub script : Plan
  pub line : Option ℕ
  pub cut : Option ℕ
  pub reads : Reads (script_part bytes) script
  pub found : IsFoundAt prefix script (part_behind bytes) line cut
  pub holds : Holds (verdict_status line) (verdict_text line ++ cut_text false line cut)

-- this holds of the status of a line, and of what `trace` writes: where no line is wrong the trace of the log, or the full one, and
-- else nothing
abbrev pub IsTraced : Bool → Bool → Plan → List ℕ → (ℕ → List ℕ → Type 0) → Option ℕ → Type 0
IsTraced full prefix script text Holds None =
    (log : List Entry) × (cut : Option ℕ) × IsTextOf prefix text log cut × Holds 0 (traced_text full script log)
IsTraced full prefix script text Holds (Some line) = Holds 1 []

-- the same of what `trace` writes
pub record HasTraced (full prefix : Bool) (bytes : List ℕ) (Holds : ℕ → List ℕ → Type 0) : Type 0 where
  pub line : Option ℕ
  pub found : IsFoundIn prefix bytes line
  pub holds : IsTraced full prefix found.script (part_behind bytes) Holds line
