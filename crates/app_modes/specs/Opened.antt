-- What the modes with `--open` say of what an environment of an open plan did (this project's own rule).
use Rattle.std.specs.Prelude.{◌≡◌, ◌⊎◌, ℕ, Bool, true, false, List, [], ◌++◌, All, Option, Some, None}
use Rattle.task_base.specs.Plan.{Plan, opened}
use Rattle.task_base.specs.declared.entry.Entry.{Entry}
use Rattle.task_model.specs.Seats.{is_quiet}
use Rattle.script_model.specs.Grammar.{Reads}
use Rattle.log_model.specs.Fits.{Fits}
use Rattle.log_model.specs.LogText.{version_of}
use Rattle.hist_model.specs.Legal.{IsLegal}
use Rattle.env_check.specs.Verdicts.{prefix_verdict_of}
use Rattle.env_check.specs.declared.verdict.Verdict.{Verdict}
use Rattle.env_check.specs.declared.verdict.Verdict.TheVariants.{Legal}
use Rattle.open_check.specs.Plans.{plan_fault}
use Rattle.open_check.specs.Verdicts.{open_verdict_of}
use Rattle.order_answer.specs.Answers.{IsAnswer}
use Rattle.order_answer.specs.declared.answer.Answer.{Answer}
use Rattle.app_modes.specs.declared.judged.Judged.{Judged}
use Rattle.app_modes.specs.declared.judged.Judged.TheVariants.{Right, Wrong}
use Rattle.app_modes.specs.Arranged.{answer_status, answer_text}
use Rattle.app_modes.specs.Judged.{IsBadText, IsTextFor, IsTextOf, cut_text, line_in, verdict_status, verdict_text}
use Rattle.app_streams.specs.Parts.{script_part, part_behind}
use Rattle.app_streams.specs.Written.{traced_text}

-- the verdict on a log of a script's open plan that is asked for: on one at whose end nobody is at work, or on one that may end anywhere
unfoldable pub open_verdict_on : Bool → Plan → List Entry → Verdict
open_verdict_on false script log = open_verdict_of (opened script) log
open_verdict_on true script log = prefix_verdict_of (opened script) log

-- the line at which the text is found to be no such log, and the line that was left out: where it is the text of a log, that of the
-- verdict on this log; else the first line that is no log line of its place
abbrev pub IsOpenAt : Bool → Plan → List ℕ → Option ℕ → Option ℕ → Type 0
IsOpenAt prefix script text line cut =
    ((log : List Entry) × IsTextOf prefix text log cut × (line ≡ line_in (version_of text) (open_verdict_on prefix script log)))
    ⊎ ((bad : ℕ) × IsBadText prefix text bad × (line ≡ Some bad))

-- what the text is found to be: that of such a log, which is right, or wrong at a line
abbrev pub IsJudgedOpen : Bool → Plan → List ℕ → Judged → Type 0
IsJudgedOpen prefix script text (Right log cut) = IsTextOf prefix text log.items cut × (open_verdict_on prefix script log.items ≡ Legal)
IsJudgedOpen prefix script text (Wrong line cut) = IsOpenAt prefix script text (Some line) cut

-- the input begins with the script of an open plan, and the log after it is found wrong at this line, or nowhere
pub record IsFoundOpen (prefix : Bool) (bytes : List ℕ) (line : Option ℕ) : Type 0 where
  pub script : Plan
  pub cut : Option ℕ
  pub reads : Reads (script_part bytes) script
  pub plan : plan_fault script (script_part bytes) ≡ None
  pub found : IsOpenAt prefix script (part_behind bytes) line cut

-- the input begins with the script of an open plan, and this holds of the status of the line at which the log after it is found
-- wrong, and of what `check --open` writes of that line, and of one that was left out
pub record HasCheckedOpen (prefix : Bool) (bytes : List ℕ) (Holds : ℕ → List ℕ → Type 0) : Type 0 where
  pub script : Plan
  pub line : Option ℕ
  pub cut : Option ℕ
  pub reads : Reads (script_part bytes) script
  pub plan : plan_fault script (script_part bytes) ≡ None
  pub found : IsOpenAt prefix script (part_behind bytes) line cut
  pub holds : Holds (verdict_status line) (verdict_text line ++ cut_text false line cut)

-- the input is the script of an open plan, and after it the text of this log, whose numbers fit, which is legal for the plan, and nobody
-- runs or holds anything at its end; or where a prefix of such a log is asked for, its beginning will do, and legal alone
pub record IsLegalOpenLog (prefix : Bool) (bytes : List ℕ) (script : Plan) (log : List Entry) : Type 0 where
  pub reads : Reads (script_part bytes) script
  pub plan : plan_fault script (script_part bytes) ≡ None
  pub cut : Option ℕ
  pub fits : All Fits log
  pub text : IsTextFor prefix (part_behind bytes) log cut
  pub legal : IsLegal (opened script) log
  pub quiet : prefix ≡ false → is_quiet (opened script) log ≡ true

-- the input is a script of an open plan, and after it the text of such a log
pub record HasLegalOpenLog (prefix : Bool) (bytes : List ℕ) : Type 0 where
  pub script : Plan
  pub log : List Entry
  pub is : IsLegalOpenLog prefix bytes script log

-- this holds of the status of a line, and of what `trace --open` writes: where no line is wrong the trace of the log, or the full one, and
-- else nothing
abbrev pub IsTracedOpen : Bool → Bool → Plan → List ℕ → (ℕ → List ℕ → Type 0) → Option ℕ → Type 0
IsTracedOpen full prefix script text Holds None =
    (log : List Entry) × (cut : Option ℕ) × IsTextOf prefix text log cut × Holds 0 (traced_text full script log)
IsTracedOpen full prefix script text Holds (Some line) = Holds 1 []

-- the same of what `trace --open` writes
pub record HasTracedOpen (full prefix : Bool) (bytes : List ℕ) (Holds : ℕ → List ℕ → Type 0) : Type 0 where
  pub line : Option ℕ
  pub found : IsFoundOpen prefix bytes line
  pub holds : IsTracedOpen full prefix found.script (part_behind bytes) Holds line

-- the input begins with the script of an open plan, and this holds of the status of an answer to the events after it, and of what is
-- written of it
pub record HasArrangedOpen (prefix : Bool) (bytes : List ℕ) (Holds : ℕ → List ℕ → Type 0) : Type 0 where
  pub script : Plan
  pub answer : Answer
  pub reads : Reads (script_part bytes) script
  pub plan : plan_fault script (script_part bytes) ≡ None
  pub is : IsAnswer (opened script) prefix (part_behind bytes) answer
  pub holds : Holds (answer_status answer) (answer_text answer)
