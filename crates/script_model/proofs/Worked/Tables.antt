-- How worked scripts are checked: by computing, with all definitions open.
use Rattle.std.proofs.Common.{◌≡◌, ℕ, List, [], ◌∷◌, map}
use Rattle.std.specs.Prelude.{Option, Some, None, Result, Ok}
use Rattle.std.specs.Fmt.{digits}
use Rattle.std.specs.Result.{result_err}
use Rattle.task_base.specs.Plan.{Plan}
use Rattle.script_model.specs.Draft.{Draft}
use Rattle.script_model.specs.Places.{number_from, kind_named, step_said, steps_read}
use Rattle.script_model.specs.Lines.{workers_line, groups_line, threshold_line, runner_line, queue_line, task_line, job_line, post_line, main_line, tick_line}
use Rattle.script_model.specs.Lines.{policy_line, reprio_line, fence_line, unfence_line, vote_line, rank_line, close_line, pump_line, flush_line}
use Rattle.script_model.specs.Lines.{start_job_line, join_line, cancel_line, shutdown_line, queue_command_read, action_command_read, command_read, words_read}
use Rattle.script_model.specs.Grammar.{lines_read, script_read, first_fault}
use Rattle.script_model.specs.Bound.{events_bound_of}
use Rattle.script_model.specs.Canonical.{canonical}

-- the script that the bytes are, or their first fault, with all open that reading and writing take: a proof that
-- opens this computes both
unfoldable pub opened : List ℕ → Result Plan (ℕ × ℕ)
unfolding digits number_from kind_named step_said steps_read workers_line groups_line threshold_line runner_line queue_line task_line job_line post_line
    main_line tick_line policy_line reprio_line fence_line unfence_line vote_line rank_line close_line pump_line flush_line start_job_line join_line
    cancel_line shutdown_line queue_command_read action_command_read command_read words_read lines_read script_read
opened bytes = script_read bytes

-- ---- scripts by their texts

-- a text, and its first bad line with the reason, if there is one
abbrev pub Row : Type 0
Row = List ℕ × Option (ℕ × ℕ)

-- the text is no script: this line is bad, for this reason
abbrev pub bad : List ℕ → ℕ → ℕ → Row
bad text line reason = (text, Some (line, reason))

-- the text is a script
abbrev pub good : List ℕ → Row
good text = (text, None)

-- each text has the fault that its row says, or none
abbrev pub AreRight : List Row → Type 0
AreRight rows = map (λ row. first_fault row.0) rows ≡ map (λ row. row.1) rows

-- ---- lines behind a draft

-- the number of a line, the draft that the lines before it give, the line, and its fault, if it has one
abbrev pub RowBehind : Type 0
RowBehind = ℕ × (Draft × (List ℕ × Option (ℕ × ℕ)))

-- the line is bad, for this reason
abbrev pub bad_behind : ℕ → Draft → List ℕ → ℕ → RowBehind
bad_behind number d line reason = (number, (d, (line, Some (number, reason))))

-- the line is good
abbrev pub good_behind : ℕ → Draft → List ℕ → RowBehind
good_behind number d line = (number, (d, (line, None)))

-- each line has the fault that its row says, or none
abbrev pub AreRightBehind : List RowBehind → Type 0
AreRightBehind rows = map (λ row. result_err (lines_read row.1.0 row.0 (row.1.1.0 ∷ []))) rows ≡ map (λ row. row.1.1.1) rows

-- ---- whole scripts

-- each text is the script beside it
abbrev pub AreRead : List (List ℕ × Plan) → Type 0
AreRead rows = map (λ row. script_read row.0) rows ≡ map (λ row. Ok row.1) rows

-- each script has the canonical text beside it
abbrev pub AreWritten : List (Plan × List ℕ) → Type 0
AreWritten rows = map (λ row. canonical row.0) rows ≡ map (λ row. row.1) rows

-- each script is what its canonical text says
abbrev pub AreValid : List Plan → Type 0
AreValid scripts = map (λ script. script_read (canonical script)) scripts ≡ map (λ script. Ok script) scripts

-- the runs of each script have at most so many entries
abbrev pub AreBound : List (Plan × ℕ) → Type 0
AreBound rows = map (λ row. events_bound_of row.0) rows ≡ map (λ row. row.1) rows
