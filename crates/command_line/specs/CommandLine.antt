-- What the words of a command line ask for.
use Rattle.std.specs.Prelude.{ℕ, ◌≤◌, Bool, true, false, if◌then◌else◌, List, [], ◌∷◌, fold, codes, Option, Some, None}
use Rattle.script_model.specs.Words.{is_word}
use Rattle.clap.specs.Walk.{Rule, Row, first_of}
use Rattle.clap.specs.Simple.{App, new_app, new_rule, with_rule, matches_of}
use Rattle.clap.specs.Kinds.{Kinds}
use Rattle.clap.specs.Faults.{fault_of}
use Rattle.clap.specs.declared.builder.action.ArgAction.TheVariants.{SetTrue}
use Rattle.command_line.specs.declared.words.Command.{Command}
use Rattle.command_line.specs.declared.words.Command.TheVariants.{Run, Simulate, Check, CheckOpen, Explain, ExplainOpen, Arrange, ArrangeOpen}
use Rattle.command_line.specs.declared.words.Command.TheVariants.{Reply, Trace, TraceOpen, Nest, Lint, Generate, Bench}
use Rattle.command_line.specs.declared.words.Linted.TheVariants as linted
use Rattle.command_line.specs.declared.words.Mode.{Mode}
use Rattle.command_line.specs.declared.words.Mode.TheVariants as modes
use Rattle.command_line.specs.declared.options.TheConstants.{MOST_SIZE, MOST_STEPS, MOST_WORK}
use Rattle.command_line.specs.Options.{◌>>=◌, Options, IsShake, everything, favour_given, is_bare, options_by}
use Rattle.command_line.specs.Options.{pace_given, seed_given, shake_given, size_given, step_given, steps_given, wide_given, work_given}

-- ---- the command, as clap has commands

-- `MODE`, which must be there (this project's own)
abbrev pub mode_argument : Rule
mode_argument = record (new_rule (codes "MODE")) { required = true }

-- an option of this name, with a value (this project's own)
abbrev pub value_argument : List ℕ → Rule
value_argument name = record (new_rule name) { long = Some name }

-- a flag of this name (this project's own)
abbrev pub flag_argument : List ℕ → Rule
flag_argument name = record (new_rule name) { long = Some name; action = Some SetTrue }

-- the arguments of the command, in this order
abbrev pub arguments : List Rule
arguments =
    mode_argument
    ∷ value_argument (codes "step")
    ∷ flag_argument (codes "json")
    ∷ flag_argument (codes "prefix")
    ∷ value_argument (codes "number")
    ∷ value_argument (codes "size")
    ∷ flag_argument (codes "replies")
    ∷ flag_argument (codes "nest")
    ∷ flag_argument (codes "full")
    ∷ value_argument (codes "seed")
    ∷ value_argument (codes "favour")
    ∷ flag_argument (codes "jump")
    ∷ value_argument (codes "shake")
    ∷ value_argument (codes "work")
    ∷ flag_argument (codes "wide")
    ∷ flag_argument (codes "no-jobs")
    ∷ flag_argument (codes "no-main")
    ∷ flag_argument (codes "no-delays")
    ∷ flag_argument (codes "no-scopes")
    ∷ flag_argument (codes "no-shutdown")
    ∷ value_argument (codes "most")
    ∷ flag_argument (codes "open")
    ∷ []

-- `taskenv MODE [--step N] [--json] [--prefix] [--number N] [--size N] [--replies] [--nest] [--full] [--seed N] [--favour WORD] [--jump]
-- [--shake N] [--work N] [--wide] [--no-jobs] [--no-main] [--no-delays] [--no-scopes] [--no-shutdown]
-- [--most N] [--open]` (this project's own)
abbrev pub taskenv : App
taskenv = fold with_rule (new_app (codes "taskenv")) arguments

-- ---- the modes

-- the mode that a word names (this project's own)
abbrev pub mode_named : List ℕ → Option Mode
mode_named word =
    if is_word word (codes "run") then Some modes.Run
    else (if is_word word (codes "simulate") then Some modes.Simulate
    else (if is_word word (codes "check") then Some modes.Check
    else (if is_word word (codes "explain") then Some modes.Explain
    else (if is_word word (codes "arrange") then Some modes.Arrange
    else (if is_word word (codes "reply") then Some modes.Reply
    else (if is_word word (codes "trace") then Some modes.Trace
    else (if is_word word (codes "nest") then Some modes.Nest
    else (if is_word word (codes "lint") then Some modes.Lint
    else (if is_word word (codes "gen") then Some modes.Generate
    else (if is_word word (codes "bench") then Some modes.Bench
    else None))))))))))

-- the options that the mode does not take: `run` takes `--step`, `--json`, `--shake` and `--seed`, `simulate` takes `--seed`, `--favour`,
-- `--step`, `--jump` and `--json`, `check` takes `--open` and `--prefix`, `explain` takes `--open`, `--json` and `--prefix`,
-- `arrange` takes `--open`, `--prefix` and `--most`, `trace` takes `--open`, `--full` and `--prefix`, `lint` takes
-- `--replies` and `--nest`, `gen` takes `--number`, `--size`, `--wide` and the flags that leave something out,
-- `bench` takes `--number`, `--size` and `--work`, and the others take none (this project's own rule)
abbrev pub others_than : Mode → Options → Options
others_than modes.Run o = record o { step = None; json = false; shake = None; seed = None }
others_than modes.Simulate o = record o { seed = None; favour = None; step = None; jump = false; json = false }
others_than modes.Check o = record o { is_open = false; prefix = false }
others_than modes.Explain o = record o { is_open = false; json = false; prefix = false }
others_than modes.Arrange o = record o { is_open = false; prefix = false; most = None }
others_than modes.Reply o = o
others_than modes.Trace o = record o { is_open = false; full = false; prefix = false }
others_than modes.Nest o = o
others_than modes.Lint o = record o { replies = false; nest = false }
others_than modes.Generate o = record o { number = None; size = None; wide = false; parts = everything }
others_than modes.Bench o = record o { number = None; size = None; work = None }

-- ---- the command of each mode

-- the command of the mode `run`
abbrev pub run_with : Options → Option Command
run_with o = do
  step ← step_given o.step
  shake ← shake_given o.shake o.seed
  Some (Run step o.json shake)

-- the command of the mode `simulate`
abbrev pub simulate_with : Options → Option Command
simulate_with o = do
  seed ← seed_given o.seed
  favour ← favour_given o.favour
  step ← pace_given o.step o.jump
  Some (Simulate seed favour step o.json)

-- the command of the mode `check`
abbrev pub check_with : Bool → Bool → Command
check_with false prefix = Check prefix
check_with true prefix = CheckOpen prefix

-- the command of the mode `explain`
abbrev pub explain_with : Bool → Bool → Bool → Command
explain_with false json prefix = Explain json prefix
explain_with true json prefix = ExplainOpen json prefix

-- the command of the mode `arrange`, with that many steps
abbrev pub arrange_by : Bool → Bool → ℕ → Command
arrange_by false prefix most = Arrange prefix most
arrange_by true prefix most = ArrangeOpen prefix most

-- the command of the mode `arrange`
abbrev pub arrange_with : Options → Option Command
arrange_with o = do
  most ← steps_given o.most
  Some (arrange_by o.is_open o.prefix most)

-- the command of the mode `trace`
abbrev pub trace_with : Bool → Bool → Bool → Command
trace_with false full prefix = Trace full prefix
trace_with true full prefix = TraceOpen full prefix

-- the command of the mode `lint`, whose two flags are not both there (this project's own rule)
abbrev pub lint_with : Bool → Bool → Option Command
lint_with false false = Some (Lint linted.Script)
lint_with true false = Some (Lint linted.Replies)
lint_with false true = Some (Lint linted.Nest)
lint_with true true = None

-- the command of the mode `gen`
abbrev pub generate_with : Options → Option Command
generate_with o = do
  number ← seed_given o.number
  size ← size_given o.size
  wide ← wide_given o.wide o.parts
  Some (Generate number size wide)

-- the command of the mode `bench`
abbrev pub bench_with : Options → Option Command
bench_with o = do
  number ← seed_given o.number
  size ← size_given o.size
  work ← work_given o.work
  Some (Bench number size work)

-- the command of the mode with those options that it takes
abbrev pub command_with : Mode → Options → Option Command
command_with modes.Run o = run_with o
command_with modes.Simulate o = simulate_with o
command_with modes.Check o = Some (check_with o.is_open o.prefix)
command_with modes.Explain o = Some (explain_with o.is_open o.json o.prefix)
command_with modes.Arrange o = arrange_with o
command_with modes.Reply o = Some Reply
command_with modes.Trace o = Some (trace_with o.is_open o.full o.prefix)
command_with modes.Nest o = Some Nest
command_with modes.Lint o = lint_with o.replies o.nest
command_with modes.Generate o = generate_with o
command_with modes.Bench o = bench_with o

-- the command of the mode with all options: one that it does not take makes it none
abbrev pub command_asked : Mode → Options → Option Command
command_asked mode options = if is_bare (others_than mode options) then command_with mode options else None

-- the command of the mode that the word names, with these options
abbrev pub command_by : Option (List ℕ) → Options → Option Command
command_by mode options = mode >>= mode_named >>= λ m. command_asked m options

-- the command that these matches of clap's command make, if their values are right
abbrev pub command_matched : List Row → Option Command
command_matched rows = command_by (first_of (codes "MODE") rows) (options_by (λ name. first_of name rows))

-- the same, unless clap finds a fault
abbrev pub command_unless : Kinds → List Row → Option Command
command_unless [] rows = command_matched rows
command_unless (kind ∷ kinds) rows = None

-- the command that the words are, from the program's name on: those that clap's command takes, with values that are right
unfoldable pub command_of : List (List ℕ) → Option Command
command_of words = command_unless (fault_of taskenv words) (matches_of taskenv words)

-- the numbers of a command are in their ranges: a search takes from 1 to 10^12 steps at most, a script that is to be made has from 1 to 8,192 tasks, those of the pool work
-- at most 1,000,000,000 nanoseconds each, and a run that is shaken pauses from 1 to 1,000,000 microseconds at most
abbrev pub IsInRange : Command → Type 0
IsInRange (Run step json shake) = IsShake shake
IsInRange (Simulate seed favour step json) = Unit {0}
IsInRange (Check prefix) = Unit {0}
IsInRange (CheckOpen prefix) = Unit {0}
IsInRange (Explain json prefix) = Unit {0}
IsInRange (ExplainOpen json prefix) = Unit {0}
IsInRange (Arrange prefix most) = (1 ≤ most) × (most ≤ MOST_STEPS)
IsInRange (ArrangeOpen prefix most) = (1 ≤ most) × (most ≤ MOST_STEPS)
IsInRange Reply = Unit {0}
IsInRange (Trace full prefix) = Unit {0}
IsInRange (TraceOpen full prefix) = Unit {0}
IsInRange Nest = Unit {0}
IsInRange (Lint input) = Unit {0}
IsInRange (Generate number size wide) = (1 ≤ size) × (size ≤ MOST_SIZE)
IsInRange (Bench number size work) = (1 ≤ size) × (size ≤ MOST_SIZE) × (work ≤ MOST_WORK)

-- the command reads the source: a script, after which `check`, `explain` and `trace` have a log, `arrange` has events and `reply` has replies, or a nest
-- script; `lint` any of the scripts and replies
abbrev pub TakesInput : Option Command → Type 0
TakesInput None = ⊥
TakesInput (Some (Run step json shake)) = Unit {0}
TakesInput (Some (Simulate seed favour step json)) = Unit {0}
TakesInput (Some (Check prefix)) = Unit {0}
TakesInput (Some (CheckOpen prefix)) = Unit {0}
TakesInput (Some (Explain json prefix)) = Unit {0}
TakesInput (Some (ExplainOpen json prefix)) = Unit {0}
TakesInput (Some (Arrange prefix most)) = Unit {0}
TakesInput (Some (ArrangeOpen prefix most)) = Unit {0}
TakesInput (Some Reply) = Unit {0}
TakesInput (Some (Trace full prefix)) = Unit {0}
TakesInput (Some (TraceOpen full prefix)) = Unit {0}
TakesInput (Some Nest) = Unit {0}
TakesInput (Some (Lint input)) = Unit {0}
TakesInput (Some (Generate number size wide)) = ⊥
TakesInput (Some (Bench number size work)) = ⊥

-- the command reads the clock
abbrev pub ReadsClock : Option Command → Type 0
ReadsClock None = ⊥
ReadsClock (Some (Run None json shake)) = Unit {0}
ReadsClock (Some (Run (Some step) json shake)) = ⊥
ReadsClock (Some (Simulate seed favour step json)) = ⊥
ReadsClock (Some (Check prefix)) = ⊥
ReadsClock (Some (CheckOpen prefix)) = ⊥
ReadsClock (Some (Explain json prefix)) = ⊥
ReadsClock (Some (ExplainOpen json prefix)) = ⊥
ReadsClock (Some (Arrange prefix most)) = ⊥
ReadsClock (Some (ArrangeOpen prefix most)) = ⊥
ReadsClock (Some Reply) = Unit {0}
ReadsClock (Some (Trace full prefix)) = ⊥
ReadsClock (Some (TraceOpen full prefix)) = ⊥
ReadsClock (Some Nest) = ⊥
ReadsClock (Some (Lint input)) = ⊥
ReadsClock (Some (Generate number size wide)) = ⊥
ReadsClock (Some (Bench number size work)) = ⊥

-- the command runs a script and writes JSON, for which it takes memory after the run
abbrev pub WritesJson : Option Command → Type 0
WritesJson None = ⊥
WritesJson (Some (Run step true shake)) = Unit {0}
WritesJson (Some (Run step false shake)) = ⊥
WritesJson (Some (Simulate seed favour step true)) = Unit {0}
WritesJson (Some (Simulate seed favour step false)) = ⊥
WritesJson (Some (Check prefix)) = ⊥
WritesJson (Some (CheckOpen prefix)) = ⊥
WritesJson (Some (Explain json prefix)) = ⊥
WritesJson (Some (ExplainOpen json prefix)) = ⊥
WritesJson (Some (Arrange prefix most)) = ⊥
WritesJson (Some (ArrangeOpen prefix most)) = ⊥
WritesJson (Some Reply) = ⊥
WritesJson (Some (Trace full prefix)) = ⊥
WritesJson (Some (TraceOpen full prefix)) = ⊥
WritesJson (Some Nest) = ⊥
WritesJson (Some (Lint input)) = ⊥
WritesJson (Some (Generate number size wide)) = ⊥
WritesJson (Some (Bench number size work)) = ⊥

-- the command judges a log of a script
abbrev pub IsJudge : Option Command → Type 0
IsJudge None = ⊥
IsJudge (Some (Run step json shake)) = ⊥
IsJudge (Some (Simulate seed favour step json)) = ⊥
IsJudge (Some (Check prefix)) = Unit {0}
IsJudge (Some (CheckOpen prefix)) = ⊥
IsJudge (Some (Explain json prefix)) = Unit {0}
IsJudge (Some (ExplainOpen json prefix)) = ⊥
IsJudge (Some (Arrange prefix most)) = ⊥
IsJudge (Some (ArrangeOpen prefix most)) = ⊥
IsJudge (Some Reply) = ⊥
IsJudge (Some (Trace full prefix)) = Unit {0}
IsJudge (Some (TraceOpen full prefix)) = ⊥
IsJudge (Some Nest) = ⊥
IsJudge (Some (Lint input)) = ⊥
IsJudge (Some (Generate number size wide)) = ⊥
IsJudge (Some (Bench number size work)) = ⊥

-- the command judges a log of an open plan
abbrev pub IsOpenJudge : Option Command → Type 0
IsOpenJudge (Some (CheckOpen prefix)) = Unit {0}
IsOpenJudge (Some (ExplainOpen json prefix)) = Unit {0}
IsOpenJudge (Some (TraceOpen full prefix)) = Unit {0}
IsOpenJudge command = ⊥

-- the command takes the script of an open plan
abbrev pub TakesPlan : Option Command → Type 0
TakesPlan (Some (CheckOpen prefix)) = Unit {0}
TakesPlan (Some (ExplainOpen json prefix)) = Unit {0}
TakesPlan (Some (ArrangeOpen prefix most)) = Unit {0}
TakesPlan (Some (TraceOpen full prefix)) = Unit {0}
TakesPlan command = ⊥

-- the command writes its verdict on a log
abbrev pub WritesVerdict : Option Command → Type 0
WritesVerdict None = ⊥
WritesVerdict (Some (Run step json shake)) = ⊥
WritesVerdict (Some (Simulate seed favour step json)) = ⊥
WritesVerdict (Some (Check prefix)) = Unit {0}
WritesVerdict (Some (CheckOpen prefix)) = Unit {0}
WritesVerdict (Some (Explain json prefix)) = Unit {0}
WritesVerdict (Some (ExplainOpen json prefix)) = Unit {0}
WritesVerdict (Some (Arrange prefix most)) = ⊥
WritesVerdict (Some (ArrangeOpen prefix most)) = ⊥
WritesVerdict (Some Reply) = ⊥
WritesVerdict (Some (Trace full prefix)) = ⊥
WritesVerdict (Some (TraceOpen full prefix)) = ⊥
WritesVerdict (Some Nest) = ⊥
WritesVerdict (Some (Lint input)) = ⊥
WritesVerdict (Some (Generate number size wide)) = ⊥
WritesVerdict (Some (Bench number size work)) = ⊥

-- the command says of an input why it is none
abbrev pub IsLint : Option Command → Type 0
IsLint (Some (Lint input)) = Unit {0}
IsLint command = ⊥

-- the command writes the trace of a log
abbrev pub IsTrace : Option Command → Type 0
IsTrace (Some (Trace full prefix)) = Unit {0}
IsTrace (Some (TraceOpen full prefix)) = Unit {0}
IsTrace command = ⊥

-- the command looks for an order of events
abbrev pub IsArrange : Option Command → Type 0
IsArrange (Some (Arrange prefix most)) = Unit {0}
IsArrange (Some (ArrangeOpen prefix most)) = Unit {0}
IsArrange command = ⊥

-- the command takes a log as legal that ends before the script is done, or where somebody is at work
abbrev pub takes_prefix : Option Command → Bool
takes_prefix (Some (Check prefix)) = prefix
takes_prefix (Some (CheckOpen prefix)) = prefix
takes_prefix (Some (Explain json prefix)) = prefix
takes_prefix (Some (ExplainOpen json prefix)) = prefix
takes_prefix (Some (Trace full prefix)) = prefix
takes_prefix (Some (TraceOpen full prefix)) = prefix
takes_prefix command = false
