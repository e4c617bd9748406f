-- What a command did, by what it read and what it wrote.
use Rattle.std.specs.Prelude.{◌≡◌, ◌≢◌, ◌<◌, ℕ, Bool, List, length, Option, Some, None, IsSome, option_map, Result, Ok, Err}
use Rattle.task_base.specs.Plan.{Plan}
use Rattle.task_base.specs.declared.limits.TheConstants.{MOST_BYTES}
use Rattle.task_base.specs.declared.entry.Entry.{Entry}
use Rattle.task_base.specs.declared.fault.Fault.{Fault}
use Rattle.task_base.specs.declared.fault.Fault.TheVariants.{NotLegal, BadWords, BadScript, ReadFault, WriteFault, NoMemory, TooLarge}
use Rattle.env_io.specs.Readings.{no_step, step_readings}
use Rattle.script_model.specs.Canonical.{canonical}
use Rattle.script_model.specs.Laws.Sound.{IsSound}
use Rattle.script_model.specs.Grammar.{Reads, first_fault, script_read}
use Rattle.log_model.specs.LogText.{log_text}
use Rattle.hist_model.specs.Legal.{IsLegal}
use Rattle.hist_model.specs.Script.{IsWhole}
use Rattle.env_crew.specs.Driving.{HasMomentsOf}
use Rattle.open_check.specs.Plans.{plan_fault}
use Rattle.task_reply.specs.Elaborated.{IsElaboratedBy}
use Rattle.task_reply.specs.Replies.{reply_fault}
use Rattle.nested_loop.specs.Plan.{NestPlan}
use Rattle.nested_loop.specs.NestGrammar.{ReadsNest, nest_fault}
use Rattle.nested_loop.specs.NestText.{nest_text}
use Rattle.nested_loop.specs.Nest.{IsLegalNest}
use Rattle.nested_loop.specs.declared.event.Event.{Event}
use Rattle.command_line.specs.declared.words.Command.{Command}
use Rattle.command_line.specs.declared.words.Command.TheVariants.{Run, Simulate, Check, CheckOpen, Explain, ExplainOpen, Arrange, ArrangeOpen}
use Rattle.command_line.specs.declared.words.Command.TheVariants.{Reply, Trace, TraceOpen, Nest, Lint, Generate, Bench}
use Rattle.command_line.specs.declared.options.Favour.{Favour}
use Rattle.command_line.specs.declared.options.Favour.TheVariants as favours
use Rattle.command_line.specs.declared.options.Wide.{Wide}
use Rattle.app_streams.specs.Parts.{script_part, part_behind}
use Rattle.app_streams.specs.Ends.{Ends, Failed}
use Rattle.app_streams.specs.Taken.{IsReadToEnd, OfBytes, OfTaken}
use Rattle.app_streams.specs.Written.{WroteAll, WroteFront, output_of}
use Rattle.app_modes.specs.declared.failure.Failure.{Failure}
use Rattle.app_modes.specs.declared.failure.Failure.TheVariants.{Common, Linted, NoOrder, GaveUp, BadEvents, BadPlan, NotTraced, BadReplies, BadNest}
use Rattle.command_line.specs.CommandLine.{IsArrange, IsLint, IsTrace, TakesInput, TakesPlan, WritesVerdict, takes_prefix}
use Rattle.app_modes.specs.Arranged.{HasArranged, HasBadEvents}
use Rattle.app_modes.specs.Judged.{HasChecked, HasTraced, IsFoundIn}
use Rattle.app_modes.specs.Explained.{HasExplained}
use Rattle.app_modes.specs.ExplainedOpen.{HasExplainedOpen}
use Rattle.app_modes.specs.Opened.{HasArrangedOpen, HasCheckedOpen, HasTracedOpen, IsFoundOpen}
use Rattle.app_modes.specs.Linted.{IsSaid, lint_said}
use Rattle.app_modes.specs.Totals.{summary_text}
use Rattle.run_summary.specs.Summary.{generated_totals}
use Rattle.task_script.specs.Generated.{generated}
use Rattle.wide_script.specs.Wide.{wide}
use Rattle.wide_script.specs.declared.parts.Parts.{Parts}
use Rattle.simulation.specs.Simulated.{simulated}
use Rattle.simulation.specs.declared.lots.Lots.{Lots}

-- the readings of a run: those of a step, where there is one, and else what the clock tells
abbrev pub readings_of : Option ℕ → (ℕ → Option ℕ) → ℕ → Option ℕ
readings_of None told = told
readings_of (Some step) told = step_readings (no_step step)

-- the bytes are a script, and this holds of what a run writes of one legal, whole history of it, whose ticks are the moments of
-- these readings
pub record HasRun (bytes : List ℕ) (json : Bool) (told : ℕ → Option ℕ) (Written : List ℕ → Type 0) : Type 0 where
  pub script : Plan
  pub log : List Entry
  pub reads : Reads bytes script
  pub legal : IsLegal script log
  pub whole : IsWhole script log
  pub moments : HasMomentsOf told log
  pub written : Written (output_of json log)

-- how many lots the driver and each worker have in a draw: 8 where they are favoured, and else 1 (this project's own rule)
abbrev pub lots_of : Favour → Lots
lots_of favours.Driver = record { driver = 8; worker = 1 }
lots_of favours.Workers = record { driver = 1; worker = 8 }
lots_of favours.Nobody = record { driver = 1; worker = 1 }

-- the bytes are a script, whose simulated run by this seed, with these ticks, is a legal, whole history of it, and this holds of what is
-- written of that run
pub record HasSimulated (bytes : List ℕ) (seed : ℕ) (favour : Favour) (step : Option ℕ) (json : Bool) (Written : List ℕ → Type 0) : Type 0 where
  pub script : Plan
  pub reads : Reads bytes script
  pub legal : IsLegal script (simulated script seed (lots_of favour) step)
  pub whole : IsWhole script (simulated script seed (lots_of favour) step)
  pub written : Written (output_of json (simulated script seed (lots_of favour) step))

-- the bytes are a script and replies to its tasks, and this holds of what is written of one legal, whole history of the script
-- with the replies, whose ticks are the moments of these readings
pub record HasReplied (bytes : List ℕ) (told : ℕ → Option ℕ) (Written : List ℕ → Type 0) : Type 0 where
  pub script : Plan
  pub elaborated : Plan
  pub log : List Entry
  pub reads : Reads (script_part bytes) script
  pub elaborates : IsElaboratedBy script (part_behind bytes) elaborated
  pub sound : IsSound elaborated
  pub legal : IsLegal elaborated log
  pub whole : IsWhole elaborated log
  pub moments : HasMomentsOf told log
  pub written : Written (log_text log)

-- the bytes are a nest script, and this holds of the text of its log
pub record HasNested (bytes : List ℕ) (Written : List ℕ → Type 0) : Type 0 where
  pub nest : NestPlan
  pub log : List Event
  pub reads : ReadsNest bytes nest
  pub legal : IsLegalNest nest log
  pub written : Written (nest_text log)

-- the failure is why replies gave no script
abbrev pub IsNotElaborated : Plan → List ℕ → Failure → Type 0
IsNotElaborated script replies (BadReplies line reason) = reply_fault script replies ≡ Some (line, reason)
IsNotElaborated script replies (Common (NoMemory error)) = Unit {0}
IsNotElaborated script replies failure = ⊥

-- the failure is why bytes gave no nest
abbrev pub IsNoNest : List ℕ → Failure → Type 0
IsNoNest bytes (BadNest line reason) = nest_fault bytes ≡ Some (line, reason)
IsNoNest bytes (Common (NoMemory error)) = Unit {0}
IsNoNest bytes failure = ⊥

-- the failure is why no open plan was made of a script that was read from this text
abbrev pub IsNotOpened : Plan → List ℕ → Failure → Type 0
IsNotOpened script text (BadPlan bad) = plan_fault script text ≡ Some bad
IsNotOpened script text (Common (NoMemory error)) = Unit {0}
IsNotOpened script text failure = ⊥

-- what is wrong with bytes that are to be a script
abbrev pub script_refusal : List ℕ → Option Failure
script_refusal bytes = option_map (λ at. Common (BadScript at.0 at.1)) (first_fault bytes)

-- what is wrong with replies behind a script that was read, or with the script
abbrev pub reply_refusal : Result Plan (ℕ × ℕ) → List ℕ → Option Failure
reply_refusal (Err at) replies = Some (Common (BadScript at.0 at.1))
reply_refusal (Ok script) replies = option_map (λ at. BadReplies at.0 at.1) (reply_fault script replies)

-- what is wrong with a script that was read for an open plan, or with the bytes that are none
abbrev pub plan_refusal : Result Plan (ℕ × ℕ) → List ℕ → Option Failure
plan_refusal (Err at) text = Some (Common (BadScript at.0 at.1))
plan_refusal (Ok script) text = option_map BadPlan (plan_fault script text)

-- what is wrong with the bytes that come as the input of a command, if anything is
abbrev pub refusal_of : Option Command → List ℕ → Option Failure
refusal_of None bytes = None
refusal_of (Some (Run step json shake)) bytes = script_refusal bytes
refusal_of (Some (Simulate seed favour step json)) bytes = script_refusal bytes
refusal_of (Some (Check prefix)) bytes = script_refusal (script_part bytes)
refusal_of (Some (CheckOpen prefix)) bytes = plan_refusal (script_read (script_part bytes)) (script_part bytes)
refusal_of (Some (Explain json prefix)) bytes = script_refusal (script_part bytes)
refusal_of (Some (ExplainOpen json prefix)) bytes = plan_refusal (script_read (script_part bytes)) (script_part bytes)
refusal_of (Some (Arrange prefix most)) bytes = script_refusal (script_part bytes)
refusal_of (Some (ArrangeOpen prefix most)) bytes = plan_refusal (script_read (script_part bytes)) (script_part bytes)
refusal_of (Some Reply) bytes = reply_refusal (script_read (script_part bytes)) (part_behind bytes)
refusal_of (Some (Trace full prefix)) bytes = script_refusal (script_part bytes)
refusal_of (Some (TraceOpen full prefix)) bytes = plan_refusal (script_read (script_part bytes)) (script_part bytes)
refusal_of (Some Nest) bytes = option_map (λ at. BadNest at.0 at.1) (nest_fault bytes)
refusal_of (Some (Lint input)) bytes = None
refusal_of (Some (Generate number size wide)) bytes = None
refusal_of (Some (Bench number size work)) bytes = None

-- what a wide script is to have, as the words say it
abbrev pub parts_of : Wide → Parts
parts_of asked = record { jobs = asked.jobs; main = asked.main; delays = asked.delays; scopes = asked.scopes; shutdown = asked.shutdown }

-- the script that `gen` makes: a wide one where that is asked for
abbrev pub made : ℕ → ℕ → Option Wide → Plan
made number size None = generated number size
made number size (Some asked) = wide number size (parts_of asked)

-- what a command does, where its clock tells these readings: this holds of the status that it ends with where no write fails,
-- and of the text that it writes
abbrev pub Does : Option Command → (ℕ → Option ℕ) → Ends → (ℕ → List ℕ → Type 0) → Type 0
Does None told source Holds = ⊥
Does (Some (Run step json shake)) told source Holds = OfTaken source (λ bytes. HasRun bytes json (readings_of step told) (Holds 0))
Does (Some (Simulate seed favour step json)) told source Holds = OfTaken source (λ bytes. HasSimulated bytes seed favour step json (Holds 0))
Does (Some (Check prefix)) told source Holds = OfTaken source (λ bytes. HasChecked prefix bytes Holds)
Does (Some (CheckOpen prefix)) told source Holds = OfTaken source (λ bytes. HasCheckedOpen prefix bytes Holds)
Does (Some (Explain json prefix)) told source Holds = OfTaken source (λ bytes. HasExplained json prefix bytes Holds)
Does (Some (ExplainOpen json prefix)) told source Holds = OfTaken source (λ bytes. HasExplainedOpen json prefix bytes Holds)
Does (Some (Arrange prefix most)) told source Holds = OfTaken source (λ bytes. HasArranged prefix bytes Holds)
Does (Some (ArrangeOpen prefix most)) told source Holds = OfTaken source (λ bytes. HasArrangedOpen prefix bytes Holds)
Does (Some Reply) told source Holds = OfTaken source (λ bytes. HasReplied bytes told (Holds 0))
Does (Some (Trace full prefix)) told source Holds = OfTaken source (λ bytes. HasTraced full prefix bytes Holds)
Does (Some (TraceOpen full prefix)) told source Holds = OfTaken source (λ bytes. HasTracedOpen full prefix bytes Holds)
Does (Some Nest) told source Holds = OfTaken source (λ bytes. HasNested bytes (Holds 0))
Does (Some (Lint input)) told source Holds = OfTaken source (λ bytes. IsSaid (lint_said input bytes) Holds)
Does (Some (Generate number size wide)) told source Holds = Holds 0 (canonical (made number size wide))
Does (Some (Bench number size work)) told source Holds = Holds 0 (summary_text (generated_totals number size))

-- the whole text was written, and the status is the one that goes with it
abbrev pub IsWritten : Ends → ℕ → ℕ → List ℕ → Type 0
IsWritten sink status due text = (status ≡ due) × WroteAll sink.before sink.after text

-- a front of the text was written
abbrev pub IsCutOff : Ends → ℕ → List ℕ → Type 0
IsCutOff sink due text = WroteFront sink.before sink.after text

-- the bytes that were taken are refused for this
abbrev pub IsRefused : Option Command → Ends → Failure → Type 0
IsRefused command source failure = OfTaken source (λ bytes. refusal_of command bytes ≡ Some failure)

-- what the answer of a command says: its words are a command or none, its clock told these readings, and its source and its
-- sink were left so
abbrev pub RunsTo : Option Command → (ℕ → Option ℕ) → Ends → Ends → Result (Unit {0}) Fault → Type 0
RunsTo command told source sink (Ok done) = IsSome command × (TakesInput command → IsReadToEnd source) × Does command told source (IsWritten sink 0)
RunsTo command told source sink (Err (NotLegal line)) = WritesVerdict command × IsReadToEnd source × Does command told source (IsWritten sink 1)
RunsTo command told source sink (Err BadWords) = command ≡ None
RunsTo command told source sink (Err WriteFault) =
    IsSome command × (TakesInput command → IsReadToEnd source) × Failed sink × Does command told source (IsCutOff sink)
RunsTo command told source sink (Err (BadScript line reason)) =
    TakesInput command × (command ≢ Some Nest) × IsRefused command source (Common (BadScript line reason))
RunsTo command told source sink (Err ReadFault) = TakesInput command × Failed source
RunsTo command told source sink (Err TooLarge) = TakesInput command × OfBytes source (λ bytes. MOST_BYTES < length bytes)
RunsTo command told source sink (Err (NoMemory error)) = Unit {0}

-- this text was written of what is found at the line, and the answer goes with it
abbrev pub HasSaid : Option ℕ → List ℕ → Ends → Result (Unit {0}) Fault → Type 0
HasSaid line text sink (Ok done) = (line ≡ None) × WroteAll sink.before sink.after text
HasSaid line text sink (Err (NotLegal at)) = (line ≡ Some at) × WroteAll sink.before sink.after text
HasSaid line text sink (Err WriteFault) = Failed sink × WroteFront sink.before sink.after text
HasSaid line text sink (Err fault) = ⊥

-- the end of a command, where any fault may be one
abbrev pub in_common : Result (Unit {0}) Fault → Result (Unit {0}) Failure
in_common (Ok done) = Ok done
in_common (Err fault) = Err (Common fault)

-- the log after the script is found wrong at this line, or nowhere, by the rules that the command asks for
abbrev pub IsFoundBy : Option Command → List ℕ → Option ℕ → Type 0
IsFoundBy (Some (TraceOpen full prefix)) bytes line = IsFoundOpen prefix bytes line
IsFoundBy command bytes line = IsFoundIn (takes_prefix command) bytes line

-- the same, where the command may also end in a failure of its own
abbrev pub EndsIn : Option Command → (ℕ → Option ℕ) → Ends → Ends → Result (Unit {0}) Failure → Type 0
EndsIn command told source sink (Ok done) = RunsTo command told source sink (Ok done)
EndsIn command told source sink (Err (Common fault)) = RunsTo command told source sink (Err fault)
EndsIn command told source sink (Err Linted) = IsLint command × IsReadToEnd source × Does command told source (IsWritten sink 1)
EndsIn command told source sink (Err NoOrder) = IsArrange command × IsReadToEnd source × Does command told source (IsWritten sink 1)
EndsIn command told source sink (Err GaveUp) = IsArrange command × IsReadToEnd source × Does command told source (IsWritten sink 8)
EndsIn command told source sink (Err (BadEvents bad)) =
    IsArrange command × IsReadToEnd source × Does command told source (IsWritten sink 3) × OfTaken source (λ bytes. HasBadEvents bytes bad)
EndsIn command told source sink (Err (BadPlan bad)) = TakesPlan command × IsRefused command source (BadPlan bad)
EndsIn command told source sink (Err (NotTraced line)) =
    IsTrace command × IsReadToEnd source × Does command told source (IsWritten sink 1) × OfTaken source (λ bytes. IsFoundBy command bytes (Some line))
EndsIn command told source sink (Err (BadReplies line reason)) = (command ≡ Some Reply) × IsRefused command source (BadReplies line reason)
EndsIn command told source sink (Err (BadNest line reason)) = (command ≡ Some Nest) × IsRefused command source (BadNest line reason)
