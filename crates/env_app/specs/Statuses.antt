-- The statuses and the failures that a command ends with, each with its cause.
use Rattle.std.specs.Prelude.{◌≡◌, ◌≢◌, ◌⊎◌, ◌<◌, ◌≤◌, ℕ, length, Option, Some, None, IsSome}
use Rattle.task_base.specs.declared.limits.TheConstants.{MOST_BYTES}
use Rattle.task_base.specs.declared.fault.Fault.TheVariants.{NotLegal, BadScript}
use Rattle.command_line.specs.declared.words.Command.{Command}
use Rattle.command_line.specs.declared.words.Command.TheVariants.{Run, Simulate, Check, CheckOpen, Explain, ExplainOpen, Arrange, ArrangeOpen}
use Rattle.command_line.specs.declared.words.Command.TheVariants.{Reply, Trace, TraceOpen, Nest, Lint, Generate, Bench}
use Rattle.app_streams.specs.Ends.{Ends, Failed, IsSteady}
use Rattle.app_streams.specs.Taken.{IsReadToEnd, OfBytes, IsWithin, TookMore, TookWithin, OfTaken}
use Rattle.app_modes.specs.declared.failure.Failure.{Failure}
use Rattle.app_modes.specs.declared.failure.Failure.TheVariants.{Common, Linted, NoOrder, GaveUp, BadEvents, BadPlan, NotTraced, BadReplies, BadNest}
use Rattle.app_modes.specs.Failures.{failure_status}
use Rattle.command_line.specs.CommandLine.{IsArrange, IsJudge, IsLint, IsOpenJudge, IsTrace, TakesInput, TakesPlan, WritesVerdict}
use Rattle.app_modes.specs.Arranged.{HasBadEvents}
use Rattle.app_modes.specs.Outcome.{Does, IsFoundBy, IsRefused, IsWritten, IsCutOff, refusal_of}

-- the status says that the command did its work: 0, and 1 too where a log is judged, or an input, or an order is looked for; then also 8,
-- where the search gave up, and 3, where there are no events to be ordered
abbrev pub IsDone : Option Command → ℕ → Type 0
IsDone None status = status ≡ 0
IsDone (Some (Run step json shake)) status = status ≡ 0
IsDone (Some (Simulate seed favour step json)) status = status ≡ 0
IsDone (Some (Check prefix)) status = (status ≡ 0) ⊎ (status ≡ 1)
IsDone (Some (CheckOpen prefix)) status = (status ≡ 0) ⊎ (status ≡ 1)
IsDone (Some (Explain json prefix)) status = (status ≡ 0) ⊎ (status ≡ 1)
IsDone (Some (ExplainOpen json prefix)) status = (status ≡ 0) ⊎ (status ≡ 1)
IsDone (Some (Arrange prefix most)) status = (status ≡ 0) ⊎ (status ≡ 1) ⊎ (status ≡ 3) ⊎ (status ≡ 8)
IsDone (Some (ArrangeOpen prefix most)) status = (status ≡ 0) ⊎ (status ≡ 1) ⊎ (status ≡ 3) ⊎ (status ≡ 8)
IsDone (Some Reply) status = status ≡ 0
IsDone (Some (Trace full prefix)) status = (status ≡ 0) ⊎ (status ≡ 1)
IsDone (Some (TraceOpen full prefix)) status = (status ≡ 0) ⊎ (status ≡ 1)
IsDone (Some Nest) status = status ≡ 0
IsDone (Some (Lint input)) status = (status ≡ 0) ⊎ (status ≡ 1)
IsDone (Some (Generate number size wide)) status = status ≡ 0
IsDone (Some (Bench number size work)) status = status ≡ 0

-- the status is a verdict that is written: of a log that is not legal, of an input that is none, or that no order was found
abbrev pub IsVerdictOf : Option Command → ℕ → Type 0
IsVerdictOf command status =
    ((status ≡ 1) × (WritesVerdict command ⊎ IsLint command)) ⊎ (((status ≡ 1) ⊎ (status ≡ 8)) × IsArrange command)

-- each status has its cause
pub record HasCause (command : Option Command) (told : ℕ → Option ℕ) (source sink : Ends) (status : ℕ) : Type 0 where
  -- nothing above 8 is answered
  pub known : status ≤ 8
  -- 1 comes only where a log is judged, or an input, or an order is looked for
  pub judged : status ≡ 1 → IsJudge command ⊎ IsOpenJudge command ⊎ IsLint command ⊎ IsArrange command
  -- 8 comes only where an order is looked for, the source was read to its end, and the whole of what goes with it was written
  pub gave_up : status ≡ 8 → IsArrange command × IsReadToEnd source × Does command told source (IsWritten sink status)
  -- 2 comes only where the words are no command
  pub bad_words : status ≡ 2 → command ≡ None
  -- and where they are none, nothing but 2 and want of memory comes
  pub no_command : command ≡ None → (status ≡ 2) ⊎ (status ≡ 6)
  -- 3, 4 and 7 come only where the command reads the source
  pub of_input : (status ≡ 3) ⊎ (status ≡ 4) ⊎ (status ≡ 7) → TakesInput command
  -- where it does, the source was read to its end under 0, 1, 3 and 5
  pub read_to_end : TakesInput command → (status ≡ 0) ⊎ (status ≡ 1) ⊎ (status ≡ 3) ⊎ (status ≡ 5) → IsReadToEnd source
  -- under 0 and 1 the whole of what the command writes was written, and this status goes with it
  pub done : (status ≡ 0) ⊎ (status ≡ 1) → Does command told source (IsWritten sink status)
  -- 3 comes only where the bytes, within the limit, are refused
  -- or where an order is looked for of what are no events
  pub bad_input : status ≡ 3 → OfTaken source (λ bytes. IsSome (refusal_of command bytes)) ⊎ (IsArrange command × Does command told source (IsWritten sink 3))
  -- and where they are, nothing but 3, a failed source and want of memory comes
  pub refused : TakesInput command → OfBytes source (λ bytes. IsWithin bytes → IsSome (refusal_of command bytes) → (status ≡ 3) ⊎ (status ≡ 4) ⊎ (status ≡ 6))
  -- 4 comes only where the source failed
  pub read_fault : status ≡ 4 → Failed source
  -- 5 comes only where the sink failed, and a front of what the command writes was written
  pub write_fault : status ≡ 5 → Failed sink × Does command told source (IsCutOff sink)
  -- under every status but 4 the source did not fail once, and under every one but 5 the sink did not
  pub source_steady : status ≢ 4 → IsSteady source
  pub sink_steady : status ≢ 5 → IsSteady sink
  -- 7 comes only where more bytes came than the limit
  pub too_large : status ≡ 7 → OfBytes source (λ bytes. MOST_BYTES < length bytes)
  -- exactly where more bytes were taken than the limit
  pub took_more : status ≡ 7 → TookMore source
  pub took_within : status ≢ 7 → TookWithin source
  -- and where more came, nothing but 7, a failed source and want of memory comes
  pub large : TakesInput command → OfBytes source (λ bytes. MOST_BYTES < length bytes → (status ≡ 4) ⊎ (status ≡ 6) ⊎ (status ≡ 7))
  -- good input gives no fault: where it is not refused and neither side fails, the work is done, or memory is wanting
  pub good_input : TakesInput command → OfBytes source (λ bytes. IsWithin bytes → refusal_of command bytes ≡ None
      → ¬ Failed source → ¬ Failed sink → IsDone command status ⊎ (status ≡ 6))
  -- and so it is where no input is read
  pub no_input : IsSome command → ¬ TakesInput command → ¬ Failed sink → (status ≡ 0) ⊎ (status ≡ 6)

-- a failure of this kind ends commands of these modes
abbrev pub IsFailureOf : Option Command → Failure → Type 0
IsFailureOf command (Common (NotLegal line)) = WritesVerdict command
IsFailureOf command (Common (BadScript line reason)) = command ≢ Some Nest
IsFailureOf command (Common fault) = Unit {0}
IsFailureOf command Linted = IsLint command
IsFailureOf command NoOrder = IsArrange command
IsFailureOf command GaveUp = IsArrange command
IsFailureOf command (BadEvents bad) = IsArrange command
IsFailureOf command (BadPlan bad) = TakesPlan command
IsFailureOf command (NotTraced line) = IsTrace command
IsFailureOf command (BadReplies line reason) = command ≡ Some Reply
IsFailureOf command (BadNest line reason) = command ≡ Some Nest

-- the bytes that were taken are why a command ended with this failure: under 3 they are refused for it, and in `trace` under 1
-- their log is found wrong at its line
abbrev pub IsOfBytes : Option Command → Ends → Failure → Type 0
IsOfBytes command source (Common (BadScript line reason)) = IsRefused command source (Common (BadScript line reason))
IsOfBytes command source (Common fault) = Unit {0}
IsOfBytes command source Linted = Unit {0}
IsOfBytes command source NoOrder = Unit {0}
IsOfBytes command source GaveUp = Unit {0}
IsOfBytes command source (BadEvents bad) = OfTaken source (λ bytes. HasBadEvents bytes bad)
IsOfBytes command source (BadPlan bad) = IsRefused command source (BadPlan bad)
IsOfBytes command source (NotTraced line) = OfTaken source (λ bytes. IsFoundBy command bytes (Some line))
IsOfBytes command source (BadReplies line reason) = IsRefused command source (BadReplies line reason)
IsOfBytes command source (BadNest line reason) = IsRefused command source (BadNest line reason)

-- this failure ended a command with the status
pub record IsEnd (command : Option Command) (source : Ends) (status : ℕ) (failure : Failure) : Type 0 where
  pub status_is : status ≡ failure_status failure
  pub kind : IsFailureOf command failure
  pub of_bytes : IsOfBytes command source failure
