-- The status of a failure that ends a command has its cause.
-- Cited by `run_words`.
use Rattle.std.proofs.Common.{rules, tests, ◌≡◌, ◌≢◌, ℕ, List, refl, subst, inl, inr, Option, Some, None}
use Rattle.std.specs.Prelude.{◌⊎◌}
use Rattle.std.specs.Prelude.{Result, Err}
use Rattle.task_base.specs.declared.fault.Fault.TheVariants.{NotLegal, BadWords, BadScript, ReadFault, WriteFault, NoMemory, TooLarge}
use Rattle.app_modes.specs.declared.failure.Failure.{Failure}
use Rattle.app_modes.specs.declared.failure.Failure.TheVariants.{Common, Linted, NoOrder, GaveUp, BadEvents, BadPlan, NotTraced, BadReplies, BadNest}
use Rattle.command_line.specs.declared.words.Command.{Command}
use Rattle.command_line.specs.declared.words.Command.TheVariants.{Run, Simulate, Check, CheckOpen, Explain, ExplainOpen, Arrange, ArrangeOpen}
use Rattle.command_line.specs.declared.words.Command.TheVariants.{Reply, Trace, TraceOpen, Nest, Lint}
use Rattle.command_line.specs.CommandLine.{IsArrange, IsJudge, IsLint, IsOpenJudge, IsTrace, TakesInput, TakesPlan, WritesVerdict, takes_prefix}
use Rattle.app_modes.specs.Failures.{failure_status}
use Rattle.app_streams.specs.Ends.{Ends, IsSteady}
use Rattle.app_streams.specs.Taken.{IsWithin, OfBytes, OfTaken, TookAll, TookMore, TookWithin}
use Rattle.app_modes.specs.Outcome.{Does, EndsIn, IsWritten, refusal_of}
use Rattle.env_app.specs.Statuses.{HasCause, IsDone}
use Rattle.env_app.proofs.LegalLogs.{SaysLegal, check_says, explain_says, trace_says}
use Rattle.env_app.proofs.OpenLogs.{SaysLegalOpen, check_open_says, explain_open_says, trace_open_says}

-- ---- what a command does

-- what is known of a command that judges a log, or an input
record IsOfJudge (command : Option Command) : Type 0 where
  -- 1 says that it did its work
  pub done : IsDone command 1
  pub takes : TakesInput command

of_lint : (command : Option Command) → IsLint command → IsOfJudge command
of_lint (Some (Lint input)) lints = record { done = inr refl; takes = tt }
of_lint command lints = absurd lints

-- what is known of a command that looks for an order
record IsOfArrange (command : Option Command) : Type 0 where
  -- 1, 3 and 8 say that it did its work
  pub none : IsDone command 1
  pub bad : IsDone command 3
  pub gave_up : IsDone command 8
  pub takes : TakesInput command

of_arrange : (command : Option Command) → IsArrange command → IsOfArrange command
of_arrange (Some (Arrange prefix most)) arranges = record { none = inr (inl refl); bad = inr (inr (inl refl)); gave_up = inr (inr (inr refl)); takes = tt }
of_arrange (Some (ArrangeOpen prefix most)) arranges =
    record { none = inr (inl refl); bad = inr (inr (inl refl)); gave_up = inr (inr (inr refl)); takes = tt }
of_arrange command arranges = absurd arranges

-- and of one that writes its verdict on a log
record IsOfVerdict (command : Option Command) : Type 0 where
  judges : IsJudge command ⊎ (IsOpenJudge command ⊎ (IsLint command ⊎ IsArrange command))
  of : IsOfJudge command

of_verdict : (command : Option Command) → WritesVerdict command → IsOfVerdict command
of_verdict (Some (Check prefix)) writes = record { judges = inl tt; of = record { done = inr refl; takes = tt } }
of_verdict (Some (CheckOpen prefix)) writes = record { judges = inr (inl tt); of = record { done = inr refl; takes = tt } }
of_verdict (Some (Explain json prefix)) writes = record { judges = inl tt; of = record { done = inr refl; takes = tt } }
of_verdict (Some (ExplainOpen json prefix)) writes = record { judges = inr (inl tt); of = record { done = inr refl; takes = tt } }
of_verdict command writes = absurd writes

of_trace : (command : Option Command) → IsTrace command → IsOfVerdict command
of_trace (Some (Trace full prefix)) traces = record { judges = inl tt; of = record { done = inr refl; takes = tt } }
of_trace (Some (TraceOpen full prefix)) traces = record { judges = inr (inl tt); of = record { done = inr refl; takes = tt } }
of_trace command traces = absurd traces

plan_takes : (command : Option Command) → TakesPlan command → TakesInput command
plan_takes (Some (CheckOpen prefix)) takes = tt
plan_takes (Some (ExplainOpen json prefix)) takes = tt
plan_takes (Some (ArrangeOpen prefix most)) takes = tt
plan_takes (Some (TraceOpen full prefix)) takes = tt
plan_takes command takes = absurd takes

-- a command that reads the source does what it does with bytes, within the limit, that are not refused
record IsTaken (command : Option Command) (bytes : List ℕ) : Type 0 where
  pub within : IsWithin bytes
  pub accepted : refusal_of command bytes ≡ None

of_told : (command : Option Command) (source : Ends) (bytes : List ℕ) → TookAll source bytes → refusal_of command bytes ≡ None
    → OfBytes source (IsTaken command)
of_told command source bytes took accepted told is =
    subst (IsTaken command) (took.all told is) (record { within = took.within; accepted = accepted })

taken : (Holds : ℕ → List ℕ → Type 0) (command : Option Command) (told : ℕ → Option ℕ) (source : Ends) → TakesInput command → Does command told source Holds
    → OfBytes source (IsTaken command)
taken Holds (Some (Run step json shake)) told source takes does =
    of_told (Some (Run step json shake)) source does.bytes does.took (rw does.holds.reads refl)
taken Holds (Some (Simulate seed favour step json)) told source takes does =
    of_told (Some (Simulate seed favour step json)) source does.bytes does.took (rw does.holds.reads refl)
taken Holds (Some (Check prefix)) told source takes does = of_told (Some (Check prefix)) source does.bytes does.took (rw does.holds.reads refl)
taken Holds (Some (CheckOpen prefix)) told source takes does =
    of_told (Some (CheckOpen prefix)) source does.bytes does.took (rw (does.holds.reads, does.holds.plan) refl)
taken Holds (Some (Explain json prefix)) told source takes does = of_told (Some (Explain json prefix)) source does.bytes does.took (rw does.holds.reads refl)
taken Holds (Some (ExplainOpen json prefix)) told source takes does =
    of_told (Some (ExplainOpen json prefix)) source does.bytes does.took (rw (does.holds.reads, does.holds.plan) refl)
taken Holds (Some (Arrange prefix most)) told source takes does =
    of_told (Some (Arrange prefix most)) source does.bytes does.took (rw does.holds.reads refl)
taken Holds (Some (ArrangeOpen prefix most)) told source takes does =
    of_told (Some (ArrangeOpen prefix most)) source does.bytes does.took (rw (does.holds.reads, does.holds.plan) refl)
taken Holds (Some Reply) told source takes does =
    of_told (Some Reply) source does.bytes does.took (rw (does.holds.reads, does.holds.elaborates.said) refl)
taken Holds (Some (Trace full prefix)) told source takes does = of_told (Some (Trace full prefix)) source does.bytes does.took (rw does.holds.found.reads refl)
taken Holds (Some (TraceOpen full prefix)) told source takes does =
    of_told (Some (TraceOpen full prefix)) source does.bytes does.took (rw (does.holds.found.reads, does.holds.found.plan) refl)
taken Holds (Some Nest) told source takes does = of_told (Some Nest) source does.bytes does.took (rw does.holds.reads refl)
taken Holds (Some (Lint input)) told source takes does = of_told (Some (Lint input)) source does.bytes does.took refl
taken Holds command told source takes does = absurd takes

-- ---- the causes

abbrev ended : Failure → Result (Unit {0}) Failure
ended failure = Err failure

pub cause_of_failure : (command : Option Command) (told : ℕ → Option ℕ) (source sink : Ends) (failure : Failure) → EndsIn command told source sink (Err failure)
    → (ended failure ≢ ended (Common ReadFault) → IsSteady source) → (ended failure ≢ ended (Common WriteFault) → IsSteady sink)
    → (ended failure ≡ ended (Common TooLarge) → TookMore source) → (ended failure ≢ ended (Common TooLarge) → TookWithin source)
    → HasCause command told source sink (failure_status failure)
cause_of_failure command told source sink (NotTraced line) runs source_steady sink_steady more within =
    let verdict = of_trace command runs.0 in let judges = verdict.judges in let of = verdict.of in
    let bytes = taken _ command told source of.takes runs.2 in search (rules, tests)
cause_of_failure command told source sink Linted runs source_steady sink_steady more within =
    let of = of_lint command runs.0 in let bytes = taken _ command told source of.takes runs.2 in search (rules, tests)
cause_of_failure command told source sink NoOrder runs source_steady sink_steady more within =
    let of = of_arrange command runs.0 in let bytes = taken _ command told source of.takes runs.2 in search (rules, tests)
cause_of_failure command told source sink GaveUp runs source_steady sink_steady more within =
    let of = of_arrange command runs.0 in let bytes = taken _ command told source of.takes runs.2 in search (rules, tests)
cause_of_failure command told source sink (BadEvents bad) runs source_steady sink_steady more within =
    let of = of_arrange command runs.0 in let bytes = taken _ command told source of.takes runs.2 in search (rules, tests)
cause_of_failure command told source sink (Common (NotLegal line)) runs source_steady sink_steady more within =
    let verdict = of_verdict command runs.0 in let judges = verdict.judges in let of = verdict.of in
    let bytes = taken _ command told source of.takes runs.2 in search (rules, tests)
cause_of_failure command told source sink (BadPlan bad) runs source_steady sink_steady more within =
    let takes = plan_takes command runs.0 in search (rules, tests)
cause_of_failure command told source sink (BadReplies line reason) runs source_steady sink_steady more within = search (rules, tests)
cause_of_failure command told source sink (BadNest line reason) runs source_steady sink_steady more within = search (rules, tests)
cause_of_failure command told source sink (Common (BadScript line reason)) runs source_steady sink_steady more within = search (rules, tests)
cause_of_failure command told source sink (Common BadWords) runs source_steady sink_steady more within = search (rules, tests)
cause_of_failure command told source sink (Common ReadFault) runs source_steady sink_steady more within = search (rules, tests)
cause_of_failure command told source sink (Common WriteFault) runs source_steady sink_steady more within = search (rules, tests)
cause_of_failure command told source sink (Common (NoMemory error)) runs source_steady sink_steady more within = search (rules, tests)
cause_of_failure command told source sink (Common TooLarge) runs source_steady sink_steady more within = search (rules, tests)

-- ---- what holds under 0 and 1

-- the status of a command that judges a log says whether it is legal
pub judge_says : (command : Option Command) (told : ℕ → Option ℕ) (source sink : Ends) (status : ℕ) → Does command told source (IsWritten sink status)
    → IsJudge command → OfTaken source (λ bytes. SaysLegal (takes_prefix command) bytes status)
judge_says (Some (Check prefix)) told source sink status does judges =
    record { bytes = does.bytes; took = does.took; holds = check_says prefix does.bytes sink status does.holds }
judge_says (Some (Explain json prefix)) told source sink status does judges =
    record { bytes = does.bytes; took = does.took; holds = explain_says json prefix does.bytes sink status does.holds }
judge_says (Some (Trace full prefix)) told source sink status does judges =
    record { bytes = does.bytes; took = does.took; holds = trace_says full prefix does.bytes sink status does.holds }
judge_says command told source sink status does judges = absurd judges

-- and so that of one that judges a log of an open plan
pub open_judge_says : (command : Option Command) (told : ℕ → Option ℕ) (source sink : Ends) (status : ℕ) → Does command told source (IsWritten sink status)
    → IsOpenJudge command → OfTaken source (λ bytes. SaysLegalOpen (takes_prefix command) bytes status)
open_judge_says (Some (CheckOpen prefix)) told source sink status does judges =
    record { bytes = does.bytes; took = does.took; holds = check_open_says prefix does.bytes sink status does.holds }
open_judge_says (Some (ExplainOpen json prefix)) told source sink status does judges =
    record { bytes = does.bytes; took = does.took; holds = explain_open_says json prefix does.bytes sink status does.holds }
open_judge_says (Some (TraceOpen full prefix)) told source sink status does judges =
    record { bytes = does.bytes; took = does.took; holds = trace_open_says full prefix does.bytes sink status does.holds }
open_judge_says command told source sink status does judges = absurd judges
