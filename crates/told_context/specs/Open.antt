-- What is to be said of an illegal log of an open plan besides why (this project's own rule).
use Rattle.std.specs.Prelude.{ℕ, List, [], slice_get, take, Option, Some, None}
use Rattle.task_base.specs.Plan.{Plan}
use Rattle.task_base.specs.declared.entry.Entry.{Entry}
use Rattle.next_entry.specs.declared.open_cause.OpenCause.{OpenCause}
use Rattle.next_entry.specs.declared.open_cause.OpenCause.TheVariants as causes
use Rattle.next_entry.specs.declared.open_cause.OpenTold.{OpenTold}
use Rattle.next_entry.specs.declared.open_cause.OpenTold.TheVariants as told
use Rattle.log_context.specs.Context.{at_work, context_of}
use Rattle.log_context.specs.declared.context.Waits.{Waits}
use Rattle.log_context.specs.declared.context.Waits.TheVariants as waits
use Rattle.log_context.specs.declared.fact.Fact.{Fact}
use Rattle.open_explain.specs.Told.{named_by}
use Rattle.told_context.specs.Told.{waits_by}
use Rattle.told_context.specs.declared.told.TheConstants.{FACTS_SHOWN}

-- what an entry waits for, by its cause
abbrev pub open_waits_for : OpenCause → Waits
open_waits_for (causes.NoSource bar) = waits_by bar
open_waits_for (causes.NotIdle running ready) = waits.Idle
open_waits_for (causes.Inside job seats) = waits.Work
open_waits_for (causes.Blocked count) = waits.Shutdown
open_waits_for cause = waits.Nothing

-- what the past and the script have to do with the entry at a place, which may not come there for this cause; nothing where there is none
abbrev pub open_facts_at : Plan → List Entry → ℕ → OpenCause → Option Entry → List Fact
open_facts_at script log place cause None = []
open_facts_at script log place cause (Some e) =
    take FACTS_SHOWN (context_of script (take place log) e (named_by cause) (open_waits_for cause))

-- what is to be said of a log besides this; at its end, who is at work
abbrev pub open_facts_of : Plan → List Entry → OpenTold → List Fact
open_facts_of script log told.Legal = []
open_facts_of script log (told.Barred place cause) = open_facts_at script log place cause (slice_get log place)
open_facts_of script log (told.AtWork place busy) = take FACTS_SHOWN (at_work log)
