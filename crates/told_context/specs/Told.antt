-- What is to be said of an illegal log besides why (this project's own rule).
use Rattle.std.specs.Prelude.{◌≡◌, ℕ, ◌+◌, ◌-◌, true, List, [], ◌++◌, All, IfSome, drop, map, slice_get, take, Option, Some, None, option_and_then}
use Rattle.std.specs.Option.{option_map, option_to_list}
use Rattle.task_base.specs.Plan.{Plan}
use Rattle.task_base.specs.declared.entry.Entry.{Entry}
use Rattle.hist_model.specs.Allowed.{IsAllowed}
use Rattle.next_entry.specs.Causes.{named_by}
use Rattle.next_entry.specs.declared.cause.Bar.{Bar}
use Rattle.next_entry.specs.declared.cause.Bar.TheVariants as bars
use Rattle.next_entry.specs.declared.cause.Cause.{Cause}
use Rattle.next_entry.specs.declared.cause.Cause.TheVariants as causes
use Rattle.next_entry.specs.declared.cause.Explanation.{Explanation}
use Rattle.next_entry.specs.declared.cause.Explanation.TheVariants as explanations
use Rattle.log_context.specs.Context.{at_work, context_of}
use Rattle.log_context.specs.declared.context.Waits.{Waits}
use Rattle.log_context.specs.declared.context.Waits.TheVariants as waits
use Rattle.log_context.specs.declared.fact.Fact.{Fact}
use Rattle.log_context.specs.declared.fact.Fact.TheVariants as facts
use Rattle.log_context.specs.declared.fact.Role.{Role}
use Rattle.log_context.specs.declared.fact.Role.TheVariants as roles
use Rattle.log_moves.specs.Moves.{IsAfter, IsBefore, after_of, before_of}
use Rattle.told_context.specs.Takers.{takers_of}
use Rattle.told_context.specs.declared.told.TheConstants.{FACTS_SHOWN}

-- what an entry waits for, by what is against its source
abbrev pub waits_by : Bar → Waits
waits_by bars.Full = waits.Work
waits_by bars.Limit = waits.Room
waits_by bar = waits.Nothing

-- what an entry waits for, by its cause
abbrev pub waits_for : Cause → Waits
waits_for (causes.NoSource bar) = waits_by bar
waits_for (causes.NotIdle running ready) = waits.Idle
waits_for (causes.Inside job seats) = waits.Work
waits_for (causes.Blocked count) = waits.Shutdown
waits_for cause = waits.Nothing

-- the entries by which seats may take what the driver waits for, where its cause is that something may be taken
abbrev pub takers_for : Plan → List Entry → Cause → List Entry
takers_for script past (causes.NotIdle running true) = takers_of script past
takers_for script past cause = []

-- in place of the entry at a place these may come
abbrev pub may_take : ℕ → List Entry → List Fact
may_take place takers = map (facts.MayTake place) takers

-- the entry at a place is this to the one that may not come
abbrev pub standing : Role → List Entry → ℕ → Option Fact
standing role log place = option_map (λ (e : Entry). facts.Stands role place e) (slice_get log place)

-- the entry would have been allowed before the one at this place
abbrev pub earlier : List Entry → Option ℕ → Option Fact
earlier log place = option_and_then (standing roles.Before log) place

-- the entry at a place would have been allowed after the one of those that follow it which has this number, from 0
abbrev pub later : List Entry → ℕ → Option ℕ → Option Fact
later log place count = option_and_then (λ n. standing roles.After log (place + 1 + n)) count

-- where else the entry at a place might have come: before an earlier entry, and after a later one, counted from the next
abbrev pub before_at : Plan → List Entry → ℕ → Entry → Option ℕ
before_at script log place e = before_of script (take place log) e

abbrev pub after_at : Plan → List Entry → ℕ → Entry → Option ℕ
after_at script log place e = after_of script (take place log) e (drop (place + 1) log)

-- what the past and the script have to do with an entry that may not come after it at the place, and what may be taken there
unfoldable pub known_at : Plan → List Entry → ℕ → Cause → Entry → List Fact
known_at script past place cause e = context_of script past e (named_by cause) (waits_for cause) ++ may_take place (takers_for script past cause)

-- the first of these facts; and where else the entry might have come
abbrev pub facts_at : Plan → List Entry → ℕ → Cause → Entry → List Fact
facts_at script log place cause e =
    (take (FACTS_SHOWN - 2) (known_at script (take place log) place cause e)
    ++ option_to_list (earlier log (before_at script log place e)))
    ++ option_to_list (later log place (after_at script log place e))

-- exactly these facts; an entry by which a seat may take is allowed there, and the entry is legal where it is said that it might have come
pub record IsContextOf (script : Plan) (log : List Entry) (place : ℕ) (cause : Cause) (e : Entry) (told : List Fact) : Type 0 where
  pub all : told ≡ facts_at script log place cause e
  pub may_take : All (IsAllowed script (take place log)) (takers_for script (take place log) cause)
  pub is_before : IfSome (before_at script log place e) (IsBefore script (take place log) e)
  pub is_after : IfSome (after_at script log place e) (IsAfter script (take place log) e (drop (place + 1) log))

-- the same, where there is an entry; else nothing
abbrev pub IsContextAt : Plan → List Entry → ℕ → Cause → Option Entry → List Fact → Type 0
IsContextAt script log place cause None told = told ≡ []
IsContextAt script log place cause (Some e) told = IsContextOf script log place cause e told

-- what is to be said of a log besides this; at its end, who is at work
abbrev pub IsContext : Plan → List Entry → Explanation → List Fact → Type 0
IsContext script log explanations.Legal told = told ≡ []
IsContext script log (explanations.Barred place cause) told = IsContextAt script log place cause (slice_get log place) told
IsContext script log (explanations.Unfinished place seat cause) told = told ≡ take FACTS_SHOWN (at_work log)
IsContext script log (explanations.AtWork place busy) told = told ≡ take FACTS_SHOWN (at_work log)
