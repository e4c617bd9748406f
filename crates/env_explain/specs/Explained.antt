-- Why a log is not legal and whole.
use Rattle.std.specs.Prelude.{◌≡◌, ◌⊎◌, ℕ, ◌≤◌, true, false, List, [], ◌∷◌, length, map, slice_get, take, Option, Some, None, option_and_then}
use Rattle.std.specs.List.{filter_map, range_with_len}
use Rattle.std.specs.Option.{option_map, option_or}
use Rattle.task_base.specs.Plan.{Plan}
use Rattle.task_base.specs.declared.entry.Entry.{Entry}
use Rattle.task_base.specs.declared.entry.Kind.{Kind}
use Rattle.task_base.specs.Entries.{entry_by}
use Rattle.task_model.specs.Seats.{Holding, Running, all_seats, holding, is_free, running}
use Rattle.hist_model.specs.Allowed.{IsAllowed}
use Rattle.hist_model.specs.Script.{is_finished}
use Rattle.env_step.specs.Hands.{is_empty}
use Rattle.env_step.specs.declared.hand.Hand.{Hand}
use Rattle.env_step.specs.declared.hand.Hand.TheVariants.{Free, Task, Item}
use Rattle.next_entry.specs.Causes.{Explains, named_by, rules_out}
use Rattle.next_entry.specs.declared.cause.Busy.{Busy}
use Rattle.next_entry.specs.declared.cause.Cause.{Cause}
use Rattle.next_entry.specs.declared.cause.Cause.TheVariants as causes
use Rattle.next_entry.specs.declared.cause.Explanation.{Explanation}
use Rattle.next_entry.specs.declared.cause.Explanation.TheVariants as explanations
use Rattle.next_entry.specs.declared.cause.Work.{Work}
use Rattle.next_entry.specs.declared.cause.Work.TheVariants as works
use Rattle.env_check.specs.declared.verdict.Verdict.{Verdict}
use Rattle.env_check.specs.declared.verdict.Verdict.TheVariants as verdicts

-- the verdict that an explanation is of
abbrev pub verdict_told : Explanation → Verdict
verdict_told explanations.Legal = verdicts.Legal
verdict_told (explanations.Barred place cause) = verdicts.Illegal place
verdict_told (explanations.Unfinished place seat cause) = verdicts.Illegal place
verdict_told (explanations.AtWork place busy) = verdicts.Illegal place

-- the seat has something left to do: it runs or holds something, or it is the driver's and the script is not finished
abbrev pub HasMore : Plan → List Entry → ℕ → Type 0
HasMore script past seat = (is_free past seat ≡ false) ⊎ ((seat ≡ 0) × (is_finished script past ≡ false))

-- what a seat runs, or holds an item of
abbrev pub work_of : List Entry → ℕ → Option Work
work_of past seat = option_or (option_map (λ (w : Running). works.Task w.task) (running past seat))
    (option_map (λ (h : Holding). works.Item h.job) (holding past seat))

-- the seats that run or hold something, each with that
abbrev pub at_work : Plan → List Entry → List Busy
at_work script past = filter_map (λ seat. option_map (λ work. record { seat = seat; work = work }) (work_of past seat)) (all_seats script)

-- where the script is finished, this seat alone runs or holds something
abbrev pub IsOnlyOne : Plan → List Entry → ℕ → Type 0
IsOnlyOne script past seat = is_finished script past ≡ true → map (λ (b : Busy). b.seat) (at_work script past) ≡ seat ∷ []

-- what is said of the log holds: the cause that bars an entry of it, or what a seat has left to do at its end, which is the only
-- such seat where the script is finished, or that the script is finished, and which seats still run or hold something
abbrev pub IsExplained : Plan → List Entry → Explanation → Type 0
IsExplained script log explanations.Legal = Unit {0}
IsExplained script log (explanations.Barred place cause) =
    (e : Entry) × (slice_get log place ≡ Some e) × Explains cause script (take place log) e.seat (Some e.kind)
IsExplained script log (explanations.Unfinished place seat cause) =
    (place ≡ length log) × (seat ≤ script.workers) × HasMore script log seat × Explains cause script log seat None × IsOnlyOne script log seat
IsExplained script log (explanations.AtWork place busy) =
    (place ≡ length log) × (is_finished script log ≡ true) × (busy.items ≡ at_work script log) × (2 ≤ length busy.items)

-- nothing is said of what is left to be done at the log's end: it is legal, or an entry of it is barred
abbrev pub SaysNothingOfTheEnd : Explanation → Type 0
SaysNothingOfTheEnd explanations.Legal = Unit {0}
SaysNothingOfTheEnd (explanations.Barred place cause) = Unit {0}
SaysNothingOfTheEnd (explanations.Unfinished place seat cause) = ⊥
SaysNothingOfTheEnd (explanations.AtWork place busy) = ⊥

-- the entry that is named is allowed at the place at which the log is illegal
abbrev pub NamesAllowed : Plan → List Entry → Explanation → Type 0
NamesAllowed script log explanations.Legal = Unit {0}
NamesAllowed script log (explanations.Barred place cause) = (e : Entry) (next : Kind) → slice_get log place ≡ Some e → named_by cause ≡ Some next
    → IsAllowed script (take place log) (entry_by e.seat next)
NamesAllowed script log (explanations.Unfinished place seat cause) = (next : Kind) → named_by cause ≡ Some next
    → IsAllowed script log (entry_by seat next)
NamesAllowed script log (explanations.AtWork place busy) = Unit {0}

-- no entry that the cause rules out is allowed at the place at which the log is illegal
abbrev pub RulesOut : Plan → List Entry → Explanation → Type 0
RulesOut script log explanations.Legal = Unit {0}
RulesOut script log (explanations.Barred place cause) = (e : Entry) (kind : Kind) → slice_get log place ≡ Some e → rules_out cause kind ≡ true
    → ¬ IsAllowed script (take place log) (entry_by e.seat kind)
RulesOut script log (explanations.Unfinished place seat cause) = (kind : Kind) → rules_out cause kind ≡ true
    → ¬ IsAllowed script log (entry_by seat kind)
RulesOut script log (explanations.AtWork place busy) = Unit {0}

-- the seat has something in hand
abbrev pub HasInHand : List Hand → ℕ → Type 0
HasInHand hands seat = (hand : Hand) × (slice_get hands seat ≡ Some hand) × (is_empty hand ≡ false)

-- what a seat runs or holds that has this in hand
abbrev pub work_in : Hand → Option Work
work_in Free = None
work_in (Task at) = Some (works.Task at.work.task)
work_in (Item pass) = Some (works.Item pass.job)

-- the seat, if it has something in hand, with what it runs or holds
abbrev pub busy_at : List Hand → ℕ → Option Busy
busy_at hands seat = option_map (λ work. record { seat = seat; work = work }) (option_and_then work_in (slice_get hands seat))

-- the seats below a number that have something in hand
abbrev pub busy_below : List Hand → ℕ → List Busy
busy_below hands n = filter_map (busy_at hands) (range_with_len 0 n)

-- a seat that runs or holds this goes on by this entry, which the script wants where it does neither
abbrev pub goes_on : Option Work → Kind → Cause
goes_on None next = causes.Wants next
goes_on (Some (works.Task task)) next = causes.Runs task next
goes_on (Some (works.Item job)) next = causes.Holds job next
