-- Why a log of an open plan is illegal (this project's own rule).
use Rattle.std.specs.Prelude.{◌≡◌, ◌≢◌, ◌⊎◌, ℕ, ◌<◌, ◌≤◌, true, false, List, length, slice_get, take, Option, Some, None}
use Rattle.task_base.specs.Entries.{entry_by}
use Rattle.task_base.specs.Plan.{Plan}
use Rattle.task_base.specs.declared.entry.Entry.{Entry}
use Rattle.task_base.specs.declared.entry.Kind.{Kind}
use Rattle.task_model.specs.Jobs.{is_empty}
use Rattle.task_model.specs.Seats.{inside}
use Rattle.hist_model.specs.Allowed.{IsAllowed}
use Rattle.pool_core.specs.JobCalls.{joined_of}
use Rattle.live_core.specs.Answers.{IsMadeBy, LacksFor}
use Rattle.live_core.specs.Calls.{call_of}
use Rattle.live_core.specs.declared.call.Call.{Call}
use Rattle.live_core.specs.declared.call.Call.TheVariants as calls
use Rattle.live_core.specs.declared.unmade.Unmade.TheVariants as unmade
use Rattle.env_check.specs.declared.verdict.Verdict.{Verdict}
use Rattle.env_check.specs.declared.verdict.Verdict.TheVariants as verdicts
use Rattle.env_explain.specs.Explained.{at_work}
use Rattle.next_entry.specs.Causes.{IsBarred, is_drivers}
use Rattle.next_entry.specs.Ranks.{edge_of}
use Rattle.next_entry.specs.declared.open_cause.OpenCause.{OpenCause}
use Rattle.next_entry.specs.declared.open_cause.OpenCause.TheVariants as causes
use Rattle.next_entry.specs.declared.open_cause.OpenTold.{OpenTold}
use Rattle.next_entry.specs.declared.open_cause.OpenTold.TheVariants as told
use Rattle.open_check.specs.Following.{IsOwnCall}
use Rattle.open_explain.specs.Parts.{part_of}

-- the verdict that is told
abbrev pub verdict_told : OpenTold → Verdict
verdict_told told.Legal = verdicts.Legal
verdict_told (told.Barred place cause) = verdicts.Illegal place
verdict_told (told.AtWork place busy) = verdicts.Illegal place

-- the call makes this entry in place of another, and it may come there
abbrev pub IsInPlace : Plan → List Entry → Entry → Kind → Type 0
IsInPlace plan past e next = IsMadeBy plan past (call_of e.seat e.kind) next × IsAllowed plan past (entry_by e.seat next)

-- the driver waits for this job: it has cancelled it, and somebody is inside; or it joins it, and somebody is inside, or there is no reply yet
abbrev pub WaitsForJob : Plan → List Entry → Call → ℕ → Type 0
WaitsForJob plan past call job =
    ((call ≡ calls.Cancelled job) × (is_empty plan past job ≡ false)) ⊎ ((call ≡ calls.Joined job) × (joined_of plan past job ≡ None))

-- the cause holds of an entry of one of the plan's seats, whose call this is, and is its own
abbrev pub BarsCall : OpenCause → Plan → List Entry → Entry → Call → Type 0
-- the call makes another entry; where the seat asks for work, that takes its best source
BarsCall (causes.Makes next) plan past e call = IsInPlace plan past e next
BarsCall (causes.Best next edge) plan past e call = (call ≡ calls.Take e.seat) × IsInPlace plan past e next × (edge ≡ edge_of plan past next e.kind)
-- the call lacks what it asks for
BarsCall (causes.NoSource bar) plan past e call = LacksFor plan past call unmade.Nothing × IsBarred plan past e.seat (Some e.kind) bar
BarsCall causes.Over plan past e call = LacksFor plan past call unmade.Over
BarsCall (causes.NotIdle running ready) plan past e call =
    (call ≡ calls.Idle) × LacksFor plan past call (unmade.NotYet (record { running = running; ready = ready }))
BarsCall (causes.Inside job seats) plan past e call = WaitsForJob plan past call job × (seats ≡ length (inside plan past job))
BarsCall (causes.Blocked count) plan past e call = LacksFor plan past call (unmade.Blocked (record { count = count }))
-- the seat may not make the call, and this is the first thing that fails
BarsCall (causes.Unfit part) plan past e call = part_of plan past e.seat e.kind ≡ Some part
BarsCall cause plan past e call = ⊥

-- there is the seat of the entry, the call that the entry is of is its own, and gives this
pub record IsBarredByCall (cause : OpenCause) (plan : Plan) (past : List Entry) (e : Entry) : Type 0 where
  pub there : e.seat ≤ plan.workers
  pub own : IsOwnCall e
  pub is : BarsCall cause plan past e (call_of e.seat e.kind)

-- the cause holds of an entry after the past: there is no such seat; the driver alone makes such an entry, and the seat is another; or
-- there is the seat, and the call that the entry is of gives this
abbrev pub Bars : OpenCause → Plan → List Entry → Entry → Type 0
Bars causes.NoSeat plan past e = plan.workers < e.seat
Bars causes.OnlyDriver plan past e = (1 ≤ e.seat) × (is_drivers e.kind ≡ true)
Bars cause plan past e = IsBarredByCall cause plan past e

-- what is told of the log holds: the cause that bars an entry of it, or who is at work at its end
abbrev pub IsTold : Plan → List Entry → OpenTold → Type 0
IsTold plan log told.Legal = Unit {0}
IsTold plan log (told.Barred place cause) = (e : Entry) × (slice_get log place ≡ Some e) × Bars cause plan (take place log) e
IsTold plan log (told.AtWork place busy) = (place ≡ length log) × (busy.items ≡ at_work plan log) × (1 ≤ length busy.items)

-- nothing is told of the log's end
abbrev pub SaysNothingOfTheEnd : OpenTold → Type 0
SaysNothingOfTheEnd (told.AtWork place busy) = ⊥
SaysNothingOfTheEnd other = Unit {0}

-- the entry that a cause names
abbrev pub named_by : OpenCause → Option Kind
named_by (causes.Makes next) = Some next
named_by (causes.Best next edge) = Some next
named_by cause = None

-- the entry that is named is allowed at the place at which the log is illegal
abbrev pub NamesAllowed : Plan → List Entry → OpenTold → Type 0
NamesAllowed plan log (told.Barred place cause) = (e : Entry) (next : Kind) → slice_get log place ≡ Some e → named_by cause ≡ Some next
    → IsAllowed plan (take place log) (entry_by e.seat next)
NamesAllowed plan log other = Unit {0}

-- the cause rules out that the seat makes an entry of this kind: all kinds, where there is no such seat; those that the driver alone
-- makes, where the cause says that; and else all that the call is for, but the one that is named
abbrev pub RulesOutKind : OpenCause → Plan → List Entry → Entry → Kind → Type 0
RulesOutKind causes.NoSeat plan past e kind = Unit {0}
RulesOutKind causes.OnlyDriver plan past e kind = is_drivers kind ≡ true
RulesOutKind (causes.Makes next) plan past e kind = IsMadeBy plan past (call_of e.seat e.kind) kind × (kind ≢ next)
RulesOutKind (causes.Best next edge) plan past e kind = IsMadeBy plan past (call_of e.seat e.kind) kind × (kind ≢ next)
RulesOutKind cause plan past e kind = IsMadeBy plan past (call_of e.seat e.kind) kind

-- no entry that the cause rules out is allowed at the place at which the log is illegal
abbrev pub RulesOut : Plan → List Entry → OpenTold → Type 0
RulesOut plan log (told.Barred place cause) = (e : Entry) (kind : Kind) → slice_get log place ≡ Some e → RulesOutKind cause plan (take place log) e kind
    → ¬ IsAllowed plan (take place log) (entry_by e.seat kind)
RulesOut plan log other = Unit {0}
