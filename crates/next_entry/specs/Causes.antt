-- Why an entry of a seat may not come, or what a seat has left to do.
use Rattle.std.specs.Prelude.{◌≡◌, ℕ, ◌<◌, ◌≤◌, Bool, true, false, not, ◌||◌, List, Option, Some, None}
use Rattle.std.specs.Option.{option_map}
use Rattle.list_laws.specs.Lists.{holds_of}
use Rattle.task_base.specs.Plan.{Plan}
use Rattle.task_base.specs.declared.entry.Entry.{Entry}
use Rattle.task_base.specs.declared.entry.Kind.{Kind}
use Rattle.task_base.specs.declared.entry.Kind.TheVariants as kinds
use Rattle.task_base.specs.Entries.{entry_by}
use Rattle.task_model.specs.Seats.{Holding, Running, holding, is_free, running}
use Rattle.hist_model.specs.Allowed.{IsAllowed}
use Rattle.env_step.specs.Steps.{IsFreeWorkers, WaitsFor}
use Rattle.env_step.specs.declared.wait.Wait.TheVariants as waits
use Rattle.next_entry.specs.Bars.{bar_of, is_room_for}
use Rattle.next_entry.specs.Ranks.{edge_of}
use Rattle.next_entry.specs.declared.cause.Bar.{Bar}
use Rattle.next_entry.specs.declared.cause.Bar.TheVariants as bars
use Rattle.next_entry.specs.declared.cause.Cause.{Cause}
use Rattle.next_entry.specs.declared.cause.Cause.TheVariants as causes

-- a task makes the entry, by its act steps or at its end, or a job, at the end of an item
abbrev pub is_of_work : Kind → Bool
is_of_work (kinds.Post task runner delay ok) = true
is_of_work (kinds.Main task queue delay ok) = true
is_of_work (kinds.End task left) = true
is_of_work (kinds.Enter task scope) = true
is_of_work (kinds.Leave task) = true
is_of_work (kinds.JobStep job id item value next) = true
is_of_work kind = false

-- the entry takes a source of the pool
abbrev pub takes_source : Kind → Bool
takes_source (kinds.Take task runner found) = true
takes_source (kinds.JobTake job id item) = true
takes_source kind = false

-- the driver alone makes the entry
abbrev pub is_drivers : Kind → Bool
is_drivers kind = not (is_of_work kind || takes_source kind)

-- the entry would be allowed after the past, as one of this seat
abbrev pub MayFollow : Plan → List Entry → ℕ → Kind → Type 0
MayFollow script past seat next = IsAllowed script past (entry_by seat next)

-- the seat runs this task
abbrev pub RunsTask : List Entry → ℕ → ℕ → Type 0
RunsTask past seat task = (w : Running) × (running past seat ≡ Some w) × (w.task ≡ task)

-- the seat holds an item of this job
abbrev pub HoldsItem : List Entry → ℕ → ℕ → Type 0
HoldsItem past seat job = (h : Holding) × (holding past seat ≡ Some h) × (h.job ≡ job)

-- this is against the take of the source that the entry takes; where it is the limits, they leave no room for it
pub record IsBarred (script : Plan) (past : List Entry) (seat : ℕ) (kind : Option Kind) (bar : Bar) : Type 0 where
  pub first : option_map (bar_of script past seat) kind ≡ Some bar
  pub no_room : bar ≡ bars.Limit → holds_of (is_room_for script past) kind ≡ false

-- the cause holds of an entry of this seat after the past; of the end of a log, where there is no kind of entry
abbrev pub Explains : Cause → Plan → List Entry → ℕ → Option Kind → Type 0
Explains causes.NoSeat script past seat kind = script.workers < seat
Explains causes.OnlyDriver script past seat kind = (1 ≤ seat) × (holds_of is_drivers kind ≡ true)
Explains causes.RunsNothing script past seat kind = IsFreeWorkers past seat × (holds_of is_of_work kind ≡ true)
Explains (causes.Runs task next) script past seat kind = RunsTask past seat task × MayFollow script past seat next
Explains (causes.Holds job next) script past seat kind = HoldsItem past seat job × MayFollow script past seat next
Explains (causes.Wants next) script past seat kind = (seat ≡ 0) × (is_free past seat ≡ true) × MayFollow script past seat next
Explains (causes.Best next edge) script past seat kind =
    IsFreeWorkers past seat × (takes_source next ≡ true) × MayFollow script past seat next
    × (option_map (edge_of script past next) kind ≡ Some edge)
Explains (causes.NoSource bar) script past seat kind = WaitsFor waits.NoSource script past seat × IsBarred script past seat kind bar
Explains causes.Finished script past seat kind = WaitsFor waits.Over script past seat
Explains (causes.NotIdle running ready) script past seat kind = WaitsFor (waits.NotIdle running ready) script past seat
Explains (causes.Inside job seats) script past seat kind = WaitsFor (waits.Inside job seats) script past seat
Explains (causes.Blocked count) script past seat kind = WaitsFor (waits.Blocked count) script past seat

-- the entry that a cause names
abbrev pub named_by : Cause → Option Kind
named_by (causes.Runs task next) = Some next
named_by (causes.Holds job next) = Some next
named_by (causes.Wants next) = Some next
named_by (causes.Best next edge) = Some next
named_by cause = None

-- the cause rules out that the seat makes an entry of this kind: all kinds, where there is no such seat, where nothing is left for
-- it, and where it waits; those that the driver alone makes, or that a task or an item makes, where the cause says that; and none
-- where the cause names an entry
abbrev pub rules_out : Cause → Kind → Bool
rules_out causes.NoSeat kind = true
rules_out causes.OnlyDriver kind = is_drivers kind
rules_out causes.RunsNothing kind = is_of_work kind
rules_out (causes.Runs task next) kind = false
rules_out (causes.Holds job next) kind = false
rules_out (causes.Wants next) kind = false
rules_out (causes.Best next edge) kind = false
rules_out cause kind = true
