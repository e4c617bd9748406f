-- What a call gives: the entry that it makes, or why it makes none.
use Rattle.std.specs.Prelude.{◌≡◌, ◌≢◌, ◌≤◌, true, false, List, length, Some, None, Result, Ok, Err}
use Rattle.task_base.specs.Plan.{Plan}
use Rattle.task_base.specs.Entries.{next}
use Rattle.task_base.specs.declared.entry.Entry.{Entry}
use Rattle.task_base.specs.declared.entry.Kind.{Kind}
use Rattle.task_base.specs.declared.entry.Kind.TheVariants as kinds
use Rattle.task_model.specs.Blockers.{blockers_of}
use Rattle.task_model.specs.Jobs.{is_empty, may_enter}
use Rattle.task_model.specs.Phase.{phase_of}
use Rattle.task_model.specs.Seats.{inside}
use Rattle.task_model.specs.Sources.{best_of}
use Rattle.task_model.specs.Time.{now_of}
use Rattle.hist_model.specs.Moments.{moment_behind}
use Rattle.hist_model.specs.Open.{is_done}
use Rattle.pool_core.specs.Calls.{is_any_ready, running_tasks}
use Rattle.pool_core.specs.JobCalls.{joined_of}
use Rattle.live_core.specs.Calls.{fits, is_full, seat_of, task_of}
use Rattle.live_core.specs.StandsFor.{StandsFor}
use Rattle.live_core.specs.declared.call.Call.{Call}
use Rattle.live_core.specs.declared.call.Call.TheVariants as calls
use Rattle.live_core.specs.declared.live.LiveCore.{LiveCore}
use Rattle.live_core.specs.declared.unmade.Unmade.{Unmade}
use Rattle.live_core.specs.declared.unmade.Unmade.TheVariants.{Misuse, Full, Nothing, Over, NotYet as NotYetBy, Blocked}

-- the entry's kind is one that the call is for, with what the call names; a post has the task that it names, or else the one that is
-- handed out, and a tick the moment that the reading becomes. An item is taken by this call where a worker takes it: the driver's call names the
-- job. What else stands in it, the rules tell
abbrev pub IsMadeBy : Plan → List Entry → Call → Kind → Type 0
IsMadeBy plan past (calls.Post seat named r d) (kinds.Post task runner delay ok) = (task_of plan past named ≡ Some task) × (runner ≡ r) × (delay ≡ d)
IsMadeBy plan past (calls.Main seat named q d) (kinds.Main task queue delay ok) = (task_of plan past named ≡ Some task) × (queue ≡ q) × (delay ≡ d)
IsMadeBy plan past (calls.Tick reading) (kinds.Tick now) = now ≡ moment_behind (now_of past) reading
IsMadeBy plan past (calls.Take seat) (kinds.Take task runner found) = Unit {0}
IsMadeBy plan past (calls.Take seat) (kinds.JobTake job id item) = 1 ≤ seat
IsMadeBy plan past (calls.End seat) (kinds.End task left) = Unit {0}
IsMadeBy plan past (calls.Enter seat s) (kinds.Enter task scope) = scope ≡ s
IsMadeBy plan past (calls.Leave seat) (kinds.Leave task) = Unit {0}
IsMadeBy plan past (calls.Policy p) (kinds.Policy policy) = policy ≡ p
IsMadeBy plan past (calls.Reprio r p) (kinds.Reprio runner priority) = (runner ≡ r) × (priority ≡ p)
IsMadeBy plan past (calls.Fence q a) (kinds.Fence queue at) = (queue ≡ q) × (at ≡ a)
IsMadeBy plan past (calls.Unfence q) (kinds.Unfence queue) = queue ≡ q
IsMadeBy plan past (calls.Vote q v o) (kinds.Vote queue voter on) = (queue ≡ q) × (voter ≡ v) × (on ≡ o)
IsMadeBy plan past (calls.Rank q c) (kinds.Rank queue class) = (queue ≡ q) × (class ≡ c)
IsMadeBy plan past (calls.Close q) (kinds.Close queue) = queue ≡ q
IsMadeBy plan past calls.MainTake (kinds.MainTake task queue found) = Unit {0}
IsMadeBy plan past calls.MainTake kinds.MainNone = Unit {0}
IsMadeBy plan past calls.MainEnd (kinds.MainEnd task left) = Unit {0}
IsMadeBy plan past (calls.JobPost j) (kinds.JobPost job ok) = job ≡ j
IsMadeBy plan past (calls.JobTake j) (kinds.JobTake job id item) = job ≡ j
IsMadeBy plan past (calls.JobStep seat) (kinds.JobStep job id item value goes_on) = Unit {0}
IsMadeBy plan past (calls.JobCancel j) (kinds.JobCancel job) = job ≡ j
IsMadeBy plan past (calls.Cancelled j) (kinds.Cancelled job) = job ≡ j
IsMadeBy plan past (calls.Joined j) (kinds.Joined job reply) = job ≡ j
IsMadeBy plan past calls.Idle kinds.Idle = Unit {0}
IsMadeBy plan past calls.Shutdown kinds.Shutdown = Unit {0}
IsMadeBy plan past calls.Done kinds.Done = Unit {0}
IsMadeBy plan past call kind = ⊥

-- why a call that may be made makes no entry
abbrev pub LacksFor : Plan → List Entry → Call → Unmade → Type 0
-- shutdown is done
LacksFor plan past (calls.Take seat) Over = is_done (phase_of past) ≡ true
-- shutdown is not done, and the seat may take no source
LacksFor plan past (calls.Take seat) Nothing = (is_done (phase_of past) ≡ false) × (best_of plan past seat ≡ None)
-- the driver may not enter the job
LacksFor plan past (calls.JobTake job) Nothing = may_enter plan past job ≡ false
-- somebody is inside
LacksFor plan past (calls.Cancelled job) (NotYetBy not_yet) =
    (is_empty plan past job ≡ false) × (not_yet.running ≡ length (inside plan past job)) × (not_yet.ready ≡ false)
-- somebody is inside, or the job has no reply yet
LacksFor plan past (calls.Joined job) (NotYetBy not_yet) =
    (joined_of plan past job ≡ None) × (not_yet.running ≡ length (inside plan past job)) × (not_yet.ready ≡ may_enter plan past job)
-- a worker runs a task of the pool or is inside a job, or may take a source
LacksFor plan past calls.Idle (NotYetBy not_yet) =
    ((running_tasks plan past ≡ 0) × (is_any_ready plan past ≡ false) → ⊥)
    × (not_yet.running ≡ running_tasks plan past) × (not_yet.ready ≡ is_any_ready plan past)
-- something blocks shutdown
LacksFor plan past calls.Done (Blocked blocked) = (blocked.count ≢ 0) × (blocked.count ≡ blockers_of plan past)
LacksFor plan past call why = ⊥

-- the call may be made, and there is room for its entry
pub record MayBeMade (plan : Plan) (past : List Entry) (call : Call) : Type 0 where
  pub fit : fits plan past call ≡ true
  pub roomy : is_full plan past call ≡ false

-- the call has made this entry, and the core stands for the past with it, which is legal
pub record HasMade (plan : Plan) (past : List Entry) (call : Call) (after : LiveCore) (kind : Kind) : Type 0 where
  pub may : MayBeMade plan past call
  pub made : IsMadeBy plan past call kind
  pub stands : StandsFor plan (next past (seat_of call) kind) after

-- the call is a misuse, and nothing was changed
pub record IsMisused (plan : Plan) (past : List Entry) (call : Call) (before after : LiveCore) : Type 0 where
  pub unfit : fits plan past call ≡ false
  pub kept : after ≡ before

-- the call may be made but for room, and nothing was changed
pub record IsFull (plan : Plan) (past : List Entry) (call : Call) (before after : LiveCore) : Type 0 where
  pub fit : fits plan past call ≡ true
  pub full : is_full plan past call ≡ true
  pub kept : after ≡ before

-- the call may be made, but makes no entry: what it asks for has not come, and the core stands for the past as before
pub record HasNotMade (plan : Plan) (past : List Entry) (call : Call) (after : LiveCore) (why : Unmade) : Type 0 where
  pub may : MayBeMade plan past call
  pub lacks : LacksFor plan past call why
  pub stands : StandsFor plan past after

-- what a call gives
abbrev pub Gives : Plan → List Entry → Call → LiveCore → LiveCore → Result Kind Unmade → Type 0
Gives plan past call before after (Ok kind) = HasMade plan past call after kind
Gives plan past call before after (Err Misuse) = IsMisused plan past call before after
Gives plan past call before after (Err Full) = IsFull plan past call before after
Gives plan past call before after (Err why) = HasNotMade plan past call after why
