-- What one step of a seat enters, and what a seat waits for.
use Rattle.std.specs.Prelude.{◌≡◌, ◌⊎◌, ℕ, ◌≤◌, true, false, List, length, Some, None, Result, Ok, Err}
use Rattle.std.specs.Option.{option_map}
use Rattle.task_base.specs.Plan.{Plan}
use Rattle.task_base.specs.declared.entry.Entry.{Entry}
use Rattle.task_base.specs.declared.entry.Kind.{Kind}
use Rattle.task_base.specs.declared.entry.Kind.TheVariants as kinds
use Rattle.task_base.specs.declared.script.Action.{Action}
use Rattle.task_base.specs.declared.script.Action.TheVariants as actions
use Rattle.task_model.specs.Blockers.{blockers_of}
use Rattle.task_model.specs.Seats.{inside, is_free}
use Rattle.task_model.specs.Sources.{best_of}
use Rattle.task_model.specs.Time.{now_of}
use Rattle.hist_model.specs.Allowed.{may_come}
use Rattle.hist_model.specs.Moments.{moment_behind}
use Rattle.hist_model.specs.Open.{IsClosed}
use Rattle.hist_model.specs.Script.{Current, current, is_finished}
use Rattle.hist_model.specs.Views.{own_entries}
use Rattle.pool_core.specs.Calls.{running_tasks, is_any_ready}
use Rattle.env_core.specs.Views.{EnvView, Enters}
use Rattle.env_core.specs.Waits.{may_go_on}
use Rattle.env_step.specs.Hands.{IsInHand}
use Rattle.env_step.specs.declared.hand.Hand.{Hand}
use Rattle.env_step.specs.declared.wait.Wait.{Wait}
use Rattle.env_step.specs.declared.wait.Wait.TheVariants as waits

-- the seat is a worker's, which runs no task and holds no item
abbrev pub IsFreeWorkers : List Entry → ℕ → Type 0
IsFreeWorkers past seat = (1 ≤ seat) × (is_free past seat ≡ true)

-- the plan is closed; the seat is the driver's, which runs no task and holds no item and is at this action of the script
pub record IsAtAction (script : Plan) (past : List Entry) (seat : ℕ) (action : Action) : Type 0 where
  pub closed : IsClosed script
  pub driver : seat ≡ 0
  pub free : is_free past 0 ≡ true
  pub action_is : option_map (λ (c : Current). c.action) (current script (own_entries 0 past)) ≡ Some action

-- the driver waits at this action: what the action waits for has not come
pub record WaitsAt (script : Plan) (past : List Entry) (seat : ℕ) (action : Action) : Type 0 where
  pub at : IsAtAction script past seat action
  pub waits : may_go_on script past ≡ false

-- the seat waits for this after the past
abbrev pub WaitsFor : Wait → Plan → List Entry → ℕ → Type 0
WaitsFor waits.Over script past seat = (is_free past seat ≡ true) × (is_finished script past ≡ true)
WaitsFor waits.NoSource script past seat =
    IsFreeWorkers past seat × (is_finished script past ≡ false) × (best_of script past seat ≡ None)
WaitsFor (waits.NotIdle running ready) script past seat =
    WaitsAt script past seat actions.Flush × (running ≡ running_tasks script past) × (ready ≡ is_any_ready script past)
    × ((1 ≤ running) ⊎ (ready ≡ true))
WaitsFor (waits.Inside job seats) script past seat =
    (WaitsAt script past seat (actions.Cancel job) ⊎ WaitsAt script past seat (actions.Join job))
    × (seats ≡ length (inside script past job)) × (1 ≤ seats)
WaitsFor (waits.Blocked count) script past seat =
    WaitsAt script past seat actions.Shutdown × (count ≡ blockers_of script past) × (1 ≤ count)

-- the rules allow no entry of the seat
abbrev pub MayEnterNothing : EnvView → ℕ → Type 0
MayEnterNothing view seat = (kind : Kind) → may_come view.script view.history seat kind ≡ false

-- a tick has the moment that the reading becomes
abbrev pub IsOfReading : List Entry → ℕ → Kind → Type 0
IsOfReading past reading (kinds.Tick now) = now ≡ moment_behind (now_of past) reading
IsOfReading past reading kind = Unit {0}

-- a step of the seat: it made this entry, which the rules allow, and nothing else; or they allow none, nothing changed, and the
-- seat waits for this
abbrev pub Steps : EnvView → EnvView → ℕ → ℕ → Result Kind Wait → Type 0
Steps before after seat reading (Ok kind) = Enters before after seat kind × IsOfReading before.history reading kind
Steps before after seat reading (Err wait) = (after ≡ before) × MayEnterNothing before seat × WaitsFor wait before.script before.history seat

-- a step of the seat, behind which it has this in hand
pub record IsStep (before after : EnvView) (seat reading : ℕ) (hand : Hand) (answer : Result Kind Wait) : Type 0 where
  pub in_hand : IsInHand after seat hand
  pub steps : Steps before after seat reading answer
