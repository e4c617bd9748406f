-- What every legal past gives about tasks and seats.
use Rattle.std.specs.Prelude.{◌≡◌, ℕ, ◌<◌, ◌≤◌, Bool, true, false, List, Some}
use Rattle.task_base.specs.Plan.{Plan}
use Rattle.task_base.specs.declared.entry.Entry.{Entry}
use Rattle.task_base.specs.declared.script.Action.{Action}
use Rattle.task_base.specs.declared.script.Action.TheVariants as actions
use Rattle.task_model.specs.Seats.{Running, Holding, running, holding}
use Rattle.task_model.specs.Jobs.{claimed}
use Rattle.pool_laws.specs.Runs.{RunsSingly}
use Rattle.hist_model.specs.Views.{own_entries}
use Rattle.hist_model.specs.Open.{IsClosed}
use Rattle.hist_model.specs.Script.{Current, current}

-- of the pool, and of the main queues: a task that has ended was taken; what a seat runs was accepted and taken, and has not
-- ended; no two seats run one task, or tasks of one sequence
abbrev pub IsConsistent : Plan → List Entry → Type 0
IsConsistent script past = (main : Bool) → RunsSingly script past main

-- one seat runs this task of the pool, a worker, and no other seat does
pub record RunsAtOneSeat (script : Plan) (past : List Entry) (t : ℕ) : Type 0 where
  pub seat : ℕ
  pub now : Running
  pub running_is : running past seat ≡ Some now
  pub is_pool : now.is_main ≡ false
  pub task_is : now.task ≡ t
  pub worker : 1 ≤ seat
  pub known : seat ≤ script.workers
  pub alone : (other : ℕ) (w : Running) → running past other ≡ Some w → w.is_main ≡ false → w.task ≡ t → other ≡ seat

-- the driver runs this main task, and no other seat does
pub record RunsAtDriver (past : List Entry) (t : ℕ) : Type 0 where
  pub now : Running
  pub running_is : running past 0 ≡ Some now
  pub is_main : now.is_main ≡ true
  pub task_is : now.task ≡ t
  pub alone : (other : ℕ) (w : Running) → running past other ≡ Some w → w.is_main ≡ true → w.task ≡ t → other ≡ 0

-- who holds an item is a seat of the script, and the item was claimed; no two seats hold one item of a job, or one number
-- in it
pub record HoldsApart (script : Plan) (past : List Entry) : Type 0 where
  pub known : (seat : ℕ) (h : Holding) → holding past seat ≡ Some h → seat ≤ script.workers
  pub is_claimed : (seat : ℕ) (h : Holding) → holding past seat ≡ Some h → h.item < claimed past h.job
  pub one_number : (a b : ℕ) (h k : Holding) → holding past a ≡ Some h → holding past b ≡ Some k → h.job ≡ k.job → h.id ≡ k.id → a ≡ b
  pub one_item : (a b : ℕ) (h k : Holding) → holding past a ≡ Some h → holding past b ≡ Some k → h.job ≡ k.job → h.item ≡ k.item → a ≡ b

-- the action runs main tasks
abbrev pub is_pump : Action → Bool
is_pump (actions.Pump count) = true
is_pump action = false

-- the action joins a job
abbrev pub is_join : Action → Bool
is_join (actions.Join job) = true
is_join action = false

-- while the driver of a closed plan runs a main task it is at a pump, and while it holds an item at a join; no seat runs
-- a task and holds an item at once
pub record DoesOneThing (script : Plan) (past : List Entry) : Type 0 where
  pub pumps : IsClosed script → (w : Running) → running past 0 ≡ Some w
      → (c : Current) × (current script (own_entries 0 past) ≡ Some c) × (is_pump c.action ≡ true)
  pub joins : IsClosed script → (h : Holding) → holding past 0 ≡ Some h
      → (c : Current) × (current script (own_entries 0 past) ≡ Some c) × (is_join c.action ≡ true)
  pub one_thing : (seat : ℕ) (w : Running) (h : Holding) → running past seat ≡ Some w → holding past seat ≡ Some h → ⊥
