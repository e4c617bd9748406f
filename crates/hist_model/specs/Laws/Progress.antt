-- What may come next: no legal history of a sound script is stuck before it is whole, whoever makes its entries (this
-- project's own rules).
use Rattle.std.specs.Prelude.{◌≡◌, ℕ, zero, suc, ◌≤◌, ◌==◌, Bool, true, false, if◌then◌else◌, List, [], ◌∷◌, ◌++◌, Some, None}
use Rattle.task_base.specs.Plan.{Plan}
use Rattle.task_base.specs.Runners.{sequence_of}
use Rattle.task_base.specs.Steps.{after}
use Rattle.task_base.specs.declared.step.Step.{Step}
use Rattle.task_base.specs.declared.entry.Entry.{Entry}
use Rattle.task_base.specs.declared.entry.Kind.{Kind}
use Rattle.task_base.specs.declared.entry.Kind.TheVariants as kinds
use Rattle.task_base.specs.declared.script.Action.{Action}
use Rattle.task_base.specs.declared.script.Action.TheVariants as actions
use Rattle.task_base.specs.declared.source.TaskSource.{TaskSource}
use Rattle.task_base.specs.declared.source.TaskSource.TheVariants.{Sequence, Job}
use Rattle.task_model.specs.Seats.{Running, Holding, running, holding, is_quiet, steps_of, next_act}
use Rattle.task_model.specs.Jobs.{item_value}
use Rattle.task_model.specs.Sources.{Candidate, best_of, next_item}
use Rattle.hist_model.specs.Views.{own_entries}
use Rattle.hist_model.specs.Script.{Current, current, wants, is_whole}
use Rattle.hist_model.specs.Allowed.{enters, IsAllowed}
use Rattle.hist_model.specs.Legal.{IsLegal}

-- the seat may make an entry of this kind
abbrev pub MayMake : Plan → List Entry → ℕ → Kind → Type 0
MayMake script past seat kind = IsAllowed script past (record { seat = seat; kind = kind })

-- the end of a task that runs: it leaves its steps applied to what it found
abbrev pub end_of : Plan → Running → Kind
end_of script w =
    if w.is_main then kinds.MainEnd w.task (after (steps_of script w.task) w.found) else kinds.End w.task (after (steps_of script w.task) w.found)

-- the step of an item that a seat holds: its value, and the seat goes on to the next item or leaves
abbrev pub step_of : Plan → List Entry → ℕ → Holding → Kind
step_of script past seat h = kinds.JobStep h.job h.id h.item (item_value script h.job h.item) (next_item script past seat h.job)

-- the seat may make the next entry of the task that it runs: the one of the next act step, or the end where none is left
pub data TaskGoesOn (script : Plan) (past : List Entry) (seat : ℕ) (w : Running) : Type 0 where
  ByStep : (step : Step) (kind : Kind) → next_act script past seat ≡ Some step → enters w.task step kind ≡ true → MayMake script past seat kind
      → TaskGoesOn script past seat w
  Ends : next_act script past seat ≡ None → MayMake script past seat (end_of script w) → TaskGoesOn script past seat w

-- the action waits for others, having made these entries: a flush until all is idle, a join until the job has a reply, and a
-- cancel and a shutdown behind their first entry
abbrev pub waits : Action → List Entry → Bool
waits actions.Flush made = true
waits (actions.Join job) made = true
waits (actions.Cancel job) [] = false
waits (actions.Cancel job) (e ∷ made) = true
waits actions.Shutdown [] = false
waits actions.Shutdown (e ∷ made) = true
waits action made = false

-- the driver may make an entry that its action wants next
pub record WantedMayCome (script : Plan) (past : List Entry) (c : Current) : Type 0 where
  pub kind : Kind
  pub wanted : wants (own_entries 0 past) c.action c.made kind ≡ true
  pub may : MayMake script past 0 kind

-- the entry takes this source: a task of the sequence, or an item of the job
abbrev pub takes_from : Plan → TaskSource → Kind → Bool
takes_from script (Sequence s) (kinds.Take task runner found) = sequence_of script runner task == s
takes_from script (Job j) (kinds.JobTake job id item) = job == j
takes_from script source kind = false

-- a worker may take its best source
pub record WorkerTakes (script : Plan) (past : List Entry) : Type 0 where
  pub seat : ℕ
  pub worker : 1 ≤ seat
  pub known : seat ≤ script.workers
  pub best : Candidate
  pub best_is : best_of script past seat ≡ Some best
  pub kind : Kind
  pub takes : takes_from script best.source kind ≡ true
  pub may : MayMake script past seat kind

-- the actions that wait for what workers take of their own accord
abbrev pub waits_for_workers : Action → Bool
waits_for_workers actions.Flush = true
waits_for_workers actions.Shutdown = true
waits_for_workers action = false

-- what may come while nobody runs a task or holds an item, and the driver is at this action
pub data Proceeds (script : Plan) (past : List Entry) (c : Current) : Type 0 where
  -- the driver may make an entry that its action wants next
  Wanted : WantedMayCome script past c → Proceeds script past c
  -- the driver joins a job, and may go into it
  GoesIn : (job id item : ℕ) → c.action ≡ actions.Join job → MayMake script past 0 (kinds.JobTake job id item) → Proceeds script past c
  -- the driver waits for the workers, and one of them has something that it may take
  Takes : waits_for_workers c.action ≡ true → WorkerTakes script past → Proceeds script past c

-- whoever is at something may go on with it, and where nobody is, the driver or a worker may
pub record GoesOn (script : Plan) (past : List Entry) : Type 0 where
  -- a seat that runs a task may make its next entry
  pub tasks_go_on : (seat : ℕ) (w : Running) → running past seat ≡ Some w → TaskGoesOn script past seat w
  -- a seat that holds an item may make its step
  pub items_go_on : (seat : ℕ) (h : Holding) → holding past seat ≡ Some h → MayMake script past seat (step_of script past seat h)
  -- a driver that runs nothing may make an entry that its action wants next, whoever runs, unless the action waits
  pub driver_goes_on : (c : Current) → running past 0 ≡ None → current script (own_entries 0 past) ≡ Some c → waits c.action c.made ≡ false
      → WantedMayCome script past c
  -- where no seat runs a task or holds an item, and the script is not finished, the driver or a worker may proceed
  pub quiet_proceeds : (c : Current) → is_quiet script past ≡ true → current script (own_entries 0 past) ≡ Some c → Proceeds script past c

-- some entry is allowed after the past
pub record SomeMayCome (script : Plan) (past : List Entry) : Type 0 where
  pub entry : Entry
  pub allowed : IsAllowed script past entry

-- no entry is allowed after the past
abbrev pub IsAtEnd : Plan → List Entry → Type 0
IsAtEnd script past = (e : Entry) → IsAllowed script past e → ⊥

-- what is chosen after a past that is not whole is allowed after it, wherever the past is legal
abbrev pub AlwaysAllowed : Plan → (List Entry → Entry) → Type 0
AlwaysAllowed script choose = (past : List Entry) → IsLegal script past → is_whole script past ≡ false → IsAllowed script past (choose past)

-- the past with at most n chosen entries more: one after the other, until it is whole
abbrev pub grown : Plan → (List Entry → Entry) → ℕ → List Entry → List Entry
grown script choose zero past = past
grown script choose (suc n) past = if is_whole script past then past else grown script choose n (past ++ choose past ∷ [])
