-- What each call of the environment asks of its caller, and answers. A condition on a seat is one on the seat's own entries.
use Rattle.std.specs.Prelude.{◌≡◌, ℕ, ◌≤◌, Bool, true, false, not, List, [], length, Option, Some, None, filter, slice_get}
use Rattle.task_base.specs.Plan.{Plan}
use Rattle.task_base.specs.Runners.{sequence_of}
use Rattle.task_base.specs.Steps.{is_act}
use Rattle.task_base.specs.declared.entry.Kind.{Kind}
use Rattle.task_base.specs.declared.entry.Kind.TheVariants as kinds
use Rattle.task_base.specs.declared.step.Step.{Step}
use Rattle.task_base.specs.declared.step.Step.TheVariants as steps
use Rattle.task_model.specs.Seats.{Running, running, acts_done, next_act, steps_of, is_free}
use Rattle.task_model.specs.Sources.{best_of}
use Rattle.task_model.specs.Cells.{cell_of, main_cell_of}
use Rattle.task_model.specs.MainQueues.{Front, chosen_of}
use Rattle.task_model.specs.Refusal.{is_closed, is_refused}
use Rattle.hist_model.specs.Script.{is_wanted, is_finished}
use Rattle.hist_model.specs.Views.{own_entries, IsSeatsAssignment}
use Rattle.task_body.specs.Bodies.{AssignmentView}
use Rattle.task_body.specs.declared.act.Act.{Act}
use Rattle.task_body.specs.declared.act.Act.TheVariants as acts
use Rattle.task_body.specs.declared.taken.Taken.{Taken}
use Rattle.task_body.specs.declared.taken.Taken.TheVariants as taken
use Rattle.pool_core.specs.Calls.{running_tasks, is_any_ready}
use Rattle.env_core.specs.Jobs.{HasTakenItem}
use Rattle.env_core.specs.Views.{EnvView, Enters}

-- the seat is the driver's, and the script wants this entry next
pub record IsWantedNext (view : EnvView) (seat : ℕ) (kind : Kind) : Type 0 where
  pub driver : seat ≡ 0
  pub wanted : is_wanted view.script (own_entries 0 view.history) kind ≡ true

-- the seat is a worker's that runs nothing and holds nothing
pub record IsFreeWorker (view : EnvView) (seat : ℕ) : Type 0 where
  pub worker : 1 ≤ seat
  pub known : seat ≤ view.script.workers
  pub free : is_free (own_entries seat view.history) seat ≡ true

-- the act that a step of a body answers
abbrev pub act_of : Step → Act
act_of (steps.Post task runner delay) = acts.Post task runner delay
act_of (steps.Main task queue delay) = acts.Main task queue delay
act_of (steps.Block scope) = acts.Enter scope
act_of steps.Unblock = acts.Leave
act_of step = acts.Finished

-- the seat runs a task, whose next act step this is
pub record IsNextAct (view : EnvView) (seat : ℕ) (act : Act) : Type 0 where
  pub known : seat ≤ view.script.workers
  pub step : Step
  pub is_next : next_act view.script (own_entries seat view.history) seat ≡ Some step
  pub is_act : act ≡ act_of step

-- the seat's assignment is that of a task of the pool, has no step left, and all its act steps were entered
pub record CanEnd (view : EnvView) (seat : ℕ) (work : AssignmentView) : Type 0 where
  pub known : seat ≤ view.script.workers
  pub seats : IsSeatsAssignment view.script (own_entries seat view.history) seat work.task work.home work.found work.whole
  pub is_pool : seats.now.is_main ≡ false
  pub none_left : work.rest ≡ []
  pub all_entered : acts_done (own_entries seat view.history) seat ≡ length (filter is_act work.whole)

-- the seat's assignment is that of a main task, has no step left, and all its act steps were entered
pub record CanEndMain (view : EnvView) (seat : ℕ) (work : AssignmentView) : Type 0 where
  pub seats : IsSeatsAssignment view.script (own_entries seat view.history) seat work.task work.home work.found work.whole
  pub is_main : seats.now.is_main ≡ true
  pub none_left : work.rest ≡ []
  pub all_entered : acts_done (own_entries seat view.history) seat ≡ length (filter is_act work.whole)

-- the entry of an act, with the reply to a post
abbrev pub entry_of : ℕ → Act → Bool → Option Kind
entry_of t (acts.Post task runner delay) ok = Some (kinds.Post task runner delay ok)
entry_of t (acts.Main task queue delay) ok = Some (kinds.Main task queue delay ok)
entry_of t (acts.Enter scope) ok = Some (kinds.Enter t scope)
entry_of t acts.Leave ok = Some (kinds.Leave t)
entry_of t act ok = None

-- whether a post of the act is let in; other acts always are
abbrev pub lets_in : EnvView → Act → Bool
lets_in view (acts.Post task runner delay) = not (is_refused view.script view.history runner delay)
lets_in view (acts.Main task queue delay) = not (is_closed view.history queue)
lets_in view act = true

-- the call entered the act of the task that the seat runs
pub record EntersAct (before after : EnvView) (seat : ℕ) (act : Act) (ok : Bool) : Type 0 where
  pub now : Running
  pub runs : running before.history seat ≡ Some now
  pub kind : Kind
  pub kind_is : entry_of now.task act ok ≡ Some kind
  pub enters : Enters before after seat kind

-- a worker has taken the head of its best source, with the cell and a body of which no step is done; its entry is made, and
-- the assignment is the seat's
pub record HasTaken (before after : EnvView) (seat : ℕ) (work : AssignmentView) : Type 0 where
  pub unfinished : is_finished before.script before.history ≡ false
  pub enters : Enters before after seat (kinds.Take work.task work.home work.found)
  pub found_is : work.found ≡ cell_of before.script before.history (sequence_of before.script work.home work.task)
  pub value_is : work.value ≡ work.found
  pub whole_is : work.whole ≡ steps_of before.script work.task
  pub rest_is : work.rest ≡ work.whole
  pub seats : IsSeatsAssignment after.script (own_entries seat after.history) seat work.task work.home work.found work.whole

-- a worker may take nothing now, and nothing was entered
pub record HasNothing (before after : EnvView) (seat : ℕ) : Type 0 where
  pub unfinished : is_finished before.script before.history ≡ false
  pub none : best_of before.script before.history seat ≡ None
  pub kept : after ≡ before

-- there will be nothing any more, and nothing was entered
pub record IsOver (before after : EnvView) : Type 0 where
  pub finished : is_finished before.script before.history ≡ true
  pub kept : after ≡ before

-- what a worker's take gives
abbrev pub TakeGives : EnvView → EnvView → ℕ → Taken AssignmentView → Type 0
TakeGives before after seat (taken.Task work) = HasTaken before after seat work
TakeGives before after seat (taken.Item pass) = HasTakenItem before after seat pass
TakeGives before after seat taken.Nothing = HasNothing before after seat
TakeGives before after seat taken.Over = IsOver before after

-- the driver has taken the chosen front of the main queues, with its queue's cell and a body of which no step is done; its
-- entry is made, and the assignment is the seat's
pub record HasTakenMain (before after : EnvView) (seat : ℕ) (work : AssignmentView) : Type 0 where
  pub front : Front
  pub chosen : chosen_of before.script before.history ≡ Some front
  pub task_is : work.task ≡ front.task
  pub home_is : work.home ≡ front.queue
  pub enters : Enters before after seat (kinds.MainTake work.task work.home work.found)
  pub found_is : work.found ≡ main_cell_of before.history work.home
  pub value_is : work.value ≡ work.found
  pub whole_is : work.whole ≡ steps_of before.script work.task
  pub rest_is : work.rest ≡ work.whole
  pub seats : IsSeatsAssignment after.script (own_entries seat after.history) seat work.task work.home work.found work.whole

-- no front of the main queues is open, and that was entered
pub record HasNoMain (before after : EnvView) (seat : ℕ) : Type 0 where
  pub none : chosen_of before.script before.history ≡ None
  pub enters : Enters before after seat kinds.MainNone

-- what the driver's take gives
abbrev pub MainTakeGives : EnvView → EnvView → ℕ → Option AssignmentView → Type 0
MainTakeGives before after seat (Some work) = HasTakenMain before after seat work
MainTakeGives before after seat None = HasNoMain before after seat

-- the entry may come: the script wants it, no worker runs a task of the pool or is inside a job, and none may take a source
abbrev pub IsIdle : EnvView → Type 0
IsIdle view = (running_tasks view.script view.history ≡ 0) × (is_any_ready view.script view.history ≡ false)

-- the bodies are those of the script's tasks, and none of their steps is done
pub record AreFresh {X : Type 0} (bodies : List X) (whole rest : X → List Step) (script : Plan) : Type 0 where
  pub all : length bodies ≡ length script.tasks
  pub whole_is : (t : ℕ) (body : X) → slice_get bodies t ≡ Some body → whole body ≡ steps_of script t
  pub rest_is : (t : ℕ) (body : X) → slice_get bodies t ≡ Some body → rest body ≡ steps_of script t
