-- What each call of a desk answers: from the environment at the hold to the one that the call left.
use Rattle.std.specs.Prelude.{◌≡◌, ◌≢◌, ℕ, Bool, true, false, not, Option, Some, None, Result, Ok, Err}
use Rattle.task_base.specs.declared.entry.Kind.{Kind}
use Rattle.task_base.specs.declared.entry.Kind.TheVariants as kinds
use Rattle.task_base.specs.declared.entry.JobReply.{JobReply}
use Rattle.task_base.specs.declared.source.NotYet.{NotYet}
use Rattle.task_model.specs.Blockers.{blockers_of}
use Rattle.task_model.specs.Refusal.{is_closed, is_job_forbidden, is_refused}
use Rattle.task_model.specs.Time.{now_of}
use Rattle.hist_model.specs.Moments.{moment_behind}
use Rattle.shutdown_phase.specs.declared.phase_count.StillBlocked.{StillBlocked}
use Rattle.task_body.specs.Bodies.{AssignmentView}
use Rattle.task_body.specs.Passes.{PassView}
use Rattle.task_body.specs.declared.act.Act.{Act}
use Rattle.task_body.specs.declared.taken.Taken.{Taken}
use Rattle.task_body.specs.declared.taken.Taken.TheVariants as taken
use Rattle.pool_core.specs.Calls.{running_tasks, is_any_ready}
use Rattle.env_core.specs.Calls.{EntersAct, HasTaken, HasNothing, HasTakenMain, HasNoMain, IsOver, IsIdle, lets_in}
use Rattle.env_core.specs.Jobs.{HasTakenItem, JobTakeGives, StepGives, TriesToCancel, TriesToJoin}
use Rattle.env_core.specs.Views.{EnvView, Enters}

-- the seat made one entry of this kind
abbrev pub HasEntered : ℕ → Kind → EnvView → EnvView → Type 0
HasEntered seat kind before after = Enters before after seat kind

-- the seat entered nothing
abbrev pub HasLooked : EnvView → EnvView → Type 0
HasLooked before after = after ≡ before

-- the seat's task ended, and left its value
abbrev pub HasEnded : ℕ → AssignmentView → EnvView → EnvView → Type 0
HasEnded seat work before after = Enters before after seat (kinds.End work.task work.value)

-- the driver's main task ended, and left its value
abbrev pub HasEndedMain : ℕ → AssignmentView → EnvView → EnvView → Type 0
HasEndedMain seat work before after = Enters before after seat (kinds.MainEnd work.task work.value)

-- the seat posted a task; the reply is false exactly where the post is refused
pub record HasPosted (seat task runner delay : ℕ) (ok : Bool) (before after : EnvView) : Type 0 where
  pub reply : ok ≡ not (is_refused before.script before.history runner delay)
  pub enters : Enters before after seat (kinds.Post task runner delay ok)

-- the seat posted a task to a main queue; the reply is false exactly where the queue is closed
pub record HasPostedMain (seat task queue delay : ℕ) (ok : Bool) (before after : EnvView) : Type 0 where
  pub reply : ok ≡ not (is_closed before.history queue)
  pub enters : Enters before after seat (kinds.Main task queue delay ok)

-- the seat made a tick, at the moment that the reading becomes
pub record HasTicked (seat reading now : ℕ) (before after : EnvView) : Type 0 where
  pub moment : now ≡ moment_behind (now_of before.history) reading
  pub enters : Enters before after seat (kinds.Tick now)

-- what a take gives the seat
abbrev pub Gives : {W : Type 0} → (W → AssignmentView) → ℕ → Taken W → EnvView → EnvView → Type 0
Gives work seat (taken.Task got) before after = HasTaken before after seat (work got)
Gives work seat (taken.Item pass) before after = HasTakenItem before after seat pass
Gives work seat taken.Nothing before after = HasNothing before after seat
Gives work seat taken.Over before after = IsOver before after

-- whether a take gave nothing, for now
abbrev pub is_nothing : {W : Type 0} → Taken W → Bool
is_nothing taken.Nothing = true
is_nothing other = false

-- what a take from the main queues gives the driver
abbrev pub GivesMain : {W : Type 0} → (W → AssignmentView) → ℕ → Option W → EnvView → EnvView → Type 0
GivesMain work seat (Some taken) before after = HasTakenMain before after seat (work taken)
GivesMain work seat None before after = HasNoMain before after seat

-- the seat posted a job; the reply is false exactly where the phase forbids the job
pub record HasPostedJob (seat job : ℕ) (ok : Bool) (before after : EnvView) : Type 0 where
  pub reply : ok ≡ not (is_job_forbidden before.script before.history job)
  pub enters : Enters before after seat (kinds.JobPost job ok)

-- what a join gives the driver that asks for an item
abbrev pub GivesItem : ℕ → ℕ → Option PassView → EnvView → EnvView → Type 0
GivesItem seat job got before after = JobTakeGives before after seat job got

-- what the end of an item gives the seat
abbrev pub HasStepped : ℕ → PassView → ℕ → Option PassView → EnvView → EnvView → Type 0
HasStepped seat pass value got before after = StepGives before after seat pass value got

-- what asking whether a cancelled job is empty does
abbrev pub TriesCancelled : ℕ → ℕ → Result (Unit {0}) NotYet → EnvView → EnvView → Type 0
TriesCancelled seat job answer before after = TriesToCancel before after seat job answer

-- what asking for the reply to a join does
abbrev pub TriesJoined : ℕ → ℕ → Result JobReply NotYet → EnvView → EnvView → Type 0
TriesJoined seat job answer before after = TriesToJoin before after seat job answer

-- the seat's task did its next act step; the reply is false exactly where that is a post that is refused
pub record HasActed (seat : ℕ) (act : Act) (ok : Bool) (before after : EnvView) : Type 0 where
  pub reply : ok ≡ lets_in before act
  pub enters : EntersAct before after seat act ok

-- the driver went on, since the pool was idle
pub record HasIdled (seat : ℕ) (before after : EnvView) : Type 0 where
  pub idle : IsIdle before
  pub enters : Enters before after seat kinds.Idle

-- the driver has to wait, since the pool was not idle; so many tasks ran, and this says whether a worker might take one
pub record WaitsForIdle (not_yet : NotYet) (before after : EnvView) : Type 0 where
  pub busy : IsIdle before → ⊥
  pub running : not_yet.running ≡ running_tasks before.script before.history
  pub ready : not_yet.ready ≡ is_any_ready before.script before.history
  pub kept : after ≡ before

-- what asking for idle does
abbrev pub TriesIdle : ℕ → Result (Unit {0}) NotYet → EnvView → EnvView → Type 0
TriesIdle seat (Ok u) before after = HasIdled seat before after
TriesIdle seat (Err not_yet) before after = WaitsForIdle not_yet before after

-- the driver ended shutdown, since nothing blocked it
pub record HasDone (seat : ℕ) (before after : EnvView) : Type 0 where
  pub none : blockers_of before.script before.history ≡ 0
  pub enters : Enters before after seat kinds.Done

-- the driver has to wait, since so many still blocked shutdown
pub record WaitsForDone (blocked : StillBlocked) (before after : EnvView) : Type 0 where
  pub some : blocked.count ≢ 0
  pub count : blocked.count ≡ blockers_of before.script before.history
  pub kept : after ≡ before

-- what asking for the end of shutdown does
abbrev pub TriesDone : ℕ → Result (Unit {0}) StillBlocked → EnvView → EnvView → Type 0
TriesDone seat (Ok u) before after = HasDone seat before after
TriesDone seat (Err blocked) before after = WaitsForDone blocked before after
