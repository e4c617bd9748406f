-- What each call of the environment on a job asks of its caller, and answers.
use Rattle.std.specs.Prelude.{◌≡◌, ℕ, ◌≤◌, true, false, length, Option, Some, None, Result, Ok, Err}
use Rattle.task_base.specs.declared.entry.JobReply.{JobReply}
use Rattle.task_base.specs.declared.entry.Kind.TheVariants as kinds
use Rattle.task_base.specs.declared.source.NotYet.{NotYet}
use Rattle.task_model.specs.Jobs.{JobPosted, claimed, free_id, is_empty, item_value, job_post_of, may_enter, reply_of}
use Rattle.task_model.specs.Seats.{Holding, inside}
use Rattle.task_model.specs.Sources.{best_of, job_candidate, leaves}
use Rattle.hist_model.specs.Script.{is_finished}
use Rattle.hist_model.specs.Views.{own_entries, IsSeatsPass}
use Rattle.task_body.specs.Passes.{PassView}
use Rattle.env_core.specs.Views.{EnvView, Enters}

-- the item that a pass is for, as the past tells of it
abbrev pub held_by : PassView → Holding
held_by pass = record { job = pass.job; id = pass.id; item = pass.item }

-- the pass is the seat's, which is one of the script's: it is for the item that the seat holds
pub record IsHeld (view : EnvView) (seat : ℕ) (pass : PassView) : Type 0 where
  pub known : seat ≤ view.script.workers
  pub holds : IsSeatsPass (own_entries seat view.history) seat pass.job pass.id pass.item

-- the pass is the seat's, and its item has this value
pub record CanEndItem (view : EnvView) (seat : ℕ) (pass : PassView) (value : ℕ) : Type 0 where
  pub held : IsHeld view seat pass
  pub value_is : value ≡ item_value view.script pass.job pass.item

-- a seat is inside a job from now on: under the least number that nobody inside has, with the least unclaimed item; its
-- entry is made, and the pass is the seat's
pub record HasGoneIn (before after : EnvView) (seat : ℕ) (pass : PassView) : Type 0 where
  pub enters : Enters before after seat (kinds.JobTake pass.job pass.id pass.item)
  pub may : may_enter before.script before.history pass.job ≡ true
  pub id_is : free_id before.script before.history pass.job ≡ Some pass.id
  pub item_is : pass.item ≡ claimed before.history pass.job
  pub seats : IsSeatsPass (own_entries seat after.history) seat pass.job pass.id pass.item

-- a worker has gone into the job that is its best source
pub record HasTakenItem (before after : EnvView) (seat : ℕ) (pass : PassView) : Type 0 where
  pub unfinished : is_finished before.script before.history ≡ false
  pub post : JobPosted
  pub is_post : job_post_of before.history pass.job ≡ Some post
  pub is_best : best_of before.script before.history seat ≡ Some (job_candidate before.script before.history pass.job post)
  pub goes_in : HasGoneIn before after seat pass

-- the driver has gone into the job that it joins
pub record HasJoinedIn (before after : EnvView) (seat job : ℕ) (pass : PassView) : Type 0 where
  pub job_is : pass.job ≡ job
  pub goes_in : HasGoneIn before after seat pass

-- the driver may not go into the job, and nothing was entered
pub record HasNoItem (before after : EnvView) (job : ℕ) : Type 0 where
  pub barred : may_enter before.script before.history job ≡ false
  pub kept : after ≡ before

-- what asking for an item of a job that is joined gives the driver
abbrev pub JobTakeGives : EnvView → EnvView → ℕ → ℕ → Option PassView → Type 0
JobTakeGives before after seat job (Some pass) = HasJoinedIn before after seat job pass
JobTakeGives before after seat job None = HasNoItem before after job

-- a seat has ended its item, and goes on with the least unclaimed one under the same number; its entry is made, and the next
-- pass is the seat's
pub record HasGoneOn (before after : EnvView) (seat : ℕ) (pass : PassView) (value : ℕ) (next : PassView) : Type 0 where
  pub stays : leaves before.script before.history seat pass.job ≡ false
  pub next_is : next ≡ record pass { item = claimed before.history pass.job }
  pub enters : Enters before after seat (kinds.JobStep pass.job pass.id pass.item value (Some next.item))
  pub seats : IsSeatsPass (own_entries seat after.history) seat next.job next.id next.item

-- a seat has ended its item, and has left the job; its entry is made
pub record HasLeft (before after : EnvView) (seat : ℕ) (pass : PassView) (value : ℕ) : Type 0 where
  pub has_to : leaves before.script before.history seat pass.job ≡ true
  pub enters : Enters before after seat (kinds.JobStep pass.job pass.id pass.item value None)

-- what the end of an item gives
abbrev pub StepGives : EnvView → EnvView → ℕ → PassView → ℕ → Option PassView → Type 0
StepGives before after seat pass value (Some next) = HasGoneOn before after seat pass value next
StepGives before after seat pass value None = HasLeft before after seat pass value

-- nobody was inside the job that was cancelled, which was entered
pub record HasCancelled (before after : EnvView) (seat job : ℕ) : Type 0 where
  pub empty : is_empty before.script before.history job ≡ true
  pub enters : Enters before after seat (kinds.Cancelled job)

-- somebody is inside the job that was cancelled, and nothing was entered; so many are
pub record WaitsForCancel (before after : EnvView) (job : ℕ) (not_yet : NotYet) : Type 0 where
  pub busy : is_empty before.script before.history job ≡ false
  pub running : not_yet.running ≡ length (inside before.script before.history job)
  pub ready : not_yet.ready ≡ false
  pub kept : after ≡ before

-- what asking whether a cancelled job is empty gives
abbrev pub TriesToCancel : EnvView → EnvView → ℕ → ℕ → Result (Unit {0}) NotYet → Type 0
TriesToCancel before after seat job (Ok u) = HasCancelled before after seat job
TriesToCancel before after seat job (Err not_yet) = WaitsForCancel before after job not_yet

-- nobody was inside the job, and this was its reply, which was entered
pub record HasJoined (before after : EnvView) (seat job : ℕ) (reply : JobReply) : Type 0 where
  pub empty : is_empty before.script before.history job ≡ true
  pub reply_is : reply_of before.script before.history job ≡ Some reply
  pub enters : Enters before after seat (kinds.Joined job reply)

-- somebody is inside the job, or it has no reply yet, and nothing was entered; so many are inside, and this says whether
-- the driver may go in: one or the other
pub record WaitsForJob (before after : EnvView) (job : ℕ) (not_yet : NotYet) : Type 0 where
  pub unanswered : is_empty before.script before.history job ≡ true → reply_of before.script before.history job ≡ None
  pub running : not_yet.running ≡ length (inside before.script before.history job)
  pub ready : not_yet.ready ≡ may_enter before.script before.history job
  pub some : not_yet.running ≡ 0 → not_yet.ready ≡ true
  pub kept : after ≡ before

-- what asking for the reply to a join gives
abbrev pub TriesToJoin : EnvView → EnvView → ℕ → ℕ → Result JobReply NotYet → Type 0
TriesToJoin before after seat job (Ok reply) = HasJoined before after seat job reply
TriesToJoin before after seat job (Err not_yet) = WaitsForJob before after job not_yet
