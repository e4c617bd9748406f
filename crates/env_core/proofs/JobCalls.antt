-- The calls on jobs: what the pool asks, what its answers say, and when an entry may come.
-- Cited by 6 functions of `Env`.
use Rattle.env_core.proofs.Driver.{driver_goes_in, holder_waits}
use Rattle.call_laws.proofs.Jobs.{IsOpenJob}
use Rattle.env_core.proofs.JobEntries.{holds_item, job_declared, job_step_allowed, job_take_allowed, named_job}
use Rattle.hist_model.proofs.Laws.Wants.{driver_holds_nothing}
use Rattle.env_core.proofs.Starts.{job_is_new}
use Rattle.env_core.proofs.Wanted.{wanted_by_script}
use Rattle.env_core.specs.Calls.{IsWantedNext}
use Rattle.env_core.specs.Holds.{Holds}
use Rattle.env_core.specs.Jobs.{CanEndItem, held_by}
use Rattle.env_core.specs.Ledger.{MayEnter}
use Rattle.env_core.specs.Views.{EnvView}
use Rattle.env_core.specs.declared.agenda.Shift.TheVariants as shifts
use Rattle.pool_core.specs.JobCalls.{CanJoin, CanPostJob, CanStep, KnowsJob, joined_of}
use Rattle.pool_core.specs.declared.pool.Pool.{Pool}
use Rattle.sequence_manager.specs.declared.manager.Manager.{Manager}
use Rattle.std.proofs.Common.{Bool, List, None, Option, Some, cond, false, length, refl, sym, true, ℕ, ◌≡◌}
use Rattle.std.proofs.lemmas.Option.{none-some, same_Some}
use Rattle.task_base.specs.Plan.{Plan}
use Rattle.task_base.specs.declared.entry.Entry.{Entry}
use Rattle.task_base.specs.declared.entry.Kind.{Kind}
use Rattle.task_base.specs.declared.entry.Kind.TheVariants as kinds
use Rattle.task_base.specs.declared.step.Step.{Step}
use Rattle.task_body.specs.Passes.{PassView}
use Rattle.task_model.specs.Jobs.{claimed, is_empty, reply_of}
use Rattle.task_model.specs.Sources.{leaves, next_item}

-- What the pool asks.

module _ {X : Type 0} {bodies : List (Option X)} {whole rest : X → List Step} {view : EnvView} {pool : Pool} {manager : Manager}
    (holds : Holds bodies whole rest view pool manager) where
  -- the job of an entry that the script wants is declared
  pub knows_job : (seat job : ℕ) (kind : Kind) → named_job kind ≡ Some job → IsWantedNext view seat kind → KnowsJob view.script view.history pool job
  knows_job seat job kind is wanted = record { stands = holds.stands; declared = job_declared view seat job kind is holds.plan wanted }

  -- a job that the script wants to be posted was not posted
  pub can_post_job : (seat next job : ℕ) → next ≡ length view.history → ((ok : Bool) → IsWantedNext view seat (kinds.JobPost job ok))
      → CanPostJob view.script view.history pool next job
  can_post_job seat next job is wanted = record {
    knows = knows_job seat job (kinds.JobPost job true) refl (wanted true);
    place_is = is;
    is_new = job_is_new view.script view.history seat job true holds.plan holds.legal (wanted_by_script view seat (kinds.JobPost job true) (wanted true));
  }

  -- a driver that may go into a job is inside none
  pub can_join : (seat job : ℕ) → ((id item : ℕ) → IsWantedNext view seat (kinds.JobTake job id item)) → CanJoin view.script view.history pool job
  can_join seat job wanted = record {
    knows = knows_job seat job (kinds.JobTake job 0 0) refl (wanted 0 0);
    holds_nothing = driver_holds_nothing view.script view.history seat (kinds.JobTake job 0 0) holds.plan.closed holds.legal
        (wanted_by_script view seat (kinds.JobTake job 0 0) (wanted 0 0));
  }

  -- a seat may end the item that it holds
  pub can_step : {seat value : ℕ} {pass : PassView} → CanEndItem view seat pass value → CanStep view.script view.history pool seat (held_by pass)
  can_step {seat = seat} {value = value} {pass = pass} can = record { stands = holds.stands; holds = holds_item view seat value pass can }

-- What the pool's answers say.

-- who goes on does not leave, and has the least unclaimed item; who does not go on leaves
pub goes_on : (script : Plan) (past : List Entry) (seat job item : ℕ) → Some item ≡ next_item script past seat job
    → (leaves script past seat job ≡ false) × (item ≡ claimed past job)
goes_on script past seat job item h = by_leaves (leaves script past seat job) h
  where
    by_leaves : (b : Bool) → Some item ≡ cond b None (Some (claimed past job)) → (b ≡ false) × (item ≡ claimed past job)
    by_leaves true k = absurd (none-some item (sym k))
    by_leaves false k = (refl, same_Some item (claimed past job) k)

pub has_to_leave : (script : Plan) (past : List Entry) (seat job : ℕ) → None ≡ next_item script past seat job → leaves script past seat job ≡ true
has_to_leave script past seat job h = by_leaves (leaves script past seat job) h
  where
    by_leaves : (b : Bool) → None ≡ cond b None (Some (claimed past job)) → b ≡ true
    by_leaves true k = refl
    by_leaves false k = absurd (none-some (claimed past job) k)

-- where a join gets no reply and nobody is inside, there is none
pub unanswered_is : (script : Plan) (past : List Entry) (job : ℕ) → joined_of script past job ≡ None → is_empty script past job ≡ true
    → reply_of script past job ≡ None
unanswered_is script past job h empty = rw empty at h

-- When an entry of a job may come.

-- the driver goes into a job that it joins, which leaves its place
pub may_go_in : {view : EnvView} {seat job id item : ℕ} → IsWantedNext view seat (kinds.JobTake job id item)
    → IsOpenJob view.script view.history job id item → MayEnter view seat (kinds.JobTake job id item) shifts.Stays
may_go_in {view = view} {seat = seat} {job = job} {id = id} {item = item} wanted is = record {
  allowed = λ plan. job_take_allowed view seat job id item wanted is;
  place = λ a run. driver_goes_in view.script view.history seat job id item a run.plan (wanted_by_script view seat (kinds.JobTake job id item) wanted)
      run.driver;
}

-- so does the end of an item
pub may_step : {view : EnvView} {seat value : ℕ} {pass : PassView} {next : Option ℕ} → CanEndItem view seat pass value
    → next ≡ next_item view.script view.history seat pass.job → MayEnter view seat (kinds.JobStep pass.job pass.id pass.item value next) shifts.Stays
may_step {view = view} {seat = seat} {value = value} {pass = pass} {next = next} can is = record {
  allowed = λ plan. job_step_allowed view seat value pass next can is;
  place = λ a run. holder_waits view.script view.history (record { seat = seat; kind = kinds.JobStep pass.job pass.id pass.item value next }) a
      (held_by pass) run.plan run.legal (holds_item view seat value pass can) refl run.driver;
}
