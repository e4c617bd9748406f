-- Words of the laws of open plans.
use Rattle.std.specs.Prelude.{◌≡◌, ℕ, ◌≤◌, Bool, true, false, List, None}
use Rattle.task_base.specs.Plan.{Plan}
use Rattle.task_base.specs.declared.entry.Entry.{Entry}
use Rattle.task_base.specs.declared.entry.Kind.{Kind}
use Rattle.task_base.specs.declared.entry.Kind.TheVariants as kinds
use Rattle.task_model.specs.Blockers.{is_block}
use Rattle.task_model.specs.Posts.{Posted}
use Rattle.task_model.specs.Refusal.{effective_at, is_forbidden}
use Rattle.task_model.specs.Seats.{running}
use Rattle.hist_model.specs.Open.{is_guest}

-- the entry starts a task, or goes into a job
abbrev pub starts : Kind → Bool
starts (kinds.Take task runner found) = true
starts (kinds.MainTake task queue found) = true
starts (kinds.JobTake job id item) = true
starts kind = false

-- the entry posts a task
abbrev pub is_post : Kind → Bool
is_post (kinds.Post task runner delay ok) = true
is_post (kinds.Main task queue delay ok) = true
is_post kind = false

-- a worker seat that runs no task, and is no guest
pub record IsAtNoTask (script : Plan) (past : List Entry) (seat : ℕ) : Type 0 where
  pub worker : 1 ≤ seat
  pub runs_nothing : running past seat ≡ None
  pub no_guest : is_guest script seat ≡ false

-- what is left of a pool task that did not start before shutdown was done: shutdown forbids it, and did not wait for it
pub record IsLeftByShutdown (script : Plan) (past : List Entry) (p : Posted) : Type 0 where
  pub forbidden : is_forbidden script past p ≡ true
  pub no_block : is_block (effective_at script p.home p.delay) ≡ false
