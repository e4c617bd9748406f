-- What is known of what was chosen.
use Rattle.std.specs.Prelude.{◌≡◌, ℕ, ◌≤◌, true, false, List, Some, Contains}
use Rattle.task_base.specs.Plan.{Plan}
use Rattle.task_base.specs.declared.entry.Entry.{Entry}
use Rattle.task_base.specs.declared.source.TaskSource.{TaskSource}
use Rattle.task_base.specs.declared.source.TaskSource.TheVariants.{Sequence, Job}
use Rattle.task_model.specs.Policies.{is_held}
use Rattle.task_model.specs.Posts.{Posted, main_posts, is_taken, is_main_taken}
use Rattle.task_model.specs.Refusal.{is_forbidden}
use Rattle.task_model.specs.Keys.{Ready}
use Rattle.task_base.specs.Runners.{sequence_of}
use Rattle.task_model.specs.Sequences.{head_of}
use Rattle.task_model.specs.Seats.{runs_sequence, is_free}
use Rattle.task_model.specs.Cells.{cell_of, main_cell_of}
use Rattle.pool_laws.specs.Jobs.{MayEnter}
use Rattle.task_model.specs.Sources.{Candidate, is_takeable}
use Rattle.task_model.specs.Orders.{order_of}
use Rattle.pool_laws.specs.Keys.{IsHead}
use Rattle.task_model.specs.MainQueues.{Front}
use Rattle.queue_laws.specs.Fronts.{IsOpen}

-- a sequence that does not run and has a head, or a job that may be entered
abbrev pub IsWaitingSource : Plan → List Entry → TaskSource → Type 0
IsWaitingSource script past (Sequence s) = (head : Ready) × (head_of script past s ≡ Some head) × (runs_sequence script past s ≡ false)
IsWaitingSource script past (Job j) = MayEnter script past j

-- what a seat may take waits, is not held back by the policy, and has room; so does its best source
pub record MayBeTaken (script : Plan) (past : List Entry) (seat : ℕ) (c : Candidate) : Type 0 where
  pub waits : IsWaitingSource script past c.source
  pub not_held : is_held past c.priority ≡ false
  pub takeable : is_takeable script past seat c ≡ true

-- a front is an accepted main task of its queue, with its order, which has not been taken
pub record IsFront (past : List Entry) (f : Front) : Type 0 where
  pub accepted : Posted
  pub posted : Contains (main_posts past) accepted
  pub task_is : accepted.task ≡ f.task
  pub queue_is : accepted.home ≡ f.queue
  pub not_taken : is_main_taken past f.task ≡ false
  pub order_is : order_of past accepted ≡ Some f.order

-- the driver takes an open front, and finds the cell of its queue
pub record IsMainTake (script : Plan) (past : List Entry) (seat task queue found : ℕ) : Type 0 where
  pub front : Front
  pub is_front : IsFront past front
  pub opened : IsOpen script past front
  pub task_is : front.task ≡ task
  pub queue_is : front.queue ≡ queue
  pub found_is : found ≡ main_cell_of past queue
  pub driver : seat ≡ 0

-- a worker that is free takes the head of a sequence that does not run, which has not been taken, and finds its cell
pub record IsTake (script : Plan) (past : List Entry) (seat task runner found : ℕ) : Type 0 where
  pub head : Ready
  pub is_head : IsHead script past (sequence_of script runner task) head
  pub task_is : head.posted.task ≡ task
  pub home_is : head.posted.home ≡ runner
  pub not_running : runs_sequence script past (sequence_of script runner task) ≡ false
  pub not_taken : is_taken past task ≡ false
  pub not_forbidden : is_forbidden script past head.posted ≡ false
  pub found_is : found ≡ cell_of script past (sequence_of script runner task)
  pub worker : 1 ≤ seat
  pub known : seat ≤ script.workers
  pub free : is_free past seat ≡ true
