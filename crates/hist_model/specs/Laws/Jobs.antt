-- What is known of an allowed entry of a job.
use Rattle.std.specs.Prelude.{◌≡◌, ℕ, List, [], Option, Some, None}
use Rattle.task_base.specs.Plan.{Plan}
use Rattle.task_base.specs.declared.entry.Entry.{Entry}
use Rattle.task_base.specs.declared.entry.JobReply.{JobReply}
use Rattle.task_model.specs.Seats.{holding, inside}
use Rattle.task_model.specs.Jobs.{claimed, item_value, free_id, reply_of}
use Rattle.pool_laws.specs.Jobs.{MayEnter}
use Rattle.task_model.specs.Sources.{next_item}

-- a seat that holds nothing enters a job that may be entered, under the least number that nobody inside has, at the least
-- unclaimed item
pub record IsEntering (script : Plan) (past : List Entry) (seat job id item : ℕ) : Type 0 where
  pub holds_nothing : holding past seat ≡ None
  pub may_be_entered : MayEnter script past job
  pub number_is : free_id script past job ≡ Some id
  pub item_is : item ≡ claimed past job

-- the seat holds the item, under this number; the value is that of the item; the seat goes on or leaves as the rules say
pub record IsJobStep (script : Plan) (past : List Entry) (seat job id item value : ℕ) (next : Option ℕ) : Type 0 where
  pub held : holding past seat ≡ Some (record { job = job; id = id; item = item })
  pub value_is : value ≡ item_value script job item
  pub next_is : next ≡ next_item script past seat job

-- the driver, which holds nothing, ends the wait for a job that nobody is inside, and this is the job's reply
pub record IsJoin (script : Plan) (past : List Entry) (seat job : ℕ) (reply : JobReply) : Type 0 where
  pub driver : seat ≡ 0
  pub holds_nothing : holding past 0 ≡ None
  pub nobody_inside : inside script past job ≡ []
  pub reply_is : reply_of script past job ≡ Some reply
