-- What the pool stands for.
use Rattle.std.specs.Prelude.{◌≡◌, ◌+◌, ◌≤◌, List, filter, map, length}
use Rattle.task_base.specs.Plan.{Plan}
use Rattle.task_base.specs.declared.entry.Entry.{Entry}
use Rattle.task_model.specs.Time.{now_of}
use Rattle.task_model.specs.Posts.{posts}
use Rattle.pool_laws.specs.Keys.{arrivals}
use Rattle.task_model.specs.Seats.{worker_seats}
use Rattle.task_runners.specs.Table.{table_of}
use Rattle.pool_core.specs.Pasts.{IsPoolScript, IsPoolPast}
use Rattle.pool_core.specs.Lines.{AreLines}
use Rattle.pool_core.specs.Queues.{HoldWaiting, is_representative}
use Rattle.pool_core.specs.Groups.{AreGroups}
use Rattle.pool_core.specs.Listings.{AreListed}
use Rattle.pool_core.specs.Jobs.{AreJobs, AreHolders}
use Rattle.pool_core.specs.Tables.{unripe, ripening_of, tracked, ArePostings, ArePriorities, AreSeats}
use Rattle.pool_core.specs.declared.pool.Pool.{Pool}

-- the pool stands for the past of a script, part by part
pub record StandsFor (script : Plan) (past : List Entry) (pool : Pool) : Type 0 where
  pub script_fits : IsPoolScript script
  pub past_fits : IsPoolPast script past
  -- the runners that the script declares
  pub runners : pool.runners ≡ table_of script.runners script.background
  -- the present priority of each runner
  pub priorities : ArePriorities script past pool.priorities.items
  -- the tasks that have keys, have not been taken, and may start, sequence by sequence; the cells, at home or out
  pub lines : AreLines script past (arrivals past) pool.sequences
  -- the sources that would wait under the policy `all`, with their ranks
  pub queues : HoldWaiting script past pool.lanes
  -- the tasks of parallel runners that wait, in a list for each runner
  pub listed : AreListed script pool.postings.items pool.sequences pool.lists
  -- the workers that answer for all where it is asked whether one may take a source
  pub representatives : pool.representatives.items ≡ filter (is_representative script) (worker_seats script)
  -- what each worker does of the groups' work: a task with its scope, or an item of a job
  pub groups : AreGroups script past pool.groups
  -- the delayed tasks that are not ripe
  pub delayed : pool.delayed ≡ record { held = map ripening_of (unripe past); room = length script.tasks }
  -- the phase, the policy and the counts of what shutdown waits for
  pub tracker : pool.tracker ≡ tracked script past
  -- how each accepted task was posted
  pub postings : ArePostings script past pool.postings.items
  -- the task that each seat runs
  pub seats : AreSeats script past pool.seats.items
  -- the items of each job, and how it was posted
  pub jobs : AreJobs script past pool.jobs.items
  -- the job that each seat is inside
  pub holders : AreHolders script past pool.holders.items
  -- the moment of the last tick
  pub moment : pool.moment ≡ now_of past
  -- room for each task that has no key yet
  pub room : length script.tasks + length pool.delayed.held ≤ pool.sequences.room + length (posts past)
