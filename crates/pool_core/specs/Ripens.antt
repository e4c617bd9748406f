-- How delayed tasks ripen in the course of a tick.
use Rattle.std.specs.Prelude.{◌≡◌, ℕ, ◌+◌, ◌≤◌, true, nat_le, List, ◌++◌, filter, map, length}
use Rattle.std.specs.List.{AllByRecursion}
use Rattle.task_base.specs.Plan.{Plan}
use Rattle.task_base.specs.declared.entry.Entry.{Entry}
use Rattle.task_model.specs.Posts.{Posted, posts}
use Rattle.pool_laws.specs.Keys.{arrivals, ripe_behind}
use Rattle.task_model.specs.Seats.{worker_seats}
use Rattle.task_runners.specs.Table.{table_of}
use Rattle.pool_core.specs.Calls.{CanTick, after_tick}
use Rattle.pool_core.specs.Groups.{AreGroups, ticked}
use Rattle.pool_core.specs.Lines.{AreLines}
use Rattle.pool_core.specs.Listings.{AreListed}
use Rattle.pool_core.specs.Jobs.{AreJobs, AreHolders}
use Rattle.pool_core.specs.Queues.{HoldBy, is_representative}
use Rattle.pool_core.specs.State.{standing}
use Rattle.pool_core.specs.Tables.{unripe, ripening_of, tracked, ArePostings, ArePriorities, AreSeats}
use Rattle.pool_core.specs.declared.pool.Pool.{Pool}

-- a pool that could read the clock has read it at a tick of this place, and no delayed task has ripened yet
pub record IsInTick (script : Plan) (past : List Entry) (pool : Pool) (place moment : ℕ) : Type 0 where
  pub before : Pool
  pub can : CanTick script past before place moment
  pub clock : pool ≡ record before { groups = ticked before.groups moment; moment = moment }

-- of the delayed tasks those in front have got their keys at the tick behind the past, and each other part of the pool stands
-- for what it did; the queues hold the sequences by their lists
pub record Ripens (script : Plan) (past : List Entry) (moment : ℕ) (front rest : List Posted) (pool : Pool) : Type 0 where
  pub parts : unripe past ≡ front ++ rest
  pub ripe : AllByRecursion (λ p. nat_le p.ripe moment ≡ true) front
  pub runners : pool.runners ≡ table_of script.runners script.background
  pub lines : AreLines script past (arrivals past ++ map (ripe_behind past) front) pool.sequences
  pub queues : HoldBy script (standing script past pool.priorities.items pool.postings.items pool.sequences) pool.lanes
  pub listed : AreListed script pool.postings.items pool.sequences pool.lists
  pub representatives : pool.representatives.items ≡ filter (is_representative script) (worker_seats script)
  pub groups : (seat : ℕ) → AreGroups script (after_tick past seat moment) pool.groups
  pub delayed : pool.delayed ≡ record { held = map ripening_of rest; room = length script.tasks }
  pub tracker : pool.tracker ≡ tracked script past
  pub postings : ArePostings script past pool.postings.items
  pub priorities : ArePriorities script past pool.priorities.items
  pub seats : AreSeats script past pool.seats.items
  pub jobs : AreJobs script past pool.jobs.items
  pub holders : AreHolders script past pool.holders.items
  pub moment_is : pool.moment ≡ moment
  pub room : length script.tasks + length pool.delayed.held ≤ pool.sequences.room + length (posts past)
