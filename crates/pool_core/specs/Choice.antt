-- Which source a seat takes, among those that the queues hold.
use Rattle.std.specs.Prelude.{◌≡◌, ◌⊎◌, ℕ, Bool, true, false, ◌&&◌, if◌then◌else◌, Option, Some, None, is_some}
use Rattle.task_base.specs.Plan.{Plan}
use Rattle.task_base.specs.Runners.{seat_of}
use Rattle.task_base.specs.declared.source.TaskSource.{TaskSource}
use Rattle.task_base.specs.declared.source.TaskSource.TheVariants.{Job, Sequence}
use Rattle.task_traits.specs.declared.traits.Priority.{Priority}
use Rattle.task_traits.specs.declared.traits.Priority.TheVariants.{BestEffort, UserVisible}
use Rattle.task_traits.specs.declared.traits.Behaviour.TheVariants.{BlockShutdown}
use Rattle.task_tracker.specs.Tracked.{may_start}
use Rattle.thread_group.specs.Group.{has_room}
use Rattle.sequence_queue.specs.Ranked.{IsMadeFor, rank_of, rank_below}
use Rattle.sequence_queue.specs.declared.rank.Rank.{Rank}
use Rattle.pool_core.specs.Groups.{group_in, in_background}
use Rattle.pool_core.specs.Queues.{queue_of}
use Rattle.pool_core.specs.declared.pool.Pool.{Pool}

-- a priority whose work is in the queues for best-effort sources, or in the others: the rules let all of it start, or none
abbrev pub priority_in : Bool → Priority
priority_in best = if best then BestEffort else UserVisible

-- neither the phase nor the policy holds back the sources of such queues, and their group has room
abbrev pub is_open : Pool → Bool → Bool
is_open pool best =
    may_start pool.tracker (priority_in best) BlockShutdown
    && has_room (group_in pool.groups (in_background pool.runners (priority_in best))) (priority_in best)

-- such a queue of the lane holds the source with this rank, and is open
pub record IsOffered (pool : Pool) (lane : ℕ) (best : Bool) (source : TaskSource) (rank : Rank) : Type 0 where
  pub opened : is_open pool best ≡ true
  pub made : IsMadeFor (queue_of pool.lanes lane best) source
  pub held : rank_of (queue_of pool.lanes lane best) source ≡ Some rank

-- nothing of this sort, or one of which no rank goes before
abbrev pub IsBestOf : (TaskSource → Rank → Type 0) → Option (TaskSource × Rank) → Type 0
IsBestOf offered None = (source : TaskSource) (rank : Rank) → offered source rank → ⊥
IsBestOf offered (Some (source, rank)) = offered source rank × ((other : TaskSource) (r : Rank) → offered other r → rank_below r rank ≡ false)

-- whether an open queue of the lane holds a source
abbrev pub HasOffer : Pool → ℕ → Bool → Type 0
HasOffer pool lane true = (best : Bool) × (source : TaskSource) × (rank : Rank) × IsOffered pool lane best source rank
HasOffer pool lane false = (best : Bool) (source : TaskSource) (rank : Rank) → ¬ IsOffered pool lane best source rank

-- what a seat may take: of lane 0, and of its own
abbrev pub IsOffer : Pool → ℕ → TaskSource → Rank → Type 0
IsOffer pool seat source rank = (lane : ℕ) × (best : Bool) × ((lane ≡ 0) ⊎ (lane ≡ seat)) × IsOffered pool lane best source rank

-- the one whose rank goes before the other's; the first where neither does
abbrev pub better_of : Option (TaskSource × Rank) → Option (TaskSource × Rank) → Option (TaskSource × Rank)
better_of None second = second
better_of (Some first) None = Some first
better_of (Some first) (Some second) = if rank_below second.1 first.1 then Some second else Some first

-- there is a source, and it is the sequence of a single-thread runner, which has the runner's number
abbrev pub is_single : Plan → Option (TaskSource × Rank) → Bool
is_single script None = false
is_single script (Some (Sequence s, rank)) = is_some (seat_of script s)
is_single script (Some (Job j, rank)) = false
