-- What the queues of sources stand for.
use Rattle.std.specs.Prelude.{◌≡◌, ℕ, ◌+◌, ◌<◌, ◌==◌, Bool, true, false, not, ◌&&◌, ◌||◌, if◌then◌else◌, List, [], map, replicate, length, Option, None, unwrap_or, slice_index_or, slice_set}
use Rattle.std.specs.List.{list_any, range_with_len}
use Rattle.std.specs.Option.{option_map}
use Rattle.task_base.specs.Plan.{Plan}
use Rattle.task_base.specs.Groups.{is_best_effort}
use Rattle.task_base.specs.Runners.{sequence_count, seat_of_kind}
use Rattle.task_base.specs.declared.entry.Entry.{Entry}
use Rattle.task_base.specs.declared.source.TaskSource.{TaskSource}
use Rattle.list_laws.specs.Lists.{keep, holds_of}
use Rattle.task_model.specs.Sources.{Candidate}
use Rattle.pool_laws.specs.Choice.{source_waiting}
use Rattle.sequence_queue.specs.Ranked.{Ranked, IsMadeFor, rank_of, with_rank}
use Rattle.sequence_queue.specs.declared.rank.Rank.{Rank}
use Rattle.pool_core.specs.declared.lanes.Lane.{Lane}

-- the queue of a lane for best-effort sources, or for the others
abbrev pub queue_in : Bool → Lane → Ranked
queue_in true lane = lane.best_effort
queue_in false lane = lane.others

-- a queue that was made for no source
abbrev pub no_queue : Ranked
no_queue = record { sequences = 0; jobs = 0; ranks = [] }

-- a lane that was made for no source
abbrev pub no_lane : Lane
no_lane = record { best_effort = no_queue; others = no_queue }

-- the queue of a lane's number: lane 0 has the sources that any seat may take, and each other one those of its seat alone
abbrev pub queue_of : List Lane → ℕ → Bool → Ranked
queue_of lanes lane best = queue_in best (slice_index_or lanes lane no_lane)

-- a single-thread runner states the seat
abbrev pub is_stated : Plan → ℕ → Bool
is_stated script seat = list_any (λ r. holds_of (λ only. only == seat) (seat_of_kind r.kind)) script.runners

-- the worker is the first one, or a runner states it: where some worker may take a source, one of these may
abbrev pub is_representative : Plan → ℕ → Bool
is_representative script seat = seat == 1 || is_stated script seat

-- for how many sequences the queues of a lane are made: any may be in lane 0, those of runners in the lane of a seat that a
-- runner states, and none in each other one
abbrev pub sequence_room : Plan → ℕ → ℕ
sequence_room script lane = if lane == 0 then sequence_count script else (if is_stated script lane then length script.runners else 0)

-- for how many jobs they are made
abbrev pub job_room : Plan → ℕ → ℕ
job_room script lane = if lane == 0 then length script.jobs else 0

-- an empty queue for so many sources
abbrev pub empty_queue : ℕ → ℕ → Ranked
empty_queue sequences jobs = record { sequences = sequences; jobs = jobs; ranks = replicate (sequences + jobs) None }

-- an empty lane of this number
abbrev pub empty_lane : Plan → ℕ → Lane
empty_lane script lane = record {
  best_effort = empty_queue (sequence_room script lane) (job_room script lane);
  others = empty_queue (sequence_room script lane) (job_room script lane);
}

-- a lane for all seats, and one for each worker
abbrev pub empty_lanes : Plan → List Lane
empty_lanes script = map (empty_lane script) (range_with_len 0 (script.workers + 1))

-- the lane of what only this seat may take, or of what any seat may take
abbrev pub lane_of : Option ℕ → ℕ
lane_of seat = unwrap_or seat 0

-- both hold, or neither does
abbrev pub same : Bool → Bool → Bool
same true b = b
same false b = not b

-- the rank of a source
abbrev pub rank_as : Candidate → Rank
rank_as c = record { priority = c.priority; inside = c.inside; key = c.key }

-- a source with this rank belongs to this queue of its lane
abbrev pub fits : Bool → Rank → Bool
fits best rank = same (is_best_effort rank.priority) best

-- the source belongs to this queue
abbrev pub belongs : ℕ → Bool → Candidate → Bool
belongs lane best c = lane_of c.seat == lane && fits best (rank_as c)

-- the lanes with another rank for a source in the queue of its lane that it belongs to, and none in the lane's other queue
abbrev pub with_source : List Lane → ℕ → TaskSource → Option Rank → List Lane
with_source lanes lane source rank = slice_set lanes lane (record {
  best_effort = with_rank (queue_of lanes lane true) source (keep (fits true) rank);
  others = with_rank (queue_of lanes lane false) source (keep (fits false) rank);
})

-- there is a lane for each seat, made for the sources that may be in it
pub record AreRoomy (script : Plan) (lanes : List Lane) : Type 0 where
  pub all : length lanes ≡ script.workers + 1
  pub sequences : (lane : ℕ) (best : Bool) → lane < script.workers + 1 → (queue_of lanes lane best).sequences ≡ sequence_room script lane
  pub jobs : (lane : ℕ) (best : Bool) → lane < script.workers + 1 → (queue_of lanes lane best).jobs ≡ job_room script lane
  pub ranks : (lane : ℕ) (best : Bool) → lane < script.workers + 1
      → length (queue_of lanes lane best).ranks ≡ sequence_room script lane + job_room script lane

-- of the queues that are made for a source, that to which it belongs holds it, with its rank, and no other does
pub record IsPlaced (lanes : List Lane) (source : TaskSource) (candidate : Option Candidate) : Type 0 where
  pub ranks : (lane : ℕ) (best : Bool) → IsMadeFor (queue_of lanes lane best) source
      → rank_of (queue_of lanes lane best) source ≡ option_map rank_as (keep (belongs lane best) candidate)

-- each queue holds, with their ranks, exactly the candidates that belong to it
pub record HoldBy (script : Plan) (candidate : TaskSource → Option Candidate) (lanes : List Lane) : Type 0 where
  pub roomy : AreRoomy script lanes
  pub places : (source : TaskSource) → IsPlaced lanes source (candidate source)

-- the candidates are the sources that would wait under the policy `all`
abbrev pub HoldWaiting : Plan → List Entry → List Lane → Type 0
HoldWaiting script past lanes = HoldBy script (source_waiting script past) lanes
