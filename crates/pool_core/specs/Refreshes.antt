-- The queues once the sequence of each task that was posted has been given its place.
use Rattle.std.specs.Prelude.{◌≡◌, ◌⊎◌, ℕ, zero, suc, ◌+◌, ◌^◌, ◌<◌, List, length, Option, Some, None, slice_get, slice_index_or}
use Rattle.task_base.specs.Plan.{Plan}
use Rattle.task_base.specs.Runners.{sequence_of}
use Rattle.task_base.specs.declared.source.TaskSource.{TaskSource}
use Rattle.task_base.specs.declared.source.TaskSource.TheVariants.{Sequence}
use Rattle.task_traits.specs.declared.traits.Priority.{Priority}
use Rattle.task_model.specs.Sources.{Candidate}
use Rattle.task_sequence.specs.Sequences.{Held, sequence_at}
use Rattle.pool_core.specs.Queues.{AreRoomy, IsPlaced, with_source}
use Rattle.pool_core.specs.State.{HasPlace, lane_by, rank_by, sequence_by}
use Rattle.pool_core.specs.declared.lanes.Lane.{Lane}
use Rattle.pool_core.specs.declared.posting.Posting.{Posting}
use Rattle.pool_core.specs.declared.pool.Pool.{Pool}

-- the lanes with the sequence of a task in its place, if the task was posted
abbrev pub with_place : Plan → List Priority → Held → List Lane → ℕ → Option Posting → List Lane
with_place table priorities held lanes task None = lanes
with_place table priorities held lanes task (Some posting) =
    with_source lanes (lane_by table posting.runner) (Sequence (sequence_of table posting.runner task))
    (rank_by priorities posting.runner (sequence_at held (sequence_of table posting.runner task)))

-- how a task was posted, where it was
abbrev pub posted_at : List (Option Posting) → ℕ → Option Posting
posted_at postings task = slice_index_or postings task None

-- the lanes with the sequences of so many tasks in their places
abbrev pub placed : Plan → List Priority → List (Option Posting) → Held → List Lane → ℕ → List Lane
placed table priorities postings held lanes zero = lanes
placed table priorities postings held lanes (suc n) =
    with_place table priorities held (placed table priorities postings held lanes n) n (posted_at postings n)

-- the pool with the sequences of so many tasks in their places
abbrev pub refreshed_below : Pool → ℕ → Pool
refreshed_below pool n =
    record pool { lanes = placed pool.runners pool.priorities.items pool.postings.items pool.sequences pool.lanes n }

-- with those of all tasks
abbrev pub all_refreshed : Pool → Pool
all_refreshed pool = refreshed_below pool (length pool.postings.items)

-- the queues have room for the sequence of each task that was posted
abbrev pub HavePlaces : Pool → Type 0
HavePlaces pool = (task : ℕ) (posting : Posting) → slice_get pool.postings.items task ≡ Some (Some posting)
    → (length pool.runners.runners + task < 2 ^ 32) × HasPlace pool (sequence_by pool task posting) posting.runner

-- none of so many tasks was posted to the source
abbrev pub IsUnposted : Plan → List (Option Posting) → TaskSource → ℕ → Type 0
IsUnposted script postings source n = (t : ℕ) (posting : Posting) → t < n → posted_at postings t ≡ Some posting
    → Sequence (sequence_of script posting.runner t) ≡ source → ⊥

-- each source is in its place as it is now, or as it was where none of so many tasks was posted to it
pub record ArePlaced (script : Plan) (postings : List (Option Posting)) (before now : TaskSource → Option Candidate) (lanes : List Lane)
    (n : ℕ) : Type 0 where
  pub roomy : AreRoomy script lanes
  pub places : (source : TaskSource)
      → IsPlaced lanes source (now source) ⊎ (IsPlaced lanes source (before source) × IsUnposted script postings source n)

-- the runner and the task of each posting are declared
abbrev pub AllDeclared : Plan → List (Option Posting) → Type 0
AllDeclared script postings = (t : ℕ) (posting : Posting) → slice_get postings t ≡ Some (Some posting)
    → (posting.runner < length script.runners) × (t < length script.tasks)
