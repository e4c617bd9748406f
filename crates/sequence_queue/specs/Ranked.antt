-- What contracts see of a queue of sources, and which rank goes before which.
use Rattle.std.specs.Prelude.{◌≡◌, ℕ, ◌+◌, ◌<◌, ◌==◌, nat_lt, Bool, false, ◌&&◌, ◌||◌, List, Option, Some, None, slice_index_or, slice_set}
use Rattle.task_base.specs.Groups.{importance}
use Rattle.task_base.specs.Keys.{key_below}
use Rattle.task_base.specs.declared.source.TaskSource.{TaskSource}
use Rattle.task_base.specs.declared.source.TaskSource.TheVariants.{Sequence, Job}
use Rattle.sequence_queue.specs.declared.rank.Rank.{Rank}

-- the first rank goes before the second: it is of higher priority (`task_traits.h`), then of fewer inside, then of
-- lesser key (this project's own rule on ties)
abbrev pub rank_below : Rank → Rank → Bool
rank_below a b =
    nat_lt (importance b.priority) (importance a.priority)
    || (importance b.priority == importance a.priority
    && (nat_lt a.inside b.inside || (a.inside == b.inside && key_below a.key b.key)))

-- the ranks of the sources that are held: those of the sequences, then those of the jobs
pub record Ranked : Type 0 where
  pub sequences : ℕ
  pub jobs : ℕ
  pub ranks : List (Option Rank)

-- the number of a source: those of the jobs stand behind those of so many sequences
abbrev pub number_in : ℕ → TaskSource → ℕ
number_in sequences (Sequence s) = s
number_in sequences (Job j) = sequences + j

-- the source is one of so many sequences and jobs
abbrev pub IsAmong : ℕ → ℕ → TaskSource → Type 0
IsAmong sequences jobs (Sequence s) = s < sequences
IsAmong sequences jobs (Job j) = j < jobs

-- where the rank of a source stands
abbrev pub number_of : Ranked → TaskSource → ℕ
number_of q source = number_in q.sequences source

-- the queue was made for this source
abbrev pub IsMadeFor : Ranked → TaskSource → Type 0
IsMadeFor q source = IsAmong q.sequences q.jobs source

-- the rank of a source, where it is held
abbrev pub rank_of : Ranked → TaskSource → Option Rank
rank_of q source = slice_index_or q.ranks (number_of q source) None

-- the queue with another rank for a source, or with none
abbrev pub with_rank : Ranked → TaskSource → Option Rank → Ranked
with_rank q source rank = record q { ranks = slice_set q.ranks (number_of q source) rank }

-- nothing is held; or the source is held with this rank, and no source that is held has a rank that goes before it
abbrev pub IsBest : Ranked → Option (TaskSource × Rank) → Type 0
IsBest q None = (source : TaskSource) → IsMadeFor q source → rank_of q source ≡ None
IsBest q (Some (source, rank)) = IsMadeFor q source × (rank_of q source ≡ Some rank)
    × ((other : TaskSource) (r : Rank) → IsMadeFor q other → rank_of q other ≡ Some r → rank_below r rank ≡ false)
