-- How the tasks that a script posts to its main queues are counted.
use Rattle.std.specs.Prelude.{◌≡◌, ℕ, ◌+◌, ◌<◌, ◌^◌, List, length, Some, slice_get}
use Rattle.std.specs.List.{AllByRecursion}
use Rattle.list_laws.specs.Lists.{count}
use Rattle.sequence_manager.specs.Postings.{MainPosting, is_to}

-- there is a count for each queue, of what was posted to it
pub record AreCounts (queues : ℕ) (counts : List ℕ) (postings : List MainPosting) : Type 0 where
  pub all : length counts ≡ queues
  pub each : (q : ℕ) → q < queues → slice_get counts q ≡ Some (count (is_to q) postings)

-- more postings may be counted: they are to queues that are there, and not too many
pub record CanCount (queues : ℕ) (counts : List ℕ) (before more : List MainPosting) : Type 0 where
  pub counted : AreCounts queues counts before
  pub there : AllByRecursion (λ p. p.queue < queues) more
  pub few : length before + length more < 2 ^ 31
