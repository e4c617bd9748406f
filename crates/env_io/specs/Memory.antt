-- What the sources and the sinks in memory are seen as.
use Rattle.std.specs.Prelude.{ℕ, List, ◌-◌, ◌++◌, length, take, Bool, ◌&&◌, nat_le, Option, None, Some, if◌then◌else◌}
use Rattle.env_io.specs.Failing.{FailurePlan}

-- the bytes that a source has left, and its calls that are to fail
pub record Feed : Type 0 where
  pub left : List ℕ
  pub plan : FailurePlan

-- the bytes that a source has left, and how many it gives at most in a call
pub record PieceFeed : Type 0 where
  pub left : List ℕ
  pub size : ℕ

-- the bytes that a sink kept, whether they are all that it took, and how many it keeps at most
pub record Stored : Type 0 where
  pub kept : List ℕ
  pub is_whole : Bool
  pub room : ℕ

-- what a sink stored, and its calls that are to fail
pub record FailingStore : Type 0 where
  pub store : Stored
  pub plan : FailurePlan

-- what a sink stored, and how many bytes it takes at most in a call
pub record PieceStore : Type 0 where
  pub store : Stored
  pub size : ℕ

-- the bytes that a sink took, where it kept all of them
abbrev pub taken_by : Stored → Option (List ℕ)
taken_by store = if store.is_whole then Some store.kept else None

-- how many bytes a sink may still keep
abbrev pub free_in : Stored → ℕ
free_in store = store.room - length store.kept

-- a store with a piece behind what it kept, as far as there is room
abbrev pub with_piece : Stored → List ℕ → Stored
with_piece store piece = record store {
  kept = store.kept ++ take (free_in store) piece;
  is_whole = store.is_whole && nat_le (length piece) (free_in store);
}
