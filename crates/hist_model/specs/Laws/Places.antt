-- Entries at their places in a log.
use Rattle.std.specs.Prelude.{◌≡◌, ℕ, ◌<◌, Bool, false, List, Some, slice_get}
use Rattle.task_base.specs.declared.entry.Entry.{Entry}
use Rattle.task_base.specs.declared.entry.Kind.{Kind}

-- at this place of the log the seat enters this
abbrev pub IsAt : List Entry → ℕ → ℕ → Kind → Type 0
IsAt log place seat kind = slice_get log place ≡ Some (record { seat = seat; kind = kind })

-- some seat enters this before the place
pub record StandsBefore (log : List Entry) (place : ℕ) (kind : Kind) : Type 0 where
  pub at : ℕ
  pub seat : ℕ
  pub earlier : at < place
  pub is : IsAt log at seat kind

-- no entry between the two places passes the test
abbrev pub NoneBetween : List Entry → ℕ → ℕ → (Kind → Bool) → Type 0
NoneBetween log i k test = (j seat : ℕ) (kind : Kind) → i < j → j < k → IsAt log j seat kind → test kind ≡ false
