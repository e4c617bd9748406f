-- Where a shutdown stands (this project's own rules).
use Rattle.std.specs.Prelude.{◌≡◌, ℕ, Bool, true, List, Some, slice_get}
use Rattle.std.specs.List.{list_any}
use Rattle.task_base.specs.declared.entry.Entry.{Entry}
use Rattle.task_base.specs.Entries.{starts_shutdown}

-- a shutdown is among these entries
abbrev pub has_shutdown : List Entry → Bool
has_shutdown entries = list_any (λ e. starts_shutdown e.kind) entries

-- a shutdown stands at this place of the history
pub record IsShutdownAt (history : List Entry) (place : ℕ) : Type 0 where
  pub entry : Entry
  pub stands : slice_get history place ≡ Some entry
  pub is : starts_shutdown entry.kind ≡ true
