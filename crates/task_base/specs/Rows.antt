-- What contracts see of a list with room.
use Rattle.std.specs.Prelude.{ℕ, List, slice_set}

-- the items in order, and how many more have their room taken
pub record Listed (T : Type 0) : Type 0 where
  pub items : List T
  pub spare : ℕ

-- the list with another item at one place
abbrev pub with_item : {T : Type 0} → Listed T → ℕ → T → Listed T
with_item rows place item = record rows { items = slice_set rows.items place item }
