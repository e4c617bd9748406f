-- What contracts see of the set of the open fronts of one class in one lane.
use Rattle.std.specs.Prelude.{ℕ, nat_lt, Bool, List}
use Rattle.queue_selector.specs.declared.front_set.Entry.{Entry}

-- the fronts in the order of the set, and how many there is room for
pub record Entries : Type 0 where
  pub entries : List Entry
  pub room : ℕ

-- the first has the lesser order
abbrev pub entry_below : Entry → Entry → Bool
entry_below a b = nat_lt a.order b.order

-- the set with other fronts
abbrev pub with_entries : Entries → List Entry → Entries
with_entries set entries = record set { entries = entries }
