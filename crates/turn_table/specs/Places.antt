-- Where the numbers of seats stand, and what is kept of the seats that were joined (this project's own rules).
use Rattle.std.specs.Prelude.{◌≢◌, ℕ, List, [], ◌∷◌}
use Rattle.std.specs.List.{AllByRecursion}
use Rattle.task_base.specs.declared.entry.Entry.{Entry}

-- a number that no seat was given, one whose seat was joined, or one whose live seat has this place among the views
pub data Place : Type 0 where
  not_given : Place
  joined : Place
  at : ℕ → Place

-- a seat that was joined: its number, what it had seen, and its own entries
pub record Kept : Type 0 where
  pub number : ℕ
  pub seen : List Entry
  pub mine : List Entry

-- no two of these seats have one number
abbrev pub AreApart : List Kept → Type 0
AreApart [] = Unit {0}
AreApart (k ∷ rest) = AllByRecursion (λ other. other.number ≢ k.number) rest × AreApart rest
