-- Places in a list.
use Rattle.std.specs.Prelude.{◌≡◌, ℕ, ◌+◌, List, ◌∷◌, drop}

-- the element stands at this place
pub record IsAt {A : Type 0} (xs : List A) (i : ℕ) (x : A) : Type 0 where
  pub is : drop i xs ≡ x ∷ drop (i + 1) xs
