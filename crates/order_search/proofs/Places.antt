-- Places in a list.
-- Cited by `Tries::link`, `Linked`, `Merged`, `Ruled`, `Steps`, `Tried`.
use Rattle.std.proofs.Common.{◌≡◌, ℕ, ◌<◌, ◌≤◌, List, length, get_or, sym, subst}
use Rattle.std.proofs.lemmas.List.{drop_all, drop_more}
use Rattle.std.proofs.lemmas.Bool.{cases_lt}
use Rattle.std.specs.Prelude.{◌⊎◌}
use Rattle.std.proofs.Common.{inl, inr}
use Rattle.order_search.specs.Places.{IsAt}

-- the element at an index stands there
pub at_index : {A : Type 0} (xs : List A) (i : ℕ) (d : A) → i < length xs → IsAt xs i (get_or xs i d)
at_index xs i d within = record { is = drop_more xs i d within }

-- what stands at a place is within the list
pub at_within : {A : Type 0} (xs : List A) (i : ℕ) (x : A) → IsAt xs i x → i < length xs
at_within xs i x at = by_order (cases_lt i (length xs))
  where
    by_order : (i < length xs) ⊎ (length xs ≤ i) → i < length xs
    by_order (inl less) = less
    by_order (inr more) = let none = drop_all i xs more in let is = at.is in absurd cc

-- only one element stands at a place
pub at_same : {A : Type 0} (xs : List A) (i : ℕ) (x y : A) → IsAt xs i x → IsAt xs i y → x ≡ y
at_same xs i x y a b = let one = a.is in let other = b.is in cc

-- what is read at an index stands there
pub at_read : {A : Type 0} (xs : List A) (i : ℕ) (x : A) → i < length xs → x ≡ get_or xs i x → IsAt xs i x
at_read xs i x within read = subst (IsAt xs i) (sym read) (at_index xs i x within)
