-- The words of a list of numbers are the numbers.
-- Cited by `put_cells`.
use Rattle.std.proofs.Common.{◌≡◌, ℕ, List, [], ◌∷◌, refl, ap}
use Rattle.std.specs.Prelude.{flat_map}

pub cells_are : (cells : List ℕ) → flat_map (λ value. value ∷ []) cells ≡ cells
cells_are [] = refl
cells_are (value ∷ cells) = ap (λ xs. value ∷ xs) (cells_are cells)
