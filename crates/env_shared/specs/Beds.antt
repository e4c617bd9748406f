-- What the threads of seats sleep on.
use Rattle.std.specs.Prelude.{◌≡◌, ℕ, List, Some, slice_get}

-- the bed at each place is that of the seat with its number
abbrev pub AreInPlace : List ℕ → Type 0
AreInPlace beds = (place seat : ℕ) → slice_get beds place ≡ Some seat → seat ≡ place
