-- Bytes that are taken piece by piece.
-- Cited by `read_input`.
use Rattle.std.proofs.Common.{◌≡◌, ◌≤◌, ◌+◌, ℕ, List, ◌++◌, length, take, Option, arith}
use Rattle.std.proofs.lemmas.List.{length-append, length-take}
use Rattle.env_io.specs.Bytes.{Gives}
use Rattle.env_io.proofs.Bytes.{Gives-trans}

-- a front of a piece that came behind other bytes makes them so much longer
pub gives_more : (a b c : Option (List ℕ)) (before piece : List ℕ) (n : ℕ) → n ≤ length piece → Gives a before b → Gives b (take n piece) c
    → (taken : List ℕ) × Gives a taken c × (length taken ≡ length before + n)
gives_more a b c before piece n within first second = (
  before ++ take n piece,
  Gives-trans a b c before (take n piece) first second,
  omega (arith, length-append before (take n piece), length-take n piece),
)
