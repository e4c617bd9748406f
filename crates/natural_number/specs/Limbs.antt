-- Numbers by their limbs, which are digits in a large base.
use Rattle.std.specs.Prelude.{ℕ, ◌+◌, ◌*◌, ◌<◌, List, [], ◌∷◌}
use Rattle.std.specs.List.{All}
use Rattle.natural_number.specs.declared.limbs.TheConstants.{BASE}

-- the number that digits in a base write, the lowest first
abbrev pub number_in : ℕ → List ℕ → ℕ
number_in base [] = 0
number_in base (digit ∷ digits) = digit + base * number_in base digits

-- the number of limbs
abbrev pub number_of : List ℕ → ℕ
number_of limbs = number_in BASE limbs

-- each is a limb
abbrev pub AreLimbs : List ℕ → Type 0
AreLimbs limbs = All (λ limb. limb < BASE) limbs
