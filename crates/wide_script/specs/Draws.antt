-- The numbers that a wide script is drawn from (this project's own rule). The first 16 say what it has, then there is one for each
-- task, and then one for each turn of the driver, of which there are as many.
use Rattle.std.specs.Prelude.{ℕ, zero, suc, ◌+◌, ◌*◌, ◌/◌, ◌%◌, ◌^◌, List, [], ◌∷◌, slice_index_or}
use Rattle.rand_pcg.specs.Lcg.{Lcg, started, increment_of}
use Rattle.rand_pcg.specs.Pcg.{multiplier_64, pcg32}
use Rattle.wide_script.specs.declared.parts.Parts.{Parts}

-- the numbers, how many tasks there are to be, and what else
pub record Drawing : Type 0 where
  pub numbers : List ℕ
  pub size : ℕ
  pub parts : Parts

-- PCG's reference generator at a seed, on its first stream
abbrev pub generator_at : ℕ → Lcg
generator_at seed = started 64 multiplier_64 seed (increment_of 64 0)

-- that many words of a generator
unfoldable pub numbers_from : Lcg → ℕ → List ℕ
numbers_from generator zero = []
numbers_from generator (suc n) = (pcg32 generator).0 ∷ numbers_from (pcg32 generator).1 n

-- those that a number gives
abbrev pub drawing : ℕ → ℕ → Parts → Drawing
drawing number size parts = record { numbers = numbers_from (generator_at number) (16 + 2 * size); size = size; parts = parts }

-- the number at a place
abbrev pub number_at : Drawing → ℕ → ℕ
number_at d place = slice_index_or d.numbers place 0

-- the number of a task
abbrev pub number_of_task : Drawing → ℕ → ℕ
number_of_task d task = number_at d (16 + task)

-- the number of a turn of the driver
abbrev pub number_of_turn : Drawing → ℕ → ℕ
number_of_turn d turn = number_at d (16 + d.size + turn)

-- one of that many, by the bits of the number from this one on
abbrev pub one_of : ℕ → ℕ → ℕ → ℕ
one_of count x bit = (x / 2 ^ bit) % count
