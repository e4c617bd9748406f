-- The readings that the clocks in memory have still to give, in microseconds.
use Rattle.std.specs.Prelude.{◌≡◌, ◌+◌, ◌-◌, ◌*◌, ◌^◌, ◌<◌, ℕ, List, length, drop, min, slice_index, Option, Some}

-- what a clock tells of its readings, from 0, begins with these
abbrev pub BeginsWith : (ℕ → Option ℕ) → List ℕ → Type 0
BeginsWith told first = (k : ℕ) → k < length first → told k ≡ Some (slice_index first k)

-- what a list clock with this list before it tells: past the end the last of the list, or 0 where there is none
abbrev pub list_readings : List ℕ → ℕ → Option ℕ
list_readings ahead k = Some (slice_index ahead (min k (length ahead - 1)))

-- the list before a list clock after one more reading: the last of it stays
abbrev pub after_next : List ℕ → List ℕ
after_next ahead = drop (min 1 (length ahead - 1)) ahead

-- how far each reading of a step clock is behind the one before it, and the reading given last
pub record Steps : Type 0 where
  pub step : ℕ
  pub last : ℕ

-- before the first reading
abbrev pub no_step : ℕ → Steps
no_step step = record { step = step; last = 0 }

-- the reading of a step clock that is so many steps behind its last one; it stays at the last value of a counter
abbrev pub reading_after : Steps → ℕ → ℕ
reading_after clock steps = min (clock.last + steps * clock.step) (2 ^ 64 - 1)

-- what a step clock tells: each reading is one step behind the one before it
abbrev pub step_readings : Steps → ℕ → Option ℕ
step_readings clock k = Some (reading_after clock (k + 1))
