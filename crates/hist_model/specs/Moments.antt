-- The moments that the readings of a clock become (this project's own rule).
use Rattle.std.specs.Prelude.{ℕ, min, max, List, [], ◌∷◌, fold}
use Rattle.std.specs.List.{filter_map}
use Rattle.task_base.specs.declared.limits.TheConstants.{LAST_MOMENT}
use Rattle.task_base.specs.declared.entry.Entry.{Entry}
use Rattle.task_model.specs.Orders.{moment_of}

-- a reading, raised to the moment before, and then lowered to the last moment of all
abbrev pub moment_behind : ℕ → ℕ → ℕ
moment_behind before reading = min (max reading before) LAST_MOMENT

-- what the readings become behind a moment, each behind the one before it
abbrev pub moments_from : ℕ → List ℕ → List ℕ
moments_from before [] = []
moments_from before (reading ∷ rest) = moment_behind before reading ∷ moments_from (moment_behind before reading) rest

-- what the readings become; the first stands behind 0
unfoldable pub moments_of : List ℕ → List ℕ
moments_of readings = moments_from 0 readings

-- the last of some moments, or 0 where there is none
abbrev pub last_of : List ℕ → ℕ
last_of moments = fold (λ before now. now) 0 moments

-- the moments of the ticks of a log, in order
abbrev pub ticks_of : List Entry → List ℕ
ticks_of log = filter_map (λ e. moment_of e.kind) log
