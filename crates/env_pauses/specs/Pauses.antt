-- How long pauses are, in microseconds (this project's own rules).
use Rattle.std.specs.Prelude.{ℕ, ◌+◌, ◌*◌, ◌/◌, ◌^◌}
use Rattle.rand_pcg.specs.Lcg.{Lcg, increment_of, started}
use Rattle.rand_pcg.specs.Pcg.{multiplier_64, pcg32}

-- the number from 0 up to the most that a word of 32 bits stands for
abbrev pub scaled : ℕ → ℕ → ℕ
scaled most word = word * (most + 1) / 2 ^ 32

-- the generator of a seed's draws in one of its streams
abbrev pub draws_of : ℕ → ℕ → Lcg
draws_of seed stream = started 64 multiplier_64 seed (increment_of 64 stream)

-- the stream of the driver's draws: a task's is its number, and none has this one
abbrev pub driver_stream : ℕ
driver_stream = 2 ^ 32

-- the pause of a worker that has taken this task
abbrev pub pause_of : ℕ → ℕ → ℕ → ℕ
pause_of seed task most = scaled most (pcg32 (draws_of seed task)).0
