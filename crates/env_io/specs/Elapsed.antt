-- What a clock of the system is seen as.
use Rattle.std.specs.Prelude.{ℕ, ◌-◌, ◌/◌, ◌^◌, min, max, Option, None, Some, unwrap_or}

-- the system's clock as it was first read, in nanoseconds, and the last reading given, in microseconds
pub record Elapsed : Type 0 where
  pub start : Option ℕ
  pub last : ℕ

-- before the first reading
abbrev pub not_started : Elapsed
not_started = record { start = None; last = 0 }

-- microseconds from one moment to another, both in nanoseconds; it stays at the last value of a counter
abbrev pub micros_passed : ℕ → ℕ → ℕ
micros_passed start end = min ((end - start) / 1_000) (2 ^ 64 - 1)

-- after the system's clock was read at this moment: what passed since the first such moment, or what was given last if that is more
abbrev pub after_reading : Elapsed → ℕ → Elapsed
after_reading clock moment = record {
  start = Some (unwrap_or clock.start moment);
  last = max clock.last (micros_passed (unwrap_or clock.start moment) moment);
}
