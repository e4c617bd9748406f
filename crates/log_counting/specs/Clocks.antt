-- Which moment a tick reads.
use Rattle.std.specs.Prelude.{ℕ}
use Rattle.situation.specs.Situation.{Situation}
use Rattle.log_count.specs.Clocks.{by_step, by_jumps}
use Rattle.log_counting.specs.declared.clock.Clock.{Clock}
use Rattle.log_counting.specs.declared.clock.Clock.TheVariants.{ByStep, ByJumps}

-- the moment that a tick reads by the clock, told by the situation before it
abbrev pub tick_of : Clock → Situation → ℕ
tick_of (ByStep step) s = by_step step s
tick_of ByJumps s = by_jumps s
