-- What the clock of a simulated run stands for.
use Rattle.std.specs.Prelude.{◌≡◌, ℕ, List, Option, Some, None}
use Rattle.task_base.specs.Plan.{Plan}
use Rattle.task_base.specs.declared.entry.Entry.{Entry}
use Rattle.simulation.specs.Awaits.{Awaits}
use Rattle.simulation.specs.Simulated.{reading_at}
use Rattle.simulation.specs.declared.clock.TurnClock.{TurnClock}
use Rattle.simulation.specs.declared.clock.TurnClock.TheVariants.{Steps, Jumps}

-- the clock goes by this step, or by none, and comes after this past
abbrev pub Tells : Option ℕ → Plan → List Entry → TurnClock → Type 0
Tells step script past (Steps each next) = (step ≡ Some each) × (next ≡ reading_at (Some each) script past)
Tells step script past (Jumps kept) = (step ≡ None) × Awaits script past kept
