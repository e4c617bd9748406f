-- Who waits in the line, as code keeps it.
use Rattle.std.specs.Prelude.{◌≡◌, refl}
use Rattle.situation.specs.Line.{Waiter, Task, OfJob}
use Rattle.situation_steps.specs.declared.parts.Waits.{Waits}
use Rattle.situation_steps.specs.declared.parts.Waits.TheVariants as waits

-- who waits
abbrev pub waiter_by : Waits → Waiter
waiter_by (waits.Task task home delay) = Task task home delay
waiter_by (waits.OfJob job) = OfJob job

-- as code keeps it
abbrev pub waits_of : Waiter → Waits
waits_of (Task task home delay) = waits.Task task home delay
waits_of (OfJob job) = waits.OfJob job

-- the one undoes the other
pub waits_of_waiter : (w : Waits) → waits_of (waiter_by w) ≡ w
waits_of_waiter (waits.Task task home delay) = refl
waits_of_waiter (waits.OfJob job) = refl
