-- What a lot that is drawn belongs to.
-- Cited by `Draw::next`.
use Rattle.std.proofs.Common.{◌<◌, ◌≤◌, ℕ, ◌+◌, ◌-◌, ◌*◌, ◌/◌, Bool, true, false, length, arith}
use Rattle.std.specs.Prelude.{if◌then◌else◌}
use Rattle.std.proofs.Math.Nat.{le-mul_of_pos_right}
use Rattle.std.proofs.lemmas.Nat.{div_below}
use Rattle.simulation.specs.Draw.{Drawing, IsFair, all_lots, left_of}

-- a lot past the driver's is some worker's that is left
pub place_below : (lot drivers count each : ℕ) → 1 ≤ each → drivers ≤ lot → lot < drivers + count * each → (lot - drivers) / each < count
place_below lot drivers count each some past below = div_below (lot - drivers) each count some (omega (arith, past, below))

some_of : (b : Bool) (drivers count each : ℕ) → 1 ≤ drivers → 1 ≤ each → 1 ≤ (if b then 1 else 0) + count → 1 ≤ (if b then drivers else 0) + count * each
some_of true drivers count each driver worker left = omega (arith, driver)
some_of false drivers count each driver worker left = omega (arith, left, le-mul_of_pos_right {m = each} count worker)

-- whoever is left has a lot
pub some_lots : (d : Drawing) → IsFair d.lots → 1 ≤ left_of d → 1 ≤ all_lots d
some_lots d fair left = some_of d.driver d.lots.driver (length d.workers) d.lots.worker fair.driver fair.worker left
