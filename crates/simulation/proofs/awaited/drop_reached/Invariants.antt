use Rattle.std.proofs.Common.{◌≡◌, ◌<◌, ℕ, true, length}
use Rattle.simulation.specs.Awaits.{is_among}
use Rattle.simulation.proofs.awaited.drop_reached.Given as goal

abbrev pub invariant-loop : goal.invariant-loop
invariant-loop l = ((m : ℕ) → l.now < m → is_among m l.ripe.keys ≡ is_among m l.fn.ripe.keys)
    × ((m : ℕ) → is_among m l.ripe.keys ≡ true → is_among m l.fn.ripe.keys ≡ true)

abbrev pub decreases-loop : goal.decreases-loop
decreases-loop l = length l.ripe.keys
