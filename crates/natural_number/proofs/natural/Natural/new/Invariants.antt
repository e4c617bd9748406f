use Rattle.std.proofs.Common.{◌≡◌, ◌+◌, ◌*◌, ◌^◌, length}
use Rattle.natural_number.specs.Limbs.{AreLimbs, number_of}
use Rattle.natural_number.proofs.natural.Natural.new.Given as goal

abbrev pub invariant-loop-rest : goal.invariant-loop-rest
invariant-loop-rest l = (number_of l.limbs.items + 1000000000 ^ length l.limbs.items * l.rest ≡ l.number) × AreLimbs l.limbs.items

abbrev pub decreases-loop-rest : goal.decreases-loop-rest
decreases-loop-rest l = l.rest
