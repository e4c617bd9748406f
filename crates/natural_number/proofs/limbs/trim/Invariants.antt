use Rattle.std.proofs.Common.{◌≡◌, vec_len}
use Rattle.natural_number.specs.Limbs.{AreLimbs, number_of}
use Rattle.natural_number.proofs.limbs.trim.Given as goal

abbrev pub invariant-loop-limbs : goal.invariant-loop-limbs
invariant-loop-limbs l = (number_of l.limbs.items ≡ number_of l.initial.limbs.items) × AreLimbs l.limbs.items

abbrev pub decreases-loop-limbs : goal.decreases-loop-limbs
decreases-loop-limbs l = vec_len l.limbs
