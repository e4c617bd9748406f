use Rattle.std.proofs.Common.{◌≡◌, ◌+◌, ◌*◌, ◌^◌, ◌≤◌, take}
use Rattle.natural_number.specs.Limbs.{AreLimbs, number_of}
use Rattle.natural_number.proofs.limbs.add_limbs.Given as goal

abbrev pub invariant-loop-i : goal.invariant-loop-i
invariant-loop-i l =
    (number_of l.limbs + l.carry * 1000000000 ^ l.i ≡ number_of l.initial.limbs + number_of (take l.i l.other))
    × AreLimbs l.limbs × (l.carry ≤ 1)
