use Rattle.std.proofs.Common.{◌<◌, arith}
use Rattle.std.proofs.lemmas.List.Elements.{All-set}
use Rattle.natural_number.proofs.Numbers.{added}
use Rattle.natural_number.specs.Limbs.{number_of}
use Rattle.natural_number.proofs.limbs.add_limbs.Goals as goal

pub loop-i-preserved : goal.loop-i-preserved
loop-i-preserved c = (
  added 1000000000 c.loop-i.limbs c.args.other.now c.loop-i.i c.of-sum.result.limb c.loop-i.carry c.of-sum.result.carry (number_of c.args.limbs.now)
      (omega arith) c.loop-i.invariant.0 (omega arith),
  All-set (λ limb. limb < 1000000000) c.loop-i.limbs c.loop-i.i c.of-sum.result.limb c.of-sum.ensures.limb c.loop-i.invariant.1,
  c.of-sum.ensures.carry,
)
