use Rattle.std.proofs.Common.{◌<◌, ◌∙◌}
use Rattle.std.proofs.lemmas.List.Elements.{All-pop}
use Rattle.natural_number.proofs.Numbers.{number-trimmed}
use Rattle.natural_number.proofs.limbs.trim.Goals as goal

pub loop-limbs-preserved : goal.loop-limbs-preserved
loop-limbs-preserved c = (
  number-trimmed 1000000000 c.loop-limbs.limbs.items c.pop.new.self.items c.pop.result c.pop.ensures.items
      (rw c.deref.ensures.value at (c.ends_in_zero.ensures.0 c.loop-limbs-test.true)) ∙ c.loop-limbs.invariant.0,
  (All-pop (λ limb. limb < 1000000000) c.loop-limbs.limbs.items c.pop.new.self.items c.pop.result c.pop.ensures.items c.loop-limbs.invariant.1).0,
)
