use Rattle.std.proofs.Common.{arith}
use Rattle.std.proofs.lemmas.Grind.{common_steps}
use Rattle.natural_number.proofs.Texts.{decimal_is}
use Rattle.natural_number.proofs.decimal.add_limb.Goals as goal

pub returns-then-limb-gt0 : goal.returns-then-limb-gt0
returns-then-limb-gt0 c = grind (arith, common_steps, decimal_is)
