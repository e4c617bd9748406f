use Rattle.natural_number.proofs.Texts.{IsBegun}
use Rattle.natural_number.proofs.decimal.add_number.Given as goal

abbrev pub invariant-loop-i : goal.invariant-loop-i
invariant-loop-i l = IsBegun l.initial.text.items l.text.items l.limbs l.i l.begun
