use Rattle.std.proofs.Common.{◌≡◌}
use Rattle.std.specs.Prelude.{replicate}
use Rattle.env_step.specs.declared.hand.Hand.TheVariants.{Free}
use Rattle.env_step.proofs.hands.free_hands.Given as goal

abbrev pub invariant-loop : goal.invariant-loop
invariant-loop l = l.hands.items ≡ replicate l.counter Free
