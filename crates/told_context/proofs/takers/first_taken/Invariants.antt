use Rattle.std.proofs.Common.{◌≡◌}
use Rattle.env_step.specs.Hands.{AreInHand}
use Rattle.told_context.proofs.FirstTakers.{NoneBelow}
use Rattle.told_context.proofs.takers.first_taken.Given as goal

abbrev pub invariant-loop-seat : goal.invariant-loop-seat
invariant-loop-seat l = record {
  env_is : l.env ≡ l.initial.env;
  in_hand : AreInHand l.env l.hands;
  none : NoneBelow l.script l.initial.env.history l.from l.seat;
}
