use Rattle.std.proofs.Common.{arith}
use Rattle.std.proofs.lemmas.List.{length-set}
use Rattle.list_laws.proofs.Places.{slice_set-twice}
use Rattle.env_step.specs.declared.hand.Hand.TheVariants.{Free}
use Rattle.env_step.proofs.Behind.{all_behind}
use Rattle.env_step.proofs.hands.Hands.step.Goals as goal

pub take-hand-requires : goal.take-hand-requires
take-hand-requires c = omega (arith, c.requires.hands.all, c.requires.known)

pub step_with-behind-requires-clause-closed : goal.step_with-behind-requires-clause-closed
step_with-behind-requires-clause-closed c = c.requires.hands.closed

pub step_with-behind-requires-clause-legal : goal.step_with-behind-requires-clause-legal
step_with-behind-requires-clause-legal c = c.requires.hands.legal

pub step_with-behind-requires-clause-in_hand : goal.step_with-behind-requires-clause-in_hand
step_with-behind-requires-clause-in_hand c = c.requires.hands.each c.args.seat c.take-hand.result c.take-hand.ensures.was

pub put-requires : goal.put-requires
put-requires c = rw c.take-hand.ensures.free (rw (length-set c.args.self.now c.args.seat Free) (omega (arith, c.requires.hands.all, c.requires.known)))

pub returns-clause-hands : goal.returns-clause-hands
returns-clause-hands c = rw (c.put.ensures, c.take-hand.ensures.free, slice_set-twice c.args.self.now c.args.seat Free c.step_with-behind.result.0)
    (all_behind c.args.self.now c.step_with-behind.result.0 c.requires.hands c.requires.known c.step_with-behind.ensures)

pub returns-clause-steps : goal.returns-clause-steps
returns-clause-steps c = c.step_with-behind.ensures.steps
