use Rattle.std.proofs.Common.{arith, subst}
use Rattle.env_step.proofs.Behind.{free_all}
use Rattle.env_step.specs.Hands.{IsInHand}
use Rattle.env_step.proofs.hands.step_with.Goals as goal

pub step_of_task-requires : goal.step_of_task-requires
step_of_task-requires c = record {
  legal = c.requires.legal;
  known = c.requires.known;
  at = subst (IsInHand c.args.env.now c.args.seat) c.in-Task.is c.requires.in_hand;
}

pub step_of_item-requires : goal.step_of_item-requires
step_of_item-requires c = record {
  script = c.requires.script;
  legal = c.requires.legal;
  held = subst (IsInHand c.args.env.now c.args.seat) c.in-Item.is c.requires.in_hand;
}

pub step_of_driver-requires : goal.step_of_driver-requires
step_of_driver-requires c = rw c.if-seat-eq0.true at (free_all c.args.env.now c.args.seat
    (subst (IsInHand c.args.env.now c.args.seat) c.in-Free.is c.requires.in_hand))

pub step_of_worker-requires : goal.step_of_worker-requires
step_of_worker-requires c = record {
  closed = c.requires.closed;
  worker = record {
    worker = omega arith;
    known = c.requires.known;
    free = subst (IsInHand c.args.env.now c.args.seat) c.in-Free.is c.requires.in_hand;
  };
}

pub returns-in-Task : goal.returns-in-Task
returns-in-Task c = c.step_of_task.ensures c.args.reading

pub returns-in-Item : goal.returns-in-Item
returns-in-Item c = c.step_of_item.ensures c.args.reading

pub returns-then-seat-eq0 : goal.returns-then-seat-eq0
returns-then-seat-eq0 c = rw c.if-seat-eq0.true c.step_of_driver.ensures

pub returns-else-seat-eq0 : goal.returns-else-seat-eq0
returns-else-seat-eq0 c = c.step_of_worker.ensures c.args.reading
