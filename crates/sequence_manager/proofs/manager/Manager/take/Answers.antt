use Rattle.std.proofs.Common.{arith, refl}
use Rattle.queue_laws.specs.Orders.{main_arrivals}
use Rattle.sequence_manager.proofs.Apart.{queue_there}
use Rattle.sequence_manager.proofs.Takes.{stands_at_take, told_at_take}
use Rattle.sequence_manager.proofs.Taking.{cell_there, chosen_from, front_there, nothing_chosen, take_is, taken_is, task_out}
use Rattle.sequence_manager.proofs.manager.Manager.take.Goals as goal

pub returns-in_err-queue-clause-answer : goal.returns-in_err-queue-clause-answer
returns-in_err-queue-clause-answer c script past can = rw c.from_residual.ensures (nothing_chosen can c.in_err-queue.ensures.choice)

pub at_mut-requires : goal.at_mut-requires
at_mut-requires c =
    let can = c.requires.2 in
    let chosen = chosen_from can c.in_ok-queue.ensures.choice in
    omega (arith, chosen.declared, can.stands.parts.queues.all)

pub take_out-task-requires-clause-some : goal.take_out-task-requires-clause-some
take_out-task-requires-clause-some c = rw (front_there c.requires.2 (chosen_from c.requires.2 c.in_ok-queue.ensures.choice) c.at_mut.ensures.queue) refl

pub take_out-task-requires-clause-home : goal.take_out-task-requires-clause-home
take_out-task-requires-clause-home c = rw (cell_there c.requires.2 (chosen_from c.requires.2 c.in_ok-queue.ensures.choice) c.at_mut.ensures.queue) refl

pub refresh-requires : goal.refresh-requires
refresh-requires c =
    let there = queue_there c.args.self.now.queues c.in_ok-queue.queue c.at_mut.result.now c.at_mut.ensures.queue in (
      main_arrivals c.requires.1,
      rw (c.take_out-task.ensures.rest, c.took.ensures, ← there)
          (told_at_take 0 (take_is c.requires.2 (chosen_from c.requires.2 c.in_ok-queue.ensures.choice) refl)),
    )

pub returns-clause-answer : goal.returns-clause-answer
returns-clause-answer c script past can =
    let chosen = chosen_from can c.in_ok-queue.ensures.choice in
    taken_is can chosen c.at_mut.ensures.queue (task_out chosen.first (front_there can chosen c.at_mut.ensures.queue) c.take_out-task.ensures.task)
    c.take_out-task.ensures.cell

pub returns-clause-stands : goal.returns-clause-stands
returns-clause-stands c script past can =
    let chosen = chosen_from can c.in_ok-queue.ensures.choice in
    let there = queue_there c.args.self.now.queues c.in_ok-queue.queue c.at_mut.result.now c.at_mut.ensures.queue in
    rw (c.refresh.ensures, c.take_out-task.ensures.rest, c.took.ensures, ← there)
    (stands_at_take c.take_out-task.result.1
    (take_is can chosen (task_out chosen.first (front_there can chosen c.at_mut.ensures.queue) c.take_out-task.ensures.task)))
