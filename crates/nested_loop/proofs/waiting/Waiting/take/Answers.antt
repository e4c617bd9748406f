use Rattle.std.proofs.Common.{◌≡◌, ◌+◌, arith, refl, rules, Some, None}
use Rattle.sequence_manager.specs.Calls.{after_take}
use Rattle.nested_loop.specs.Nest.{front_task}
use Rattle.nested_loop.specs.Waiting.{nest_script}
use Rattle.nested_loop.proofs.Kept.{can_take, keeps_taken, place_fits, running_of, runs_taken, takes_front}
use Rattle.nested_loop.proofs.waiting.Waiting.take.Goals as goal

pub returns-in_err-task-clause-front : goal.returns-in_err-task-clause-front
returns-in_err-task-clause-front c = λ nest past can.
    let none : None ≡ front_task nest past = takes_front nest past c.args.self.now can None
    (c.in_err-task.ensures.answer (nest_script nest) can.keeps.entries (can_take nest past c.args.self.now can)) in
    first_of (cc, grind (arith, none), search (rules, none))

pub end-requires : goal.end-requires
end-requires c =
    let nest = c.requires.0 in
    let past = c.requires.1 in
    let can = c.requires.2 in
    let main = can_take nest past c.args.self.now can in
    let taken = c.in_ok-task in (
      nest_script nest,
      after_take can.keeps.entries (Some (taken.task, taken.queue, taken.cell)),
      running_of taken.task taken.queue taken.cell,
      runs_taken nest past c.args.self.now can taken.task taken.queue taken.cell c.take.new.self
          (taken.ensures.answer (nest_script nest) can.keeps.entries main) (taken.ensures.stands (nest_script nest) can.keeps.entries main),
    )

pub overflow_add-self : goal.overflow_add-self
overflow_add-self c =
    let can = c.requires.2 in
    let fits = place_fits c.requires.0 c.requires.1 c.args.self.now can.sound can.is_past can.keeps in
    omega (arith, fits)

pub returns-clause-front : goal.returns-clause-front
returns-clause-front c = λ nest past can.
    takes_front nest past c.args.self.now can (Some (c.in_ok-task.task, c.in_ok-task.queue, c.in_ok-task.cell))
    (c.in_ok-task.ensures.answer (nest_script nest) can.keeps.entries (can_take nest past c.args.self.now can))

pub returns-clause-taken : goal.returns-clause-taken
returns-clause-taken c = λ nest past can.
    let main = can_take nest past c.args.self.now can in
    let taken = c.in_ok-task in
    keeps_taken nest past c.args.self.now (record { queues = c.end.new.self; place = c.args.self.now.place + 2 }) can taken.task taken.queue taken.cell
    (c.end.ensures (nest_script nest) (after_take can.keeps.entries (Some (taken.task, taken.queue, taken.cell))) (running_of taken.task taken.queue taken.cell)
    (runs_taken nest past c.args.self.now can taken.task taken.queue taken.cell c.take.new.self
    (taken.ensures.answer (nest_script nest) can.keeps.entries main) (taken.ensures.stands (nest_script nest) can.keeps.entries main))) refl
