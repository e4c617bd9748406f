use Rattle.std.proofs.Common.{arith, refl, subst}
use Rattle.pool_core.specs.TaskLists.{IsPopped}
use Rattle.pool_core.proofs.Sources.Moves.{all_let_go, first_posted, let_go_moved, let_go_shorter, moving_place, only_moved, sequence_fits, task_declared}
use Rattle.pool_core.proofs.pool.Pool.let_go.Goals as goal

pub pop-requires : goal.pop-requires
pop-requires c = let moving = c.loop-task.invariant.moves c.requires.0 c.requires.1 c.requires.2 in omega (arith, moving.declared, moving.lines)

pub seq_of-seq-requires-clause-fits : goal.seq_of-seq-requires-clause-fits
seq_of-seq-requires-clause-fits c =
    let moving = c.loop-task.invariant.moves c.requires.0 c.requires.1 c.requires.2 in sequence_fits moving (first_posted c.pop.new.self moving c.in-Some.ensures.popped)

pub remove-requires : goal.remove-requires
remove-requires c =
    let moving = c.loop-task.invariant.moves c.requires.0 c.requires.1 c.requires.2 in
    rw c.seq_of-seq.ensures (moving_place c.pop.new.self moving (first_posted c.pop.new.self moving c.in-Some.ensures.popped))

pub set_aside-requires-clause-seq : goal.set_aside-requires-clause-seq
set_aside-requires-clause-seq c =
    let moving = c.loop-task.invariant.moves c.requires.0 c.requires.1 c.requires.2 in
    rw (c.remove.ensures, c.seq_of-seq.ensures) (moving_place c.pop.new.self moving (first_posted c.pop.new.self moving c.in-Some.ensures.popped)).there

pub set_aside-requires-clause-there : goal.set_aside-requires-clause-there
set_aside-requires-clause-there c =
    let moving = c.loop-task.invariant.moves c.requires.0 c.requires.1 c.requires.2 in
    rw c.remove.ensures (omega (arith, moving.ranked, moving.lines, c.in-Some.ensures.shape.lists))

pub set_aside-requires-clause-known : goal.set_aside-requires-clause-known
set_aside-requires-clause-known c =
    let moving = c.loop-task.invariant.moves c.requires.0 c.requires.1 c.requires.2 in
    rw c.remove.ensures (omega (
      arith,
      (task_declared moving (first_posted c.pop.new.self moving c.in-Some.ensures.popped)).1,
      moving.tasks,
      c.in-Some.ensures.shape.tasks,
    ))

pub loop-task-smaller : goal.loop-task-smaller
loop-task-smaller c =
    let moving = c.loop-task.invariant.moves c.requires.0 c.requires.1 c.requires.2 in
    rw (c.set_aside.ensures, c.remove.ensures)
    (let_go_shorter c.pop.new.self c.seq_of-seq.result moving c.in-Some.ensures.popped c.in-Some.ensures.apart c.in-Some.ensures.shape)

pub loop-task-preserved : goal.loop-task-preserved
loop-task-preserved c = record {
  moves = λ script past at. rw (c.set_aside.ensures, c.remove.ensures, c.seq_of-seq.ensures)
      (let_go_moved c.pop.new.self (c.loop-task.invariant.moves script past at) c.in-Some.ensures.popped c.in-Some.ensures.apart c.in-Some.ensures.shape);
  others = only_moved c.args.self.now c.loop-task.self c.set_aside.new.self c.loop-task.invariant.others (rw (c.set_aside.ensures, c.remove.ensures) refl);
}

pub returns-clause-moves : goal.returns-clause-moves
returns-clause-moves c script past at =
    let none = subst (IsPopped c.loop-task.self.lists c.pop.new.self c.args.runner) c.in_default.is c.pop.ensures.popped in
    rw none.0 (all_let_go (c.loop-task.invariant.moves script past at) none.1)
