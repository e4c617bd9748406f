use Rattle.std.proofs.Common.{Some, ap, arith, length, refl, subst, sym, ◌∙◌, ◌≡◌}
use Rattle.pool_core.specs.TaskLists.{IsPopped, list_of}
use Rattle.pool_core.proofs.Sources.Moves.{all_placed, moving_place, only_moved, placed_moved, placed_shorter, sequence_fits, spare_posted, task_declared}
use Rattle.pool_core.proofs.pool.Pool.place_listed.Goals as goal

pub pop-requires : goal.pop-requires
pop-requires c = let moving = c.loop-task.invariant.moves c.requires.0 c.requires.1 c.requires.2 in omega (arith, c.len.ensures, c.loop-task.self.priorities.ok.0, moving.ranked, moving.lines)

pub seq_of-seq-requires-clause-fits : goal.seq_of-seq-requires-clause-fits
seq_of-seq-requires-clause-fits c =
    let moving = c.loop-task.invariant.moves c.requires.0 c.requires.1 c.requires.2 in
    let spare : c.len.result ≡ length c.requires.0.runners = omega (arith, c.len.ensures, c.loop-task.self.priorities.ok.0, moving.ranked) in
    sequence_fits moving (spare_posted c.pop.new.self moving (subst (λ n. IsPopped c.loop-task.self.lists c.pop.new.self n (Some c.in-Some.task)) spare c.in-Some.ensures.popped))

pub refresh-requires : goal.refresh-requires
refresh-requires c =
    let moving = c.loop-task.invariant.moves c.requires.0 c.requires.1 c.requires.2 in
    let spare : c.len.result ≡ length c.requires.0.runners = omega (arith, c.len.ensures, c.loop-task.self.priorities.ok.0, moving.ranked) in
    rw c.seq_of-seq.ensures (moving_place c.pop.new.self moving (spare_posted c.pop.new.self moving (subst (λ n. IsPopped c.loop-task.self.lists c.pop.new.self n (Some c.in-Some.task)) spare c.in-Some.ensures.popped)))

pub push-requires-clause-there : goal.push-requires-clause-there
push-requires-clause-there c =
    let moving = c.loop-task.invariant.moves c.requires.0 c.requires.1 c.requires.2 in
    let spare : c.len.result ≡ length c.requires.0.runners = omega (arith, c.len.ensures, c.loop-task.self.priorities.ok.0, moving.ranked) in
    rw c.refresh.ensures (omega (arith, moving.declared, moving.lines, c.in-Some.ensures.shape.lists))

pub push-requires-clause-known : goal.push-requires-clause-known
push-requires-clause-known c =
    let moving = c.loop-task.invariant.moves c.requires.0 c.requires.1 c.requires.2 in
    let spare : c.len.result ≡ length c.requires.0.runners = omega (arith, c.len.ensures, c.loop-task.self.priorities.ok.0, moving.ranked) in
    rw c.refresh.ensures (omega (
      arith,
      (task_declared moving (spare_posted c.pop.new.self moving (subst (λ n. IsPopped c.loop-task.self.lists c.pop.new.self n (Some c.in-Some.task)) spare c.in-Some.ensures.popped))).1,
      moving.tasks,
      c.in-Some.ensures.shape.tasks,
    ))

pub loop-task-smaller : goal.loop-task-smaller
loop-task-smaller c =
    let moving = c.loop-task.invariant.moves c.requires.0 c.requires.1 c.requires.2 in
    let spare : c.len.result ≡ length c.requires.0.runners = omega (arith, c.len.ensures, c.loop-task.self.priorities.ok.0, moving.ranked) in
    let ranked : length c.args.self.now.priorities.items ≡ length c.requires.0.runners = ap (λ p. length p.priorities.items) (sym c.loop-task.invariant.others) ∙ moving.ranked in
    rw (c.push.ensures, c.refresh.ensures, ranked)
    (placed_shorter c.pop.new.self moving (subst (λ n. IsPopped c.loop-task.self.lists c.pop.new.self n (Some c.in-Some.task)) spare c.in-Some.ensures.popped) c.in-Some.ensures.apart c.in-Some.ensures.shape)

pub loop-task-preserved : goal.loop-task-preserved
loop-task-preserved c = record {
  moves = λ script past at. let moving = c.loop-task.invariant.moves script past at in
      let spare : c.len.result ≡ length script.runners = omega (arith, c.len.ensures, c.loop-task.self.priorities.ok.0, moving.ranked) in rw (c.push.ensures, c.refresh.ensures, c.seq_of-seq.ensures)
      (placed_moved c.pop.new.self moving (subst (λ n. IsPopped c.loop-task.self.lists c.pop.new.self n (Some c.in-Some.task)) spare c.in-Some.ensures.popped) c.in-Some.ensures.apart c.in-Some.ensures.shape);
  others = only_moved c.args.self.now c.loop-task.self _ c.loop-task.invariant.others (rw (c.push.ensures, c.refresh.ensures) refl);
}

pub returns-clause-moves : goal.returns-clause-moves
returns-clause-moves c script past at =
    let moving = c.loop-task.invariant.moves script past at in
    let spare : c.len.result ≡ length script.runners = omega (arith, c.len.ensures, c.loop-task.self.priorities.ok.0, moving.ranked) in
    let none = subst (IsPopped c.loop-task.self.lists c.pop.new.self c.len.result) c.in_default.is c.pop.ensures.popped in
    rw none.0 (all_placed moving (ap (list_of c.loop-task.self.lists) (sym spare) ∙ none.1))
