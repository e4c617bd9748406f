use Rattle.std.proofs.Common.{◌++◌, drop, take, length, ap, ◌∙◌, arith, length-append, length-drop}
use Rattle.std.specs.Prelude.{filter}
use Rattle.task_sequence.specs.Links.{tasks_of}
use Rattle.task_sequence.specs.Sequences.{may_stay}
use Rattle.task_sequence.proofs.Turns.{length-tasks, turned-step, KeepsOthers-trans}
use Rattle.task_sequence.proofs.lines.purge_list.Goals as goal

pub turn-removed-requires-clause-some : goal.turn-removed-requires-clause-some
turn-removed-requires-clause-some c =
    let all = tasks_of c.args.nodes.now.slots c.args.ends.now in
    let kept = filter (may_stay c.args.phase) (take c.loop.counter all) in
    let now = length-tasks c.loop.nodes.slots c.loop.ends (tasks_of c.loop.nodes.slots c.loop.ends) c.loop.invariant.linked in
    let first = length-tasks c.args.nodes.now.slots c.args.ends.now all c.requires.linked in
    let parts = ap length c.loop.invariant.tasks ∙ length-append (drop c.loop.counter all) kept in
    let left = length-drop c.loop.counter all in
    omega (arith, now, first, parts, left)

pub loop-preserved : goal.loop-preserved
loop-preserved c =
    let all = tasks_of c.args.nodes.now.slots c.args.ends.now in
    let first = length-tasks c.args.nodes.now.slots c.args.ends.now all c.requires.linked in
    record {
      linked = c.turn-removed.ensures.linked;
      tasks = c.turn-removed.ensures.tasks
          ∙ ap (λ ts. drop 1 ts ++ filter (may_stay c.args.phase) (take 1 ts)) c.loop.invariant.tasks
          ∙ turned-step (may_stay c.args.phase) all c.loop.counter (omega (arith, first));
      others = KeepsOthers-trans c.args.nodes.now.slots c.loop.nodes.slots c.turn-removed.new.nodes.slots c.args.ends.now c.loop.ends c.turn-removed.new.ends
          c.loop.invariant.others c.turn-removed.ensures.others;
      count = omega arith;
      held = omega arith;
      capacity = c.turn-removed.ensures.capacity ∙ c.loop.invariant.capacity;
      whole = c.loop.invariant.whole;
    }
