use Rattle.path_count.proofs.Steps.{counted_first, counted_next, holds_next, too_many}
use Rattle.path_count.proofs.count.count_paths.Goals as goal

pub loop-step-init : goal.loop-step-init
loop-step-init g c =
    counted_first g.W.Place.PartialEq.eq (g.W.Walk.onward c.args.walk.now) (g.W.Walk.is_end c.args.walk.now) c.args.start
    (g.W.Walk.IsReached c.args.walk.now) c.args.most c.in_ok-layer.layer c.zero-ended.result c.add_ending.new.ended c.requires.some c.requires.reached
    c.in_ok-layer.ensures c.zero-ended.ensures c.in_ok-add_ending.ensures

pub returns-in-None : goal.returns-in-None
returns-in-None g c =
    too_many g.W.Place.PartialEq.eq (g.W.Walk.onward c.args.walk.now) (g.W.Walk.is_end c.args.walk.now) c.args.start
    (g.W.Walk.IsReached c.args.walk.now) c.args.most c.loop-step.layer c.loop-step.ended c.loop-step.step c.args.steps c.loop-step.invariant
    c.loop-step-test.true
    (rw c.in-None.is at c.in_ok-next_layer.ensures)

pub add_ending-requires-in-loop-step : goal.add_ending-requires-in-loop-step
add_ending-requires-in-loop-step g c =
    holds_next g.W.Place.PartialEq.eq (g.W.Walk.onward c.args.walk.now) (g.W.Walk.is_end c.args.walk.now) c.args.start
    (g.W.Walk.IsReached c.args.walk.now) c.args.most (g.met.W.Walk.goes_on c.args.walk.now) c.loop-step.layer c.in-Some.next c.loop-step.ended c.loop-step.step
    c.loop-step.invariant (rw c.in-Some.is at c.in_ok-next_layer.ensures).0

pub loop-step-preserved : goal.loop-step-preserved
loop-step-preserved g c =
    counted_next g.W.Place.PartialEq.eq (g.W.Walk.onward c.args.walk.now) (g.W.Walk.is_end c.args.walk.now) c.args.start
    (g.W.Walk.IsReached c.args.walk.now) c.args.most (g.met.W.Walk.goes_on c.args.walk.now) c.loop-step.layer c.in-Some.next c.loop-step.ended
    c.add_ending-in-loop-step.new.ended c.loop-step.step c.loop-step.invariant
    (rw c.in-Some.is at c.in_ok-next_layer.ensures).0 (rw c.in-Some.is at c.in_ok-next_layer.ensures).1 c.in_ok-add_ending-2.ensures
