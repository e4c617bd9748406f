use Rattle.path_count.proofs.Steps.{ending-step}
use Rattle.path_count.proofs.layers.add_ending.Goals as goal

pub loop-i-preserved : goal.loop-i-preserved
loop-i-preserved g c =
    ending-step (g.W.Walk.is_end c.args.walk.now) c.args.layer.now c.loop-i.i c.at.result.0.now c.at.result.1.now c.args.ended.now c.loop-i.ended
    c.add_if_end.new.ended c.at.ensures c.loop-i.invariant c.in_ok-add_if_end.ensures
