use Rattle.path_count.proofs.Steps.{IsCounted}
use Rattle.path_count.proofs.count.count_paths.Given as goal

abbrev pub invariant-loop-step : goal.invariant-loop-step
invariant-loop-step g l =
    IsCounted g.W.Place.PartialEq.eq (g.W.Walk.onward l.walk) (g.W.Walk.is_end l.walk) l.fn.start (g.W.Walk.IsReached l.walk) l.most
    l.layer l.ended l.step
