use Rattle.std.proofs.Common.{◌≡◌, ◌+◌, take}
use Rattle.path_count.specs.Layers.{ending}
use Rattle.path_count.proofs.layers.add_ending.Given as goal

abbrev pub invariant-loop-i : goal.invariant-loop-i
invariant-loop-i g l = l.ended ≡ l.initial.ended + ending (g.W.Walk.is_end l.walk) (take l.i l.layer)
