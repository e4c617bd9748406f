use Rattle.std.proofs.Common.{◌≡◌, ◌≤◌, length, take}
use Rattle.path_count.specs.Layers.{gathered, spread}
use Rattle.path_count.proofs.layers.next_layer.Given as goal

abbrev pub invariant-loop-i : goal.invariant-loop-i
invariant-loop-i g l =
    (l.next ≡ gathered g.W.Place.PartialEq.eq (spread (g.W.Walk.onward l.walk) (take l.i l.layer))) × (length l.next ≤ l.most)
