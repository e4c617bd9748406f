use Rattle.std.proofs.Common.{◌≡◌, ◌+◌, ap, arith, length, take}
use Rattle.path_count.specs.Layers.{gathered, spread}
use Rattle.path_count.proofs.Steps.{gathered-step, gathered_of_first}
use Rattle.path_count.proofs.layers.next_layer.Goals as goal

pub returns-then-len-most : goal.returns-then-len-most
returns-then-len-most g c =
    let next : c.add_each.new.known ≡ gathered g.W.Place.PartialEq.eq (spread (g.W.Walk.onward c.args.walk.now) (take (c.loop-i.i + 1) c.args.layer.now)) =
    gathered-step g.W.Place.PartialEq.eq (g.W.Walk.onward c.args.walk.now) c.args.layer.now c.loop-i.i c.at.result.0.now c.at.result.1.now
    c.in_ok-onward.field-0.items c.loop-i.next c.add_each.new.known c.at.ensures c.in_ok-onward.ensures c.loop-i.invariant.0 c.in_ok-add_each.ensures in
    omega (arith, ap length next, gathered_of_first g.W.Place.PartialEq.eq (g.W.Walk.onward c.args.walk.now) c.args.layer.now (c.loop-i.i + 1))

pub loop-i-preserved : goal.loop-i-preserved
loop-i-preserved g c = (
  gathered-step g.W.Place.PartialEq.eq (g.W.Walk.onward c.args.walk.now) c.args.layer.now c.loop-i.i c.at.result.0.now c.at.result.1.now
      c.in_ok-onward.field-0.items c.loop-i.next c.add_each.new.known c.at.ensures c.in_ok-onward.ensures c.loop-i.invariant.0 c.in_ok-add_each.ensures,
  omega arith,
)
