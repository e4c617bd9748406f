use Rattle.std.proofs.Common.{ap, arith, length, refl, sym, ◌∙◌}
use Rattle.order_search.proofs.Linked.{linked_same}
use Rattle.order_search.proofs.tries.Tries.of.Goals as goal

pub link-requires-clause-linked : goal.link-requires-clause-linked
link-requires-clause-linked c = linked_same _ _ _ _ _ _ _ _ (sym c.loop-k.invariant.linked.some_heads)
    (omega (arith, c.len-count.ensures, c.args.events.ok.0, ap length c.loop-k.invariant.same, c.loop-k-test.true)) c.loop-k.invariant.linked

pub loop-k-preserved : goal.loop-k-preserved
loop-k-preserved c =
    let same = c.link.ensures.events ∙ c.loop-k.invariant.same in
    record {
      same = same;
      linked = rw c.link.ensures.events (linked_same _ _ _ _ _ _ _ _ c.loop-k.invariant.linked.some_heads
          (omega (arith, c.len-count.ensures, c.args.events.ok.0, ap length c.loop-k.invariant.same)) c.link.ensures.linked);
    }

pub returns-clause-linked : goal.returns-clause-linked
returns-clause-linked c = rw (← c.loop-k.invariant.same) (linked_same _ _ _ _ _ _ _ _ refl
    (omega (arith, c.len-count.ensures, c.args.events.ok.0, ap length c.loop-k.invariant.same, c.loop-k-test.false)) c.loop-k.invariant.linked)
