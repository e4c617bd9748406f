use Rattle.std.proofs.Common.{◌∙◌}
use Rattle.order_answer.proofs.Lines.{line_more}
use Rattle.order_answer.proofs.said.add_lines.Goals as goal

pub loop-place-preserved : goal.loop-place-preserved
loop-place-preserved c = record {
  so_far = c.in_ok-extend_from_slice.ensures.items
      ∙ line_more _ _ _ c.args.log.now c.loop-place.place _ c.loop-place-test.true c.loop-place.invariant.so_far (c.deref.ensures.0 ∙ c.line.ensures.items);
}
