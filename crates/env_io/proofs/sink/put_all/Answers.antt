use Rattle.std.proofs.Common.{◌∙◌, arith}
use Rattle.env_io.proofs.Bytes.{gains_more}
use Rattle.env_io.proofs.sink.put_all.Goals as goal

pub loop-done-preserved : goal.loop-done-preserved
loop-done-preserved g c = record {
  within = grind (arith, c.in_ok-done.ensures.within);
  taken = gains_more _ _ _ _ _ c.in_ok-done.field-0 c.loop-done.invariant.taken c.in_ok-done.ensures.taken;
  steady = c.in_ok-done.ensures.steady ∙ c.loop-done.invariant.steady;
}
