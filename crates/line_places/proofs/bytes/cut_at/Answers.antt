use Rattle.std.proofs.Common.{length, sym, ◌∙◌, arith}
use Rattle.std.specs.Prelude.{option_copied}
use Rattle.line_places.proofs.LinesOfText.{shorter_still, text_from-more}
use Rattle.line_places.proofs.bytes.cut_at.Goals as goal

pub overflow_sub-front : goal.overflow_sub-front
overflow_sub-front c = rw c.in-Some.is at c.loop-rest.invariant.short

pub loop-rest-preserved : goal.loop-rest-preserved
loop-rest-preserved c = record {
  cut = rw c.cut_line.ensures.behind
      (sym (text_from-more c.loop-rest.left c.in-Some.text.now (omega arith)) ∙ (rw c.in-Some.is at c.loop-rest.invariant.cut));
  short = shorter_still (option_copied c.cut_line.result.1) (length c.in-Some.text.now) (length c.args.bytes.now) c.cut_line.ensures.shorter
      (rw c.in-Some.is at c.loop-rest.invariant.short);
}
