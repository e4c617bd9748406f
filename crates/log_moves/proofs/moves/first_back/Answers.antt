use Rattle.std.proofs.Common.{◌∙◌, arith, sym}
use Rattle.log_moves.specs.Moves.{fits_before}
use Rattle.log_moves.proofs.Nearest.{first_here, none_more}
use Rattle.log_moves.proofs.moves.first_back.Goals as goal

pub returns-then-branch-clause-first : goal.returns-then-branch-clause-first
returns-then-branch-clause-first c =
    let test = fits_before c.args.script.now c.args.past.now c.args.entry in
    sym (first_here test c.loop-back.back _ (omega (arith, c.loop-back-test.true, c.min-back-end.ensures)) c.loop-back.invariant.none_yet
    (sym c.in_ok-is_legal_with.ensures ∙ c.if-branch.true))

pub loop-back-preserved : goal.loop-back-preserved
loop-back-preserved c = record {
  none_yet = none_more (fits_before c.args.script.now c.args.past.now c.args.entry) c.loop-back.back c.loop-back.invariant.none_yet
      (sym c.in_ok-is_legal_with.ensures ∙ c.if-branch.false);
}
