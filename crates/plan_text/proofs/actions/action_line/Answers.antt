use Rattle.std.proofs.Common.{◌+◌, sym, ◌∙◌, ap, arith}
use Rattle.std.specs.Option.{option_copied}
use Rattle.plan_text.proofs.Lines.{first_found, first_later, first_none, one_fewer}
use Rattle.plan_text.proofs.actions.action_line.Goals as goal

pub returns-then-is_action : goal.returns-then-is_action
returns-then-is_action c =
    sym (first_found (c.loop-line.number + 1) c.loop-line.lines c.in-Some.line.now (sym c.in-Some.ensures.line)
    (sym c.is_action.ensures ∙ c.if-is_action.true))
    ∙ c.loop-line.invariant.0

pub loop-line-preserved : goal.loop-line-preserved
loop-line-preserved c =
    let here = sym c.in-Some.ensures.line in
    let fewer = one_fewer c.loop-line.lines c.in-Some.line.now here in (
      rw c.in-Some.ensures.rest (sym (first_later (c.loop-line.number + 1) c.loop-line.lines c.in-Some.line.now here (sym c.is_action.ensures ∙
          c.if-is_action.false))
          ∙ c.loop-line.invariant.0),
      rw c.in-Some.ensures.rest (omega (arith, fewer)),
    )

pub returns : goal.returns
returns c = sym (first_none (c.loop-line.number + 1) c.loop-line.lines (sym c.next.ensures.line ∙ ap option_copied c.in_default.is)) ∙ c.loop-line.invariant.0
