use Rattle.reply_lint.proofs.lint.fault_line.Goals as goal

pub returns : goal.returns
returns c = rw (← c.cut_at.ensures.front, ← c.cut_at.ensures.line, ← c.objection_of-objection.ensures) c.objection_line.ensures
