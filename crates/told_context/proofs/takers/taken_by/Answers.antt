use Rattle.std.proofs.Common.{sym, ◌∙◌}
use Rattle.told_context.proofs.Taking.{takes_by, takes_none, takes_nothing}
use Rattle.told_context.proofs.takers.taken_by.Goals as goal

pub returns-then-not-is_free-clause-exact : goal.returns-then-not-is_free-clause-exact
returns-then-not-is_free-clause-exact c =
    let env = c.args.env.now in
    sym (takes_none c.args.script.now env.history c.args.seat (sym (c.is_free.ensures env c.requires.hands) ∙ c.if-not-is_free.true))

pub returns-in-Ok-clause-exact : goal.returns-in-Ok-clause-exact
returns-in-Ok-clause-exact c =
    let env = c.args.env.now in
    rw c.requires.script (sym (takes_by env.script env.history c.args.seat c.in-Ok.kind c.requires.hands.closed c.requires.hands.legal c.requires.worker
    (sym (c.is_free.ensures env c.requires.hands) ∙ c.if-not-is_free.false) c.in-Ok.ensures.steps.0.allowed))

pub returns-in-Err-clause-exact : goal.returns-in-Err-clause-exact
returns-in-Err-clause-exact c =
    let env = c.args.env.now in
    rw c.requires.script (sym (takes_nothing env.script env.history c.args.seat c.in-Err.ensures.steps.1))
