use Rattle.std.proofs.Common.{◌∙◌}
use Rattle.std.proofs.lemmas.Result.{IfOk-weaker}
use Rattle.command_line.proofs.Parses.{refused, taken}
use Rattle.command_line.proofs.words.command_of.Goals as goal

pub returns-in-Err-clause-command : goal.returns-in-Err-clause-command
returns-in-Err-clause-command c =
    IfOk-weaker c.refusal.result _ _ (λ command none. none.0 ∙ refused _ _ c.in-Err.error c.in_ok-taskenv.ensures c.in-Err.ensures.kinds none.1)
    c.refusal.ensures

pub returns-clause-command : goal.returns-clause-command
returns-clause-command c =
    c.command_by.ensures.command
    ∙ taken _ _ c.in-Ok.matches _ _ c.in_ok-taskenv.ensures c.in-Ok.ensures.kinds c.in-Ok.ensures.matches c.get_str.ensures c.given_in.ensures
