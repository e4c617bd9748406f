use Rattle.std.proofs.Common.{ap, sym, ◌∙◌}
use Rattle.env_step.specs.Hands.{is_empty}
use Rattle.env_step.proofs.Free.{free_hand, not_empty}
use Rattle.env_step.proofs.hands.Hands.is_free.Goals as goal

pub returns-in-Free : goal.returns-in-Free
returns-in-Free c view are = sym (ap is_empty c.in-Free.is)
    ∙ free_hand view c.args.seat c.at.result.now (are.each c.args.seat c.at.result.now c.at.ensures)

pub returns-in_default : goal.returns-in_default
returns-in_default c view are = sym (not_empty c.at.result.now c.in_default.not-Free)
    ∙ free_hand view c.args.seat c.at.result.now (are.each c.args.seat c.at.result.now c.at.ensures)
