use Rattle.std.proofs.Common.{None, Some, ap, sym, ◌∙◌}
use Rattle.hist_model.specs.Legal.{first_illegal}
use Rattle.env_check.proofs.Verdicts.{legal_prefix_answer, prefix_verdict_there}
use Rattle.env_check.proofs.check.check_prefix.Goals as goal

pub returns-in-None-clause-verdict : goal.returns-in-None-clause-verdict
returns-in-None-clause-verdict c = prefix_verdict_there c.args.script.now c.args.log.now.items None
    (sym c.in-None.is ∙ c.follow_all-illegal.ensures.place ∙ ap (first_illegal c.args.script.now) c.as_slice.ensures)

pub returns-in-None-clause-legal : goal.returns-in-None-clause-legal
returns-in-None-clause-legal c = legal_prefix_answer c.args.script.now c.args.log.now.items _ (returns-in-None-clause-verdict c)

pub returns-in-Some-clause-verdict : goal.returns-in-Some-clause-verdict
returns-in-Some-clause-verdict c = prefix_verdict_there c.args.script.now c.args.log.now.items (Some c.in-Some.place)
    (sym c.in-Some.is ∙ c.follow_all-illegal.ensures.place ∙ ap (first_illegal c.args.script.now) c.as_slice.ensures)

pub returns-in-Some-clause-legal : goal.returns-in-Some-clause-legal
returns-in-Some-clause-legal c = legal_prefix_answer c.args.script.now c.args.log.now.items _ (returns-in-Some-clause-verdict c)
