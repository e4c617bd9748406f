use Rattle.log_context.proofs.Standing.{all_stand}
use Rattle.log_context.proofs.context.context_of.Goals as goal

pub returns-clause-stand : goal.returns-clause-stand
returns-clause-stand c = rw c.in_ok-facts.ensures (all_stand c.args.script.now c.args.past.now c.args.entry.now c.args.named c.args.waits)
