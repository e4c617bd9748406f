use Rattle.log_context.proofs.Standing.{at_work_stands}
use Rattle.log_context.proofs.context.context_at_end.Goals as goal

pub returns-clause-stand : goal.returns-clause-stand
returns-clause-stand c = rw (c.in_ok-add_at_work.ensures, c.new-facts.ensures.items) (at_work_stands c.args.past.now)
