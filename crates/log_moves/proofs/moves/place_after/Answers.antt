use Rattle.log_moves.proofs.Allowed.{after_allowed}
use Rattle.log_moves.proofs.moves.place_after.Goals as goal

pub returns-clause-allowed : goal.returns-clause-allowed
returns-clause-allowed c = rw c.in_ok-found.ensures (after_allowed c.args.script.now c.args.past.now c.args.entry c.args.rest.now)
