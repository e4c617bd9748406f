use Rattle.live_core.proofs.Every.{every_entry}
use Rattle.live_core.proofs.laws.calls_are_exact.Goals as goal

pub returns-clause-every : goal.returns-clause-every
returns-clause-every c = every_entry
