use Rattle.env_core.specs.Views.{spare_of}
use Rattle.std.proofs.Common.{arith}
use Rattle.env_core.proofs.ledger.Ledger.into_log.Goals as goal

pub returns-clause-room : goal.returns-clause-room
unfolding spare_of
returns-clause-room c = rw (← c.self.view_is) (omega (arith, c.self.invariant.room))
