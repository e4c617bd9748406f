use Rattle.hist_model.proofs.Laws.Entries.Bound.{entries_within_limit}
use Rattle.std.proofs.Common.{arith}
use Rattle.env_core.proofs.ledger.Ledger.len.Goals as goal

pub overflow_cast-result : goal.overflow_cast-result
overflow_cast-result c = omega (arith, c.len.ensures.count, entries_within_limit _ _ c.self.invariant.run.plan c.self.invariant.run.legal)
