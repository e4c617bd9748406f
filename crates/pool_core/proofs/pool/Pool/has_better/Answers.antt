use Rattle.pool_core.proofs.Jobs.Yields.{better_found}
use Rattle.std.proofs.Common.{false, sym, true, ◌∙◌}
use Rattle.pool_core.proofs.pool.Pool.has_better.Goals as goal

pub returns-then-may_run : goal.returns-then-may_run
returns-then-may_run c script past stands = c.is_higher.ensures
    ∙ better_found script past c.args.self.now c.args.priority c.best-best.result true stands c.best-best.ensures (sym c.may_run.ensures ∙ c.if-may_run.true)

pub returns-else-may_run : goal.returns-else-may_run
returns-else-may_run c script past stands = c.if-may_run.false
    ∙ better_found script past c.args.self.now c.args.priority c.best-best.result false stands c.best-best.ensures (sym c.may_run.ensures ∙ c.if-may_run.false)
