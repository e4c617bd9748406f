use Rattle.std.proofs.Common.{refl, arith}
use Rattle.std.proofs.lemmas.Bool.{eq-eqb, eqb-true}
use Rattle.pool_core.proofs.Jobs.JobStands.{inside_held}
use Rattle.pool_core.proofs.pool.Pool.cancelled.Goals as goal

pub returns-then-running-gt0-clause-ok : goal.returns-then-running-gt0-clause-ok
returns-then-running-gt0-clause-ok c script past can =
    let running = inside_held c.args.job c.inside-running.result c.index.result.now can c.index.ensures c.inside-running.ensures.count in
    ((λ none. absurd cc), (λ empty. absurd (omega (arith, running, eqb-true _ _ empty, c.if-running-gt0.true))))

pub returns-then-running-gt0-clause-not_yet : goal.returns-then-running-gt0-clause-not_yet
returns-then-running-gt0-clause-not_yet c script past can =
    (inside_held c.args.job c.inside-running.result c.index.result.now can c.index.ensures c.inside-running.ensures.count, refl)

pub returns-clause-ok : goal.returns-clause-ok
returns-clause-ok c script past can =
    let running = inside_held c.args.job c.inside-running.result c.index.result.now can c.index.ensures c.inside-running.ensures.count in
    ((λ yes. eq-eqb _ _ (omega (arith, running, c.if-running-gt0.false))), (λ empty. refl))
