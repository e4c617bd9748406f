use Rattle.pool_core.proofs.Jobs.JobStands.{held_is}
use Rattle.pool_core.proofs.Jobs.Yields.{makes_way_by}
use Rattle.pool_core.specs.declared.pool_job.PoolJob.{PoolJob}
use Rattle.std.proofs.Common.{ap, false, sym, true, ◌∙◌}
use Rattle.task_model.specs.Capacity.{priority_of_job}
use Rattle.pool_core.proofs.pool.Pool.makes_way.Goals as goal

pub returns-then-is_full : goal.returns-then-is_full
returns-then-is_full c script past can =
    let held = c.index.result.now in
    let priority = ap (λ (h : PoolJob). h.priority) (held_is c.args.job held can c.index.ensures) in
    c.has_better.ensures script past can.stands
    ∙ makes_way_by script past c.args.self.now held.priority (priority_of_job script c.args.job) true can.stands priority
    (sym c.if-is_full.true ∙ c.is_full.ensures)

pub returns-else-is_full : goal.returns-else-is_full
returns-else-is_full c script past can =
    let held = c.index.result.now in
    let priority = ap (λ (h : PoolJob). h.priority) (held_is c.args.job held can c.index.ensures) in
    c.if-is_full.false
    ∙ makes_way_by script past c.args.self.now held.priority (priority_of_job script c.args.job) false can.stands priority
    (sym c.if-is_full.false ∙ c.is_full.ensures)
