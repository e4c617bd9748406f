use Rattle.pool_core.proofs.Jobs.JobSteps.{cancel_share_is, cancelled_job, stands_at_job_cancel}
use Rattle.pool_core.proofs.Jobs.JobStands.{held_of, job_set}
use Rattle.pool_core.proofs.Tracking.{counts_at_cancel}
use Rattle.pool_core.specs.JobCalls.{after_job_cancel}
use Rattle.pool_core.specs.JobState.{job_at, job_of, job_refreshed, settled_share}
use Rattle.pool_core.specs.PoolJobs.{is_open}
use Rattle.pool_core.specs.StandsFor.{StandsFor}
use Rattle.std.proofs.Common.{ap, refl, subst, sym, ◌-◌, ◌∙◌, ◌≡◌}
use Rattle.std.specs.Prelude.{slice_set}
use Rattle.std.specs.Vec.{with_item}
use Rattle.pool_core.proofs.pool.Pool.job_cancel.Goals as goal

pub settle-requires-clause-counted : goal.settle-requires-clause-counted
settle-requires-clause-counted c =
    let can = c.requires.2 in
    let pool = c.args.self.now in
    let here = held_of c.args.job c.index_mut.result.now can c.index_mut.ensures.value in
    let was = c.is_open-was_open.ensures ∙ ap is_open (held_of c.args.job c.index.result.now can c.index.ensures) in
    rw (c.cancel.ensures, here, was, job_set c.args.job (cancelled_job (job_of pool c.args.job)) can, cancel_share_is can, can.stands.tracker)
    (counts_at_cancel c.requires.0 c.requires.1 c.args.job can.declared)

pub returns : goal.returns
returns c script past seat can =
    let pool = c.args.self.now in
    let job = c.args.job in
    let new = cancelled_job (job_of pool job) in
    let here = held_of job c.index_mut.result.now can c.index_mut.ensures.value in
    let was = c.is_open-was_open.ensures ∙ ap is_open (held_of job c.index.result.now can c.index.ensures) in
    let share : settled_share (job_at (slice_set pool.jobs.items job new) job) c.is_open-was_open.result ≡ settled_share new (is_open (job_of pool job)) =
    rw (was, job_set job new can) refl in
    rw (c.refresh_job.ensures, c.settle.ensures, c.cancel.ensures, here)
    (subst (λ n. StandsFor script (after_job_cancel past seat job)
    (job_refreshed (record pool { jobs = with_item pool.jobs job new; tracker = record pool.tracker { block_items = pool.tracker.block_items - n } }) job))
    (sym share) (stands_at_job_cancel script past pool seat job can))
