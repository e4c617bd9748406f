use Rattle.std.proofs.Common.{arith}
use Rattle.pool_core.proofs.Jobs.JobQueues.{still_placed}
use Rattle.pool_core.proofs.pool.Pool.refresh_jobs.Goals as goal

pub refresh_job-requires : goal.refresh_job-requires
refresh_job-requires c =
    still_placed c.args.self.now c.loop-job.self c.loop-job.job c.loop-job.job c.requires.places c.loop-job.invariant
    (omega (arith, c.loop-job-test.true, c.loop-job.auto.job-end, c.len-job-end.ensures))
