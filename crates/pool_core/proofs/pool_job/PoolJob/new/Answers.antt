use Rattle.std.proofs.Common.{ap}
use Rattle.pool_core.specs.PoolJobs.{fresh_job}
use Rattle.pool_core.proofs.pool_job.PoolJob.new.Goals as goal

pub returns : goal.returns
returns c = rw c.new.ensures (ap fresh_job c.job.view_is)
