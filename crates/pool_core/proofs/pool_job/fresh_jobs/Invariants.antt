use Rattle.std.specs.Prelude.{◌≡◌, map, take}
use Rattle.pool_core.specs.PoolJobs.{fresh_job}
use Rattle.pool_core.proofs.pool_job.fresh_jobs.Given as goal

abbrev pub invariant-loop-job : goal.invariant-loop-job
invariant-loop-job l = l.jobs.items ≡ map fresh_job (take l.job-index l.job-items)
