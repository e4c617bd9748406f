use Rattle.std.specs.Prelude.{◌≡◌}
use Rattle.pool_core.specs.JobState.{jobs_refreshed_below}
use Rattle.pool_core.proofs.pool.Pool.refresh_jobs.Given as goal

abbrev pub invariant-loop-job : goal.invariant-loop-job
invariant-loop-job l = l.self ≡ jobs_refreshed_below l.initial.self l.job
