use Rattle.std.proofs.Common.{◌≡◌, take}
use Rattle.std.specs.Prelude.{sum_by}
use Rattle.script_model.specs.Bound.{events_of_job}
use Rattle.script_bound.proofs.bound.events_of_jobs.Given as goal

abbrev pub invariant-loop-job : goal.invariant-loop-job
invariant-loop-job l = l.events ≡ sum_by events_of_job (take l.job-index l.jobs)
