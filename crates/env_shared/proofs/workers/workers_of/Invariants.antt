use Rattle.std.specs.Prelude.{◌≡◌, map, take}
use Rattle.env_shared.proofs.workers.workers_of.Given as goal

abbrev pub invariant-loop-job : goal.invariant-loop-job
invariant-loop-job l = l.workers.items ≡ map (λ job. job.steps) (take l.job-index l.job-items)
