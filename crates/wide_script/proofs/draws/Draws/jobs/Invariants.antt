use Rattle.std.proofs.Common.{◌≡◌, map}
use Rattle.std.specs.List.{range_with_len}
use Rattle.wide_script.specs.Drawn.{job_of}
use Rattle.wide_script.proofs.draws.Draws.jobs.Given as goal

abbrev pub invariant-loop-job : goal.invariant-loop-job
invariant-loop-job l = l.jobs.items ≡ map (job_of l.self) (range_with_len 0 l.job)
