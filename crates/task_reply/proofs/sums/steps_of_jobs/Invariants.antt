use Rattle.std.proofs.Common.{◌≡◌, length, take, sum_by}
use Rattle.task_reply.proofs.sums.steps_of_jobs.Given as goal

abbrev pub invariant-loop-job : goal.invariant-loop-job
invariant-loop-job l = l.steps ≡ sum_by (λ job. length job.steps) (take l.job-index l.jobs)
