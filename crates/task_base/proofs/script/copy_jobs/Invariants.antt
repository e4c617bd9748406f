use Rattle.std.proofs.Common.{◌≡◌, ◌+◌, ◌≤◌, length, take}
use Rattle.task_base.proofs.script.copy_jobs.Given as goal

abbrev pub invariant-loop-job : goal.invariant-loop-job
invariant-loop-job l = record {
  so_far : l.copied.items ≡ take l.job-index l.jobs;
  room : length l.jobs ≤ l.copied.spare + l.job-index;
}
