use Rattle.std.proofs.Common.{◌≡◌, ◌≤◌}
use Rattle.std.specs.List.{range_with_len}
use Rattle.list_laws.specs.Lists.{count}
use Rattle.log_count.specs.Ways.{is_open_job_in}
use Rattle.situation_steps.proofs.state.Situation.open_jobs.Given as goal

abbrev pub invariant-loop-job : goal.invariant-loop-job
invariant-loop-job l = record {
  so_far : l.count ≡ count (is_open_job_in l.script l.self) (range_with_len 0 l.job);
  few : l.count ≤ l.job;
}
