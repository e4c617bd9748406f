use Rattle.std.proofs.Common.{◌≡◌, ◌≤◌}
use Rattle.std.specs.List.{range_with_len}
use Rattle.std.specs.Prelude.{◌==◌}
use Rattle.list_laws.specs.Lists.{count, holds_of}
use Rattle.log_count.specs.Parts.{job_in}
use Rattle.situation_steps.proofs.state.Situation.inside.Given as goal

abbrev pub invariant-loop-seat : goal.invariant-loop-seat
invariant-loop-seat l = record {
  so_far : l.count ≡ count (λ seat. holds_of (λ j. j == l.job) (job_in l.self seat)) (range_with_len 0 l.seat);
  few : l.count ≤ l.seat;
}
