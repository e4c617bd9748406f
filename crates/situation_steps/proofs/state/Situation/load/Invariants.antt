use Rattle.std.proofs.Common.{◌≡◌, ◌≤◌}
use Rattle.std.specs.List.{range_with_len}
use Rattle.list_laws.specs.Lists.{count, holds_of}
use Rattle.log_count.specs.Sources.{work_in}
use Rattle.situation_steps.specs.Groups.{counts_with}
use Rattle.situation_steps.proofs.state.Situation.load.Given as goal

abbrev pub invariant-loop-seat : goal.invariant-loop-seat
invariant-loop-seat l = record {
  so_far : l.count ≡ count (λ seat. holds_of (counts_with l.script l.priority l.best) (work_in l.script l.self seat)) (range_with_len 1 l.seat);
  few : l.count ≤ l.seat;
}
