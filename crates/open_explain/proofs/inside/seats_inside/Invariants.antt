use Rattle.std.proofs.Common.{◌≡◌, ◌≤◌}
use Rattle.std.specs.List.{range_with_len}
use Rattle.std.specs.Prelude.{◌==◌}
use Rattle.list_laws.specs.Lists.{count, holds_of}
use Rattle.task_model.specs.Seats.{holding}
use Rattle.open_explain.proofs.inside.seats_inside.Given as goal

abbrev pub invariant-loop-seat : goal.invariant-loop-seat
invariant-loop-seat l = record {
  so_far : l.seats ≡ count (λ seat. holds_of (λ h. h.job == l.job) (holding l.past seat)) (range_with_len 0 l.seat);
  few : l.seats ≤ l.seat;
}
