use Rattle.std.proofs.Common.{◌≡◌, ◌≤◌}
use Rattle.std.specs.List.{range_with_len}
use Rattle.list_laws.specs.Lists.{count}
use Rattle.log_context.specs.Rooms.{is_counted}
use Rattle.log_context.proofs.rooms.counted.Given as goal

abbrev pub invariant-loop-seat : goal.invariant-loop-seat
invariant-loop-seat l = record {
  so_far : l.count ≡ count (is_counted l.script l.past l.limit l.blocked) (range_with_len 1 l.seat);
  few : l.count ≤ l.seat;
}
