use Rattle.std.proofs.Common.{◌≡◌, map, length, ◌++◌}
use Rattle.turn_table.specs.Seats.{Rising}
use Rattle.turn_table.specs.Views.{kept_seat}
use Rattle.turn_table.proofs.turnstile.Turnstile.join_all.Given as goal

-- the seats that are left are rising, and with those that are kept they are all seats
abbrev pub invariant-loop-other : goal.invariant-loop-other
invariant-loop-other g l = record {
  table_is : l.first.table_id ≡ l.fn.first.table_id;
  slots_are : l.first.me.1 ≡ l.fn.first.me.1;
  view_is : l.first.me.0 ≡ record l.fn.first.me.0 { kept = l.first.me.0.kept };
  rising : Rising l.self 1 l.rest.items;
  all : map kept_seat l.fn.rest.items ≡ map kept_seat l.rest.items ++ l.first.me.0.kept;
}

abbrev pub decreases-loop-other : goal.decreases-loop-other
decreases-loop-other g l = length l.rest.items
