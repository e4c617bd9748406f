use Rattle.std.proofs.Common.{rules}
use Rattle.env_shared.proofs.desk.SharedDeskDesk.end.Goals as goal

pub end-body-requires : goal.end-body-requires
end-body-requires g c = let seats = c.requires.seats in record {
  known = search rules;
  seats = record { now = seats.now; runs = search rules; task_is = search rules; home_is = search rules; found_is = search rules; whole_is = search rules };
  is_pool = c.requires.is_pool;
  none_left = c.requires.none_left;
  all_entered = search rules;
}
