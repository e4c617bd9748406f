use Rattle.std.proofs.Common.{rules}
use Rattle.env_shared.proofs.desk.SharedDeskDesk.main_end.Goals as goal

pub main_end-body-requires : goal.main_end-body-requires
main_end-body-requires g c = let seats = c.requires.seats in record {
  seats = record { now = seats.now; runs = search rules; task_is = search rules; home_is = search rules; found_is = search rules; whole_is = search rules };
  is_main = c.requires.is_main;
  none_left = c.requires.none_left;
  all_entered = search rules;
}
