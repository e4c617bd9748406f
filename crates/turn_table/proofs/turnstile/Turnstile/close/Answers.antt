use Rattle.std.proofs.Common.{rules}
use Rattle.turn_table.proofs.Splits.{copies}
use Rattle.turn_table.proofs.turnstile.Turnstile.close.Goals as goal

pub split_seat-spent-requires : goal.split_seat-spent-requires
split_seat-spent-requires g c = (search rules, search rules, copies _ _ _ _ _ (search rules) (search rules))
