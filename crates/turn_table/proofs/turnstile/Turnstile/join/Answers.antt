use Rattle.std.proofs.Common.{rules}
use Rattle.turn_table.proofs.Splits.{joins}
use Rattle.turn_table.proofs.turnstile.Turnstile.join.Goals as goal

pub join_seat-requires : goal.join_seat-requires
join_seat-requires g c =
    (search rules, search rules, search rules, search rules, joins _ _ _ _ _ (search rules) (search rules) _ _ (search rules) (search rules))
