use Rattle.std.proofs.Common.{rules}
use Rattle.turn_table.proofs.Turns.{enters}
use Rattle.turn_table.proofs.turnstile.Turnstile.enter_value.Goals as goal

pub fetch_add-requires : goal.fetch_add-requires
fetch_add-requires g c =
    (search rules, search rules, enters _ _ _ _ _ _ (search rules) (search rules) c.args.value (search rules) (search rules) (search rules) (search rules))
