use Rattle.std.proofs.Common.{rules}
use Rattle.turn_table.proofs.Turns.{backs}
use Rattle.turn_table.proofs.turnstile.Turnstile.back.Goals as goal

pub fetch_sub-requires : goal.fetch_sub-requires
fetch_sub-requires g c =
    (search rules, search rules, backs _ _ _ _ _ _ (search rules) (search rules) c.args.value (search rules) (search rules) (search rules))
