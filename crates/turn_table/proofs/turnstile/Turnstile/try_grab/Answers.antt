use Rattle.std.proofs.Common.{rules, refl, arith}
use Rattle.turn_table.proofs.Turns.{grabs}
use Rattle.turn_table.proofs.turnstile.Turnstile.try_grab.Goals as goal

pub compare_exchange-requires : goal.compare_exchange-requires
compare_exchange-requires g c =
    (search rules, search rules, grabs _ _ _ _ _ _ (search rules) _ _ (omega arith) refl (search rules) (search rules))
