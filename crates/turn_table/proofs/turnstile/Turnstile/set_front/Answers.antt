use Rattle.std.proofs.Common.{rules, refl}
use Rattle.turn_table.proofs.Fronts.{sets_front}
use Rattle.turn_table.proofs.turnstile.Turnstile.set_front.Goals as goal

pub compare_exchange-requires : goal.compare_exchange-requires
compare_exchange-requires g c =
    (search rules, search rules, sets_front _ _ _ _ _ _ (search rules) (search rules) c.args.place _ refl c.requires.stands)
