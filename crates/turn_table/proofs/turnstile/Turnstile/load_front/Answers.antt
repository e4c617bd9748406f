use Rattle.std.proofs.Common.{rules}
use Rattle.turn_table.proofs.Fronts.{reads_front}
use Rattle.turn_table.proofs.turnstile.Turnstile.load_front.Goals as goal

pub load-requires : goal.load-requires
load-requires g c = (search rules, search rules, reads_front _ _ _ _ _ _ (search rules) (search rules))
