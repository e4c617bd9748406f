use Rattle.std.proofs.Common.{rules}
use Rattle.turn_table.proofs.Steps.{looks}
use Rattle.turn_table.proofs.turnstile.Turnstile.load_count.Goals as goal

pub load-requires : goal.load-requires
load-requires g c = (search rules, search rules, looks _ _ _ _ _ _ (search rules) (search rules))
