use Rattle.std.proofs.Common.{rules}
use Rattle.turn_table.proofs.Steps.{draws}
use Rattle.turn_table.proofs.Splits.{deals}
use Rattle.turn_table.proofs.turnstile.Turnstile.split.Goals as goal

pub fetch_add-drawn-requires : goal.fetch_add-drawn-requires
fetch_add-drawn-requires g c = (search rules, search rules, draws _ _ _ _ _ _ (search rules) (search rules) (search rules) (search rules))

pub split_seat-second-requires : goal.split_seat-second-requires
split_seat-second-requires g c = (search rules, search rules, deals _ _ _ _ _ (search rules) (search rules) (search rules) (search rules))
