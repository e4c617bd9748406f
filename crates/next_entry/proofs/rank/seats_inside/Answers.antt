use Rattle.std.proofs.Common.{◌∙◌}
use Rattle.next_entry.proofs.Ranks.{inside_told}
use Rattle.next_entry.proofs.rank.seats_inside.Goals as goal

pub returns : goal.returns
returns c view are = c.items_in_hand.ensures ∙ inside_told c.args.job are
