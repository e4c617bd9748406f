use Rattle.std.proofs.Common.{rules}
use Rattle.blocker_word.proofs.Widths.{merges, weigh_allowed}
use Rattle.blocker_word.proofs.blocker_word.BlockerWord.join.Goals as goal

pub join_seat-requires : goal.join_seat-requires
join_seat-requires c = (search rules, search rules, search rules, search rules, merges _ _ _ _ (search rules) (search rules))

pub load-requires : goal.load-requires
load-requires c = (search rules, search rules, weigh_allowed _ _ _)
