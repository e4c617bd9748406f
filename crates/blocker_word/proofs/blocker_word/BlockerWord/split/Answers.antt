use Rattle.std.proofs.Common.{rules}
use Rattle.blocker_word.proofs.Widths.{offer_allowed, gives}
use Rattle.blocker_word.proofs.blocker_word.BlockerWord.split.Goals as goal

pub compare_exchange_with-requires : goal.compare_exchange_with-requires
compare_exchange_with-requires c = (search rules, search rules, offer_allowed _ _ _ _)

pub split_seat-second-requires : goal.split_seat-second-requires
split_seat-second-requires c = (search rules, search rules, gives _ _ (search rules) (search rules) (search rules))
