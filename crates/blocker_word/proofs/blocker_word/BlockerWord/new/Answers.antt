use Rattle.std.proofs.Common.{rules}
use Rattle.blocker_word.proofs.Widths.{opens}
use Rattle.blocker_word.proofs.blocker_word.BlockerWord.new.Goals as goal

pub split_seat-token-requires : goal.split_seat-token-requires
split_seat-token-requires c = (search rules, search rules, opens _ _ (search rules) (search rules))
