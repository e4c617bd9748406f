use Rattle.std.proofs.Common.{rules}
use Rattle.blocker_word.proofs.Plays.{finish_allowed}
use Rattle.blocker_word.proofs.blocker_word.BlockerWord.finish.Goals as goal

pub compare_exchange-requires : goal.compare_exchange-requires
compare_exchange-requires c = (search rules, search rules, finish_allowed _ _ _ (search rules))
