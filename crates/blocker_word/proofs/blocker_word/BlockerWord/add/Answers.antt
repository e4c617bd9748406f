use Rattle.std.proofs.Common.{rules}
use Rattle.blocker_word.proofs.Plays.{begin_allowed}
use Rattle.blocker_word.proofs.blocker_word.BlockerWord.add.Goals as goal

pub fetch_add-requires : goal.fetch_add-requires
fetch_add-requires c = (search rules, search rules, begin_allowed _ _ _ (search rules))
