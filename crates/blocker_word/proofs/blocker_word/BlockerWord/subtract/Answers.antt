use Rattle.std.proofs.Common.{rules}
use Rattle.blocker_word.proofs.Plays.{end_allowed}
use Rattle.blocker_word.proofs.blocker_word.BlockerWord.subtract.Goals as goal

pub fetch_sub-requires : goal.fetch_sub-requires
fetch_sub-requires c = (search rules, search rules, end_allowed _ _ _ (search rules))
