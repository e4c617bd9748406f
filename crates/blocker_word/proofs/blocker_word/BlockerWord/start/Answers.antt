use Rattle.std.proofs.Common.{rules}
use Rattle.blocker_word.proofs.Plays.{start_allowed}
use Rattle.blocker_word.proofs.blocker_word.BlockerWord.start.Goals as goal

pub fetch_or-requires : goal.fetch_or-requires
fetch_or-requires c = (search rules, search rules, start_allowed _ _ _ (search rules))
