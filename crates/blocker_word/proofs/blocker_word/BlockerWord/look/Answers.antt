use Rattle.std.proofs.Common.{rules}
use Rattle.blocker_word.proofs.Plays.{look_allowed}
use Rattle.blocker_word.proofs.blocker_word.BlockerWord.look.Goals as goal

pub load-requires : goal.load-requires
load-requires c = (search rules, search rules, look_allowed _ _ _)
