use Rattle.std.proofs.Common.{[]}
use Rattle.live_roster.proofs.Doing.{all_are_kept}
use Rattle.live_roster.proofs.laws.no_wake_is_lost.Goals as goal

pub returns : goal.returns
returns c = λ plan roster done stands made. all_are_kept plan [] roster done stands made
