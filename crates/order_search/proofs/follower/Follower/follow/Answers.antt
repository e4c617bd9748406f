use Rattle.std.proofs.Common.{sym}
use Rattle.order_search.proofs.Following.{replayed_by}
use Rattle.order_search.proofs.follower.Follower.follow.Goals as goal

pub follow-requires : goal.follow-requires
follow-requires c = sym (replayed_by c.requires.0 c.args.script.now c.requires.1 _ (rw c.in-Closed.is at c.requires.2))
