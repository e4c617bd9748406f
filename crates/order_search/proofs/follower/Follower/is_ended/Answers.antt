use Rattle.order_search.proofs.Following.{ended_by_core, ended_by_replay}
use Rattle.order_search.proofs.follower.Follower.is_ended.Goals as goal

pub returns-in-Closed : goal.returns-in-Closed
returns-in-Closed c = λ plan past follows. ended_by_replay plan past _ c.is_whole.result (rw c.in-Closed.is at follows) c.is_whole.ensures

pub returns-in-Open : goal.returns-in-Open
returns-in-Open c = λ plan past follows.
    ended_by_core plan past _ c.is_quiet.result (rw c.in-Open.is at follows) (c.is_quiet.ensures plan past (rw c.in-Open.is at follows))
