use Rattle.std.proofs.Common.{◌≤◌, arith}
use Rattle.log_replay.proofs.replay.Replay.is_free.Goals as goal

pub is_free-requires : goal.is_free-requires
is_free-requires c =
    let known : c.args.seat ≤ c.self.inside.env.script.workers = rw c.self.view_is c.requires in
    omega (arith, c.self.invariant.all, known)

pub returns : goal.returns
returns c = rw (← c.self.view_is) (c.is_free.ensures c.self.inside.env c.self.invariant)
