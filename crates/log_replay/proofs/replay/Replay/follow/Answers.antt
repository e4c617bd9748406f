use Rattle.log_replay.proofs.Judged.{compared, may_not}
use Rattle.log_replay.proofs.replay.Replay.follow.Goals as goal
use Rattle.log_replay.proofs.replay.Replay.follow.Goals.{in-Ok, in-Err}

pub returns : goal.returns
returns c = elim c.match-step.branch [
  | in-Ok w ↦ rw (w.result-is, ← c.self.view_is) (compared c.args.entry w.in-Ok.kind c.reading_of-reading.result c.self.invariant.closed
      c.self.invariant.legal w.in-Ok.ensures.steps c.reading_of-reading.ensures w.same_kind.result w.same_kind.ensures)
  | in-Err w ↦ rw (w.result-is, ← c.self.view_is) (may_not c.self.inside.env c.step.new.env c.args.entry
      (w.in-Err.ensures.steps.1 c.args.entry.kind))
]
