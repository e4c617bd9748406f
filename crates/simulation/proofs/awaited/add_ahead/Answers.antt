use Rattle.simulation.proofs.Ripe.{added}
use Rattle.simulation.proofs.awaited.add_ahead.Goals as goal

pub returns-in_ok-insert-in-Some : goal.returns-in_ok-insert-in-Some
returns-in_ok-insert-in-Some c = λ m. rw c.in-Some.is
    (added c.args.now c.in-Some.moment m c.args.ripe.now.keys c.insert.new.self.keys c.if-now-moment.true (c.in_ok-insert-in-Some.ensures.updates.0 m))
