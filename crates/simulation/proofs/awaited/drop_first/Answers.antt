use Rattle.simulation.proofs.Ripe.{popped}
use Rattle.simulation.proofs.awaited.drop_first.Goals as goal

pub returns-in-Some-clause-ahead : goal.returns-in-Some-clause-ahead
returns-in-Some-clause-ahead c = λ m ahead. popped c.args.now c.in-Some.first m c.pop_first.result c.args.ripe.now.keys c.pop_first.new.self.keys
    c.pop_first.ensures.removal c.pop_first.ensures.unchanged c.pop_first.ensures.least c.in-Some.ensures.among c.if-first-now.true ahead
