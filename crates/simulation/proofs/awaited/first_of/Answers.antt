use Rattle.std.proofs.Common.{◌∙◌}
use Rattle.simulation.proofs.Ripe.{among_is, at_most}
use Rattle.simulation.proofs.awaited.first_of.Goals as goal

pub returns-in-Some-clause-least : goal.returns-in-Some-clause-least
returns-in-Some-clause-least c = λ m among. at_most _ m (c.in-Some.ensures.least m (among_is m c.args.moments.now.keys ∙ among))
