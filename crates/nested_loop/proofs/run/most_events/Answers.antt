use Rattle.nested_loop.proofs.MainScript.{events_most}
use Rattle.nested_loop.proofs.run.most_events.Goals as goal

pub returns : goal.returns
returns c = events_most c.args._nest.now c.requires
