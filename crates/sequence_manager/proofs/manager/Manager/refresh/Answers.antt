use Rattle.sequence_manager.proofs.Apart.{both_told, differs_first, differs_second}
use Rattle.sequence_manager.proofs.manager.Manager.refresh.Goals as goal

pub set_front-requires-clause-differs : goal.set_front-requires-clause-differs
set_front-requires-clause-differs c = differs_first c.requires.1 c.at-told.ensures c.open_front-immediate.ensures

pub set_front-requires-2-clause-differs : goal.set_front-requires-2-clause-differs
set_front-requires-2-clause-differs c = differs_second c.requires.1 c.at-told.ensures c.open_front-immediate.ensures
    c.open_front-delayed.ensures c.set_front.ensures

pub returns : goal.returns
returns c = both_told c.args.self.now c.args.queue c.at-told.ensures c.open_front-immediate.ensures c.open_front-delayed.ensures c.set_front.ensures
    c.set_front-2.ensures
