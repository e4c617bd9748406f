use Rattle.sequence_manager.proofs.Closes.{can_close, stands_at_close}
use Rattle.sequence_manager.proofs.manager.Manager.close.Goals as goal

pub refresh-requires : goal.refresh-requires
refresh-requires c = (_, can_close c.requires.2 c.at_mut.ensures.queue c.close.ensures)

pub returns : goal.returns
returns c = λ script past seat at. stands_at_close seat at c.at_mut.ensures.queue c.close.ensures c.refresh.ensures
