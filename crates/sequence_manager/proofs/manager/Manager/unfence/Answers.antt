use Rattle.sequence_manager.proofs.Fences.{can_unfence, stands_at_unfence}
use Rattle.sequence_manager.proofs.manager.Manager.unfence.Goals as goal

pub refresh-requires : goal.refresh-requires
refresh-requires c = (_, can_unfence c.requires.2 c.at_mut.ensures.queue c.remove.ensures)

pub returns : goal.returns
returns c = λ script past seat at. stands_at_unfence seat at c.at_mut.ensures.queue c.remove.ensures c.refresh.ensures
