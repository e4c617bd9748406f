use Rattle.sequence_manager.proofs.Fences.{can_vote, has_voter, stands_at_vote}
use Rattle.sequence_manager.proofs.manager.Manager.vote.Goals as goal

pub vote-requires : goal.vote-requires
vote-requires c = has_voter c.requires.2 c.at_mut.ensures.queue

pub refresh-requires : goal.refresh-requires
refresh-requires c = (_, can_vote c.args.on c.requires.2 c.at_mut.ensures.queue c.vote.ensures)

pub returns : goal.returns
returns c = λ script past seat can. stands_at_vote seat c.args.on can c.at_mut.ensures.queue c.vote.ensures c.refresh.ensures
