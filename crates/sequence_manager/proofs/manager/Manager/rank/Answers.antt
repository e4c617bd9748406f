use Rattle.sequence_manager.proofs.Ranks.{stands_at_rank}
use Rattle.sequence_manager.proofs.manager.Manager.rank.Goals as goal

pub returns : goal.returns
returns c = λ script past seat can. stands_at_rank script past seat c.args.queue c.args.class c.args.self.now c.set_class.new.self can c.set_class.ensures
