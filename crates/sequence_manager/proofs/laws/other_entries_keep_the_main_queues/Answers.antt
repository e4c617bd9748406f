use Rattle.sequence_manager.proofs.Others.{stands_pool, stands_still}
use Rattle.sequence_manager.proofs.laws.other_entries_keep_the_main_queues.Goals as goal

pub returns-clause-still : goal.returns-clause-still
returns-clause-still c = stands_still

pub returns-clause-pool : goal.returns-clause-pool
returns-clause-pool c = stands_pool
