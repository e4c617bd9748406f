use Rattle.hist_model.proofs.Laws.Whole.Workers.{waits_for_workers}
use Rattle.hist_model.proofs.whole.whole_logs_lose_nothing.Goals as goal

pub returns-clause-waits_for_workers : goal.returns-clause-waits_for_workers
returns-clause-waits_for_workers c = waits_for_workers
