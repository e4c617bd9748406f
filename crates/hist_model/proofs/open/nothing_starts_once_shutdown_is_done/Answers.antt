use Rattle.hist_model.proofs.Laws.OpenPlans.{left_by_shutdown}
use Rattle.hist_model.proofs.open.nothing_starts_once_shutdown_is_done.Goals as goal

pub returns-clause-left_by_shutdown : goal.returns-clause-left_by_shutdown
returns-clause-left_by_shutdown c = left_by_shutdown
