use Rattle.env_core.proofs.Waiting.{driver_enters_nothing, worker_enters_nothing}
use Rattle.env_core.proofs.laws.who_waits_may_enter_nothing.Goals as goal

pub returns-clause-driver : goal.returns-clause-driver
returns-clause-driver c script past kind closed = driver_enters_nothing script past closed kind

pub returns-clause-worker : goal.returns-clause-worker
returns-clause-worker c script past seat kind closed = worker_enters_nothing script past closed seat kind
