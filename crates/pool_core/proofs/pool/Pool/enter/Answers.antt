use Rattle.pool_core.proofs.Works.AtSeat.{closed_at, closed_work, seat_fits}
use Rattle.pool_core.proofs.Calls.Scopes.{stands_at_enter}
use Rattle.pool_core.proofs.pool.Pool.enter.Goals as goal

pub enter_scope-requires-clause-worker : goal.enter_scope-requires-clause-worker
enter_scope-requires-clause-worker c = (closed_at c.requires.3).worker

pub enter_scope-requires-clause-seat : goal.enter_scope-requires-clause-seat
enter_scope-requires-clause-seat c = seat_fits (closed_at c.requires.3)

pub enter_scope-requires-clause-runs : goal.enter_scope-requires-clause-runs
enter_scope-requires-clause-runs c = closed_work c.requires.3

pub returns : goal.returns
returns c = λ script past w can. rw c.enter_scope.ensures (stands_at_enter c.args.scope can)
