use Rattle.pool_core.proofs.Works.AtSeat.{open_at, open_work, seat_fits}
use Rattle.pool_core.proofs.Calls.Scopes.{stands_at_leave}
use Rattle.pool_core.proofs.pool.Pool.leave.Goals as goal

pub leave_scope-requires-clause-worker : goal.leave_scope-requires-clause-worker
leave_scope-requires-clause-worker c = (open_at c.requires.4).worker

pub leave_scope-requires-clause-seat : goal.leave_scope-requires-clause-seat
leave_scope-requires-clause-seat c = seat_fits (open_at c.requires.4)

pub leave_scope-requires-clause-open : goal.leave_scope-requires-clause-open
leave_scope-requires-clause-open c = open_work c.requires.4

pub returns : goal.returns
returns c = λ script past w opened can. rw c.leave_scope.ensures (stands_at_leave can)
