use Rattle.worked_calls.proofs.Seated.{Waits}
use Rattle.worked_calls.proofs.threads.attend.Given as goal

abbrev pub invariant-loop-round : goal.invariant-loop-round
invariant-loop-round g l = Waits l.fn.seat l.worker
