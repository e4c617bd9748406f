use Rattle.std.proofs.Common.{length}
use Rattle.env_threads.specs.Crew.{AreStarted}
use Rattle.env_threads.proofs.workers.start_all.Given as goal

abbrev pub invariant-loop-seat : goal.invariant-loop-seat
invariant-loop-seat g l = AreStarted (λ handle. handle.promise.0.value) l.shared (length l.fn.seats.items) l.seats.items l.starts l.spare

abbrev pub decreases-loop-seat : goal.decreases-loop-seat
decreases-loop-seat g l = length l.seats.items
