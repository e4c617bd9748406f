use Rattle.std.proofs.Common.{◌≡◌, ◌+◌, ◌≤◌, length}
use Rattle.env_shared.specs.Splits.{AreWorkers}
use Rattle.env_threads.specs.Crew.{AreSpare, ArePromised, refused}
use Rattle.env_threads.proofs.workers.join_all.Given as goal

-- the first seats came back, and the others are started or spare
abbrev pub invariant-loop-start : goal.invariant-loop-start
invariant-loop-start g l = record {
  workers : AreWorkers l.shared 1 l.rest.items;
  all : length l.rest.items + length l.starts.items ≡ length l.fn.starts.items;
  promised : ArePromised (λ handle. handle.promise.0.value) l.shared (length l.fn.starts.items) l.starts.items;
  spare : AreSpare l.shared (refused (length l.fn.starts.items) l.starts.items) l.spare.items;
  room : length l.starts.items ≤ l.rest.spare;
}

abbrev pub decreases-loop-start : goal.decreases-loop-start
decreases-loop-start g l = length l.starts.items
