use Rattle.std.proofs.Common.{◌≡◌, take, drop}
use Rattle.list_laws.specs.Lists.{count, holds_of}
use Rattle.thread_group.specs.Work.{is_waiting}
use Rattle.thread_group.proofs.Counted.{AreCountsOf}
use Rattle.thread_group.proofs.counts.at_moment.Given as goal

abbrev pub invariant-loop-work : goal.invariant-loop-work
invariant-loop-work l = record {
  looked_at : AreCountsOf l.threshold l.before l.now (take l.work-index l.seats) (drop l.work-index l.seats) l.moved;
  left : l.waiting ≡ count (holds_of (is_waiting l.threshold l.before)) (drop l.work-index l.seats);
}
