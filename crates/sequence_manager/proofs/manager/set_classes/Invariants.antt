-- The queues so far have their classes.
use Rattle.std.proofs.Common.{◌≡◌}
use Rattle.sequence_manager.proofs.Fresh.{classed}
use Rattle.sequence_manager.proofs.manager.set_classes.Given as goal

abbrev pub invariant-loop-place : goal.invariant-loop-place
invariant-loop-place l = l.selector ≡ record { rows = classed l.place l.script.queues; streak = 0 }
