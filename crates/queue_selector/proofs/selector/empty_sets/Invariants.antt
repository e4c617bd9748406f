use Rattle.std.proofs.Common.{◌≡◌, [], replicate}
use Rattle.queue_selector.proofs.selector.empty_sets.Given as goal

abbrev pub invariant-loop-set : goal.invariant-loop-set
invariant-loop-set l = l.sets.items ≡ replicate l._set (record { entries = []; room = l.room })
