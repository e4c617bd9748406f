use Rattle.std.proofs.Common.{◌≡◌, drop}
use Rattle.queue_fence.specs.Voters.{all_on}
use Rattle.queue_fence.proofs.voters.Voters.enabled.Given as goal

abbrev pub invariant-loop-on : goal.invariant-loop-on
invariant-loop-on l = all_on l.on-items ≡ all_on (drop l.on-index l.on-items)
