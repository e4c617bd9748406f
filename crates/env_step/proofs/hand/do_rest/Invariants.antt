use Rattle.std.proofs.Common.{◌≡◌, length}
use Rattle.env_step.proofs.hand.do_rest.Given as goal

abbrev pub invariant-loop-work : goal.invariant-loop-work
invariant-loop-work l = l.work ≡ record l.fn.work { value = l.work.value; rest = l.work.rest }

abbrev pub decreases-loop-work : goal.decreases-loop-work
decreases-loop-work l = length l.work.rest
