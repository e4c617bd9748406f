use Rattle.std.proofs.Common.{◌≡◌, filter, length}
use Rattle.task_base.specs.Steps.{is_act}
use Rattle.env_step.proofs.hand.advance.Given as goal

abbrev pub invariant-loop-next : goal.invariant-loop-next
invariant-loop-next l =
    (l.work ≡ record l.fn.work { value = l.work.value; rest = l.work.rest }) × (filter is_act l.fn.work.rest ≡ filter is_act l.work.rest)

abbrev pub decreases-loop-next : goal.decreases-loop-next
decreases-loop-next l = length l.work.rest
