use Rattle.std.proofs.Common.{refl}
use Rattle.task_body.proofs.Consistent.{IsConsistent-step}
use Rattle.task_body.proofs.Progress.{Progress-shorter, Progress-finished}
use Rattle.task_body.proofs.assignment.Assignment.step.Goals as goal

pub invariant_of-self : goal.invariant_of-self
invariant_of-self g c = IsConsistent-step _ _ c.step.result c.step.ensures.progress c.step.ensures.whole refl c.self.invariant

pub returns-clause-consistent : goal.returns-clause-consistent
returns-clause-consistent g c = IsConsistent-step _ _ c.step.result c.step.ensures.progress c.step.ensures.whole refl c.self.invariant

pub returns-clause-shorter : goal.returns-clause-shorter
returns-clause-shorter g c =
    rw (← c.self.view_is) (Progress-shorter _ _ c.step.result _ _ c.step.ensures.progress)

pub returns-clause-finished : goal.returns-clause-finished
returns-clause-finished g c = Progress-finished _ _ c.step.result _ _ c.step.ensures.progress
