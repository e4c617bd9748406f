use Rattle.task_body.proofs.Progress.{stepped}
use Rattle.std.proofs.Common.{◌∙◌}
use Rattle.env_step.proofs.UnderWay.{acts_stay}
use Rattle.env_step.proofs.hand.advance.Goals as goal

pub loop-next-preserved : goal.loop-next-preserved
loop-next-preserved c =
    let was = c.loop-next.invariant in
    let did = c.in-Did.ensures in (
      stepped c.args.work c.loop-next.work c.step.new.self was.0 did.unchanged,
      was.1 ∙ acts_stay c.loop-next.work c.step.new.self c.in-Did.field-0 did.progress,
    )
