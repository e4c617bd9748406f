use Rattle.wide_script.specs.Drawn.{steps_of}
use Rattle.wide_script.proofs.Growth.{each_pushed}
use Rattle.wide_script.proofs.draws.Draws.tasks.Goals as goal

pub loop-task-preserved : goal.loop-task-preserved
loop-task-preserved c = each_pushed (steps_of c.args.self.now) c.loop-task.tasks.items c.push.new.self.items c.loop-task.task c.in_ok-task.field-0 c.loop-task.invariant
    c.in_ok-push.ensures.items c.in_ok-task.ensures
