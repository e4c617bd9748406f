use Rattle.wide_script.specs.Drawn.{runner_of}
use Rattle.wide_script.proofs.Growth.{each_pushed}
use Rattle.wide_script.proofs.draws.Draws.runners.Goals as goal

pub loop-runner-preserved : goal.loop-runner-preserved
loop-runner-preserved c = each_pushed (runner_of c.args.self.now) c.loop-runner.runners.items c.push.new.self.items c.loop-runner.runner c.runner.result c.loop-runner.invariant
    c.in_ok-push.ensures.items c.runner.ensures
