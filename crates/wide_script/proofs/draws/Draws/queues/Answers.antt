use Rattle.wide_script.specs.Drawn.{queue_of}
use Rattle.wide_script.proofs.Growth.{each_pushed}
use Rattle.wide_script.proofs.draws.Draws.queues.Goals as goal

pub loop-queue-preserved : goal.loop-queue-preserved
loop-queue-preserved c = each_pushed (queue_of c.args.self.now) c.loop-queue.queues.items c.push.new.self.items c.loop-queue.queue c.queue.result c.loop-queue.invariant
    c.in_ok-push.ensures.items c.queue.ensures
