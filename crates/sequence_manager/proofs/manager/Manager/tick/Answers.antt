use Rattle.sequence_manager.proofs.Ticks.{in_tick_at_start, stands_after, step_can, step_smaller, step_stays, steps}
use Rattle.sequence_manager.specs.Queues.{unripe}
use Rattle.std.proofs.Common.{[], sym, ◌∙◌}
use Rattle.sequence_manager.proofs.manager.Manager.tick.Goals as goal

pub loop-queue-init : goal.loop-queue-init
loop-queue-init c = λ script past can. ([], unripe past, in_tick_at_start script past c.args.self.now c.args.moment can)

pub ripen-requires : goal.ripen-requires
ripen-requires c = step_can (steps (c.loop-queue.invariant c.requires.0 c.requires.1 c.requires.2) (sym c.first_ripe.ensures ∙ c.in-Some.is))

pub loop-queue-smaller : goal.loop-queue-smaller
loop-queue-smaller c = step_smaller
    (steps (c.loop-queue.invariant c.requires.0 c.requires.1 c.requires.2) (sym c.first_ripe.ensures ∙ c.in-Some.is)) c.ripen.ensures

pub loop-queue-preserved : goal.loop-queue-preserved
loop-queue-preserved c = λ script past can. step_stays
    (steps (c.loop-queue.invariant script past can) (sym c.first_ripe.ensures ∙ c.in-Some.is)) c.ripen.ensures

pub returns : goal.returns
returns c = λ script past seat can.
    let l = c.loop-queue.invariant script past can in
    stands_after l.2 (sym c.first_ripe.ensures ∙ c.in_default.is) seat
