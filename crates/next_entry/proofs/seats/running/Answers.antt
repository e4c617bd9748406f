use Rattle.std.proofs.Common.{arith, ap, refl, ◌∙◌}
use Rattle.std.proofs.lemmas.List.{take_all}
use Rattle.task_model.specs.Seats.{running}
use Rattle.next_entry.proofs.Looking.{running_more}
use Rattle.next_entry.proofs.seats.running.Goals as goal

pub loop-entry-init : goal.loop-entry-init
unfolding running
loop-entry-init c = refl

pub loop-entry-preserved : goal.loop-entry-preserved
loop-entry-preserved c = running_more c.args.past.now c.args.seat c.loop-entry.entry-index _ _ _ c.loop-entry-test.true c.loop-entry.invariant
    c.running_after-runs.ensures

pub returns : goal.returns
returns c = c.loop-entry.invariant ∙ ap (λ l. running l c.args.seat) (take_all c.loop-entry.entry-index c.args.past.now (omega (arith, c.loop-entry-test.false)))
