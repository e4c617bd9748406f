use Rattle.std.proofs.Common.{arith, ap, refl, ◌∙◌}
use Rattle.std.proofs.lemmas.List.{take_all}
use Rattle.task_model.specs.Seats.{holding}
use Rattle.next_entry.proofs.Looking.{holding_more}
use Rattle.next_entry.proofs.seats.holding.Goals as goal

pub loop-entry-init : goal.loop-entry-init
unfolding holding
loop-entry-init c = refl

pub loop-entry-preserved : goal.loop-entry-preserved
loop-entry-preserved c = holding_more c.args.past.now c.args.seat c.loop-entry.entry-index _ _ _ c.loop-entry-test.true c.loop-entry.invariant
    c.holding_after-held.ensures

pub returns : goal.returns
returns c = c.loop-entry.invariant ∙ ap (λ l. holding l c.args.seat) (take_all c.loop-entry.entry-index c.args.past.now (omega (arith, c.loop-entry-test.false)))
