use Rattle.std.proofs.Common.{◌+◌, arith, ap, sym, ◌∙◌}
use Rattle.std.specs.Prelude.{is_none}
use Rattle.task_base.specs.Plan.{Plan}
use Rattle.log_count.specs.Sources.{best_in}
use Rattle.situation_steps.proofs.Counting.{each_more, not_each}
use Rattle.situation_steps.proofs.state.Situation.is_idle.Goals as goal

pub loop-seat-preserved : goal.loop-seat-preserved
loop-seat-preserved c = each_more (λ worker. is_none (best_in c.args.script.now c.args.self.now worker)) 1 c.loop-seat.seat (c.loop-seat.seat + 1)
    (omega arith) c.loop-seat.invariant (sym c.takes_nothing.ensures ∙ c.if-not-takes_nothing.false)

pub returns-then-not-takes_nothing : goal.returns-then-not-takes_nothing
returns-then-not-takes_nothing c = sym (not_each (λ worker. is_none (best_in c.args.script.now c.args.self.now worker)) 1 c.args.script.now.workers
    (c.loop-seat.seat + 1) (sym c.takes_nothing.ensures ∙ c.if-not-takes_nothing.true) (omega arith)
    (omega (arith, c.loop-seat-test.true, ap (λ (s : Plan). s.workers) c.script.view_is)))
