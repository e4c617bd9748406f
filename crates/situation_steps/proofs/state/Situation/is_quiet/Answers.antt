use Rattle.std.proofs.Common.{◌+◌, arith, ap, sym, ◌∙◌}
use Rattle.std.specs.Prelude.{◌&&◌, is_none}
use Rattle.task_base.specs.Plan.{Plan}
use Rattle.log_count.specs.Parts.{job_in, runs_in}
use Rattle.log_count.specs.Ways.{is_quiet_in}
use Rattle.situation_steps.proofs.Counting.{each_more, not_each}
use Rattle.situation_steps.proofs.state.Situation.is_quiet.Goals as goal

pub loop-seat-preserved : goal.loop-seat-preserved
loop-seat-preserved c = each_more (λ seat. is_none (runs_in c.args.self.now seat) && is_none (job_in c.args.self.now seat)) 0 c.loop-seat.seat c.loop-seat.seat
    (omega arith) c.loop-seat.invariant (sym c.is_free.ensures ∙ c.if-not-is_free.false)

pub returns-then-not-is_free : goal.returns-then-not-is_free
unfolding is_quiet_in
returns-then-not-is_free c = sym (not_each (λ seat. is_none (runs_in c.args.self.now seat) && is_none (job_in c.args.self.now seat)) 0
    (c.args.script.now.workers + 1) c.loop-seat.seat (sym c.is_free.ensures ∙ c.if-not-is_free.true) (omega arith)
    (omega (arith, c.loop-seat-test.true, ap (λ (s : Plan). s.workers) c.script.view_is)))
