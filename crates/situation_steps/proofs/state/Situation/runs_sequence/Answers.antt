use Rattle.std.proofs.Common.{◌+◌, arith, ap, sym, ◌∙◌}
use Rattle.list_laws.proofs.Ranges.{range_any_at}
use Rattle.list_laws.specs.Lists.{holds_of}
use Rattle.task_base.specs.Plan.{Plan}
use Rattle.task_model.specs.Seats.{runs_of}
use Rattle.log_count.specs.Parts.{runs_in}
use Rattle.log_count.specs.Sources.{runs_sequence_in}
use Rattle.situation_steps.proofs.Counting.{none_more}
use Rattle.situation_steps.proofs.state.Situation.runs_sequence.Goals as goal

pub loop-seat-preserved : goal.loop-seat-preserved
loop-seat-preserved c = none_more (λ seat. holds_of (runs_of c.args.script.now c.args.sequence) (runs_in c.args.self.now seat)) c.loop-seat.seat
    c.loop-seat.invariant (sym c.runs_of.ensures ∙ c.if-runs_of.false)

pub returns-then-runs_of : goal.returns-then-runs_of
unfolding runs_sequence_in
returns-then-runs_of c = sym (range_any_at
    (λ seat. holds_of (runs_of c.args.script.now c.args.sequence) (runs_in c.args.self.now seat)) 0 (c.args.script.now.workers + 1)
    c.loop-seat.seat (sym c.runs_of.ensures ∙ c.if-runs_of.true) (omega arith)
    (omega (arith, c.loop-seat-test.true, ap (λ (s : Plan). s.workers) c.script.view_is)))
