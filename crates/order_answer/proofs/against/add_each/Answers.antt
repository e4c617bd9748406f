use Rattle.std.proofs.Common.{◌∙◌}
use Rattle.order_model.specs.Plans.{plan_of}
use Rattle.order_answer.proofs.Lines.{added_more, against_more}
use Rattle.order_answer.proofs.against.add_each.Goals as goal

pub loop-event-preserved : goal.loop-event-preserved
loop-event-preserved c =
    let known = c.loop-event.invariant.so_far in
    record {
      so_far = (
        _,
        against_more (plan_of c.args.kind c.args.script.now) c.args.events.now c.args.rest.now c.args.next.now c.loop-event.event-index _
            c.in_ok-stuck.stuck known.0 c.loop-event-test.true known.1 c.in_ok-stuck.ensures,
        c.in_ok-stuck_text.ensures.added ∙ added_more _ _ known.0 _ known.2,
      );
    }
