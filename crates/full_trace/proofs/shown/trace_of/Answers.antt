use Rattle.std.proofs.Common.{sym, ap, ◌∙◌, ◌+◌, append-nil, arith}
use Rattle.std.proofs.lemmas.List.{take_all}
use Rattle.task_base.specs.Plan.{Plan}
use Rattle.full_trace.specs.Shown.{declared, names_of, trace_of}
use Rattle.full_trace.proofs.Events.{course_of, course_of-more, trace_of-more}
use Rattle.full_trace.proofs.shown.trace_of.Goals as goal

pub loop-place-init : goal.loop-place-init
unfolding trace_of course_of
loop-place-init c = record {
  events_are = c.in_ok-events.ensures ∙ ap (λ (plan : Plan). names_of (plan.workers + 1)) c.script.view_is
      ∙ sym (append-nil (names_of (c.args.script.now.workers + 1)));
  course_is = c.in_ok-course.ensures;
  running = rw c.in_ok-course.ensures (omega arith);
  waiting = rw c.in_ok-course.ensures (omega arith);
}

pub loop-place-preserved : goal.loop-place-preserved
loop-place-preserved c =
    let script = c.args.script.now in
    let log = c.args.log.now in
    let place = c.loop-place.place in
    let course = course_of-more (declared script) _ _ log place _ c.enter.ensures.after c.loop-place.invariant.course_is c.loop-place-test.true in
    record {
      events_are = trace_of-more script _ _ _ log place _ c.in_ok-add_events.ensures c.loop-place.invariant.events_are course c.loop-place-test.true;
      course_is = course;
      running = omega (arith, c.enter.ensures.running, c.loop-place.invariant.running);
      waiting = omega (arith, c.enter.ensures.waiting, c.loop-place.invariant.waiting);
    }

pub returns : goal.returns
returns c = c.loop-place.invariant.events_are ∙ ap (trace_of c.args.script.now) (take_all c.loop-place.place c.args.log.now c.loop-place-test.false)
