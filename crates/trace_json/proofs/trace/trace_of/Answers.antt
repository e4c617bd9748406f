use Rattle.std.proofs.Common.{ap, ◌∙◌}
use Rattle.std.proofs.lemmas.List.{take_all}
use Rattle.trace_json.specs.Trace.{trace_of}
use Rattle.trace_json.proofs.Events.{trace_of-more}
use Rattle.trace_json.proofs.trace.trace_of.Goals as goal

pub loop-place-init : goal.loop-place-init
unfolding trace_of
loop-place-init c = c.new-events.ensures.items

pub loop-place-preserved : goal.loop-place-preserved
loop-place-preserved c = c.in_ok-add_events.ensures ∙ trace_of-more _ c.args.log.now c.loop-place.place _ c.loop-place.invariant c.loop-place-test.true

pub returns : goal.returns
returns c = c.loop-place.invariant ∙ ap trace_of (take_all c.loop-place.place c.args.log.now c.loop-place-test.false)
