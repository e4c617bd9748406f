use Rattle.std.proofs.Common.{refl, ◌∙◌}
use Rattle.task_base.specs.Plan.{opened}
use Rattle.order_explain.proofs.Stops.{open_stuck_by, open_told_of_last, stuck_by, told_of_last}
use Rattle.order_explain.proofs.stuck.stuck_at.Goals as goal

pub returns-in-Closed : goal.returns-in-Closed
returns-in-Closed c =
    let told = c.in_ok-told-in-Closed.told in
    rw (c.in-Closed.is, c.stuck_told.ensures) (stuck_by c.args.script.now c.args.events.now c.args.rest.now c.args.event.now told
    (c.first_before.ensures.none c.in_default.is)
    (told_of_last c.args.script.now _ c.args.event.now.entry _ told c.in_ok-log.ensures (rw c.in-Closed.is at c.requires.legal)
    c.in_ok-told-in-Closed.ensures.verdict c.in_ok-told-in-Closed.ensures.cause c.in_ok-told-in-Closed.ensures.open_end))

pub returns : goal.returns
returns c =
    let plan = opened c.args.script.now in
    let told = c.explain_open_prefix-told.result in
    rw (c.in-Open.is, c.stuck_open.ensures) (open_stuck_by plan c.args.events.now c.args.rest.now c.args.event.now told refl
    (c.first_before.ensures.none c.in_default.is)
    (open_told_of_last plan _ c.args.event.now.entry _ told (c.as_slice.ensures ∙ c.in_ok-log.ensures) (rw c.in-Open.is at c.requires.legal)
    c.explain_open_prefix-told.ensures.verdict c.explain_open_prefix-told.ensures.told c.explain_open_prefix-told.ensures.open_end))
