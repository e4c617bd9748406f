use Rattle.task_body.proofs.Progress.{stepped}
use Rattle.std.proofs.Common.{refl}
use Rattle.env_crew.proofs.Tasks.{next_act_is, no_acts_done, one_act_more, under_way_at_last, under_way_behind_act, under_way_behind_steps}
use Rattle.env_crew.proofs.steps.do_steps.Goals as goal

pub loop-work-init : goal.loop-work-init
loop-work-init g c = (c.requires, refl, no_acts_done (g.D.Desk.desk c.args.desk.now))

pub loop-work-preserved-in-Did : goal.loop-work-preserved-in-Did
loop-work-preserved-in-Did g c =
    let was = c.loop-work.invariant in
    let begun = g.D.Work.Assigned.work c.args.work in
    let old = g.D.Work.Assigned.work c.loop-work.work in
    let new = g.D.Work.Assigned.work c.step.new.self in
    let did = c.in-Did.ensures in
    (under_way_behind_steps _ old new c.in-Did.field-0 was.0 did.progress did.unchanged, stepped begun old new was.1 did.unchanged, was.2)

pub act-requires : goal.act-requires
act-requires g c =
    let old = g.D.Work.Assigned.work c.loop-work.work in
    let new = g.D.Work.Assigned.work c.step.new.self in
    next_act_is _ old c.step.result old.value new.rest new.value c.loop-work.invariant.0 c.step.ensures.progress c.in_default.not-Did
    c.in_default.not-Finished

pub loop-work-preserved : goal.loop-work-preserved
loop-work-preserved g c =
    let was = c.loop-work.invariant in
    let begun = g.D.Work.Assigned.work c.args.work in
    let old = g.D.Work.Assigned.work c.loop-work.work in
    let new = g.D.Work.Assigned.work c.step.new.self in
    let step = c.step.ensures in
    let act = c.act.ensures in (
      under_way_behind_act _ _ act.past old new c.step.result c.act.result was.0 step.progress step.unchanged c.in_default.not-Did
          c.in_default.not-Finished act.holds act.answered.enters,
      stepped begun old new was.1 step.unchanged,
      one_act_more _ _ _ act.past c.step.result c.act.result was.2 act.holds act.answered.enters,
    )

pub returns-in-Finished : goal.returns-in-Finished
returns-in-Finished g c =
    let was = c.loop-work.invariant in
    let begun = g.D.Work.Assigned.work c.args.work in
    let old = g.D.Work.Assigned.work c.loop-work.work in
    let new = g.D.Work.Assigned.work c.step.new.self in
    let last = c.in-Finished.ensures in
    let none = last.finished refl in
    record {
      under_way = under_way_at_last _ old new was.0 last.progress last.unchanged;
      none_left = none;
      same = rw (← none) (stepped begun old new was.1 last.unchanged);
      acts = was.2;
    }
