use Rattle.std.proofs.Common.{refl}
use Rattle.env_crew.proofs.Tasks.{has_worked, longer_behind_work, may_end, rests_behind_work, still_free, still_pool, under_way_behind_take}
use Rattle.env_crew.proofs.Visits.{free_behind_visit, gone_in, has_visited, longer_behind_visit}
use Rattle.env_crew.proofs.worker.serve_or.Goals as goal

-- A task.

pub do_pool_task-work-requires-clause-taken : goal.do_pool_task-work-requires-clause-taken
do_pool_task-work-requires-clause-taken g c =
    under_way_behind_take _ _ c.in-Task.ensures.past _ c.requires.free c.in-Task.ensures.holds c.in-Task.ensures.answered

pub end-requires : goal.end-requires
end-requires g c =
    let took = c.in-Task.ensures in
    let did = c.do_pool_task-work.ensures in
    may_end (g.D.Desk.desk c.do_pool_task-work.new.desk) (g.D.Work.Assigned.work c.do_pool_task-work.result) did.under_way
    (still_pool (g.D.Desk.desk c.args.desk.now) (g.D.Desk.desk c.ask.new.desk) (g.D.Desk.desk c.do_pool_task-work.new.desk) took.past
    (g.D.Work.Assigned.work c.in-Task.work) (g.D.Work.Assigned.work c.do_pool_task-work.result) took.holds took.answered did.acts did.under_way) did.none_left

pub returns-in-Task : goal.returns-in-Task
returns-in-Task g c =
    let old = g.D.Desk.desk c.args.desk.now in
    let new = g.D.Desk.desk c.end.new.self in
    let took = c.in-Task.ensures in
    let ended = c.end.ensures in
    let worked = has_worked old (g.D.Desk.desk c.ask.new.desk) (g.D.Desk.desk c.do_pool_task-work.new.desk) new took.past ended.past _ _ took.holds
    took.answered.enters c.do_pool_task-work.ensures.acts ended.holds ended.answered in
    record {
      free = still_free old new c.requires.free worked.later.script_is worked.later.seat_is
          (rests_behind_work worked (λ held. refl) (λ held. refl) (λ before. refl) c.requires.free.free);
      later = worked.later;
      turned = worked.turned;
      served = longer_behind_work worked;
      noted = λ nothing. cc;
    }

-- Items of a job.

pub do_items-requires-clause-held : goal.do_items-requires-clause-held
do_items-requires-clause-held g c =
    let took = c.in-Item.ensures in
    (gone_in _ _ took.past c.in-Item.pass c.requires.free.known c.requires.free.free took.holds took.answered.goes_in).holds.0

pub do_items-requires-clause-declared : goal.do_items-requires-clause-declared
do_items-requires-clause-declared g c =
    let took = c.in-Item.ensures in
    (gone_in _ _ took.past c.in-Item.pass c.requires.free.known c.requires.free.free took.holds took.answered.goes_in).holds.1

pub do_items-requires-clause-idle : goal.do_items-requires-clause-idle
do_items-requires-clause-idle g c =
    let took = c.in-Item.ensures in
    (gone_in _ _ took.past c.in-Item.pass c.requires.free.known c.requires.free.free took.holds took.answered.goes_in).idle

pub returns-in-Item : goal.returns-in-Item
returns-in-Item g c =
    let old = g.D.Desk.desk c.args.desk.now in
    let new = g.D.Desk.desk c.do_items.new.desk in
    let took = c.in-Item.ensures in
    let did = c.do_items.ensures in
    let visit = has_visited old (g.D.Desk.desk c.ask.new.desk) new took.past c.in-Item.pass took.holds took.answered.goes_in did.done in
    record {
      free = still_free old new c.requires.free visit.later.script_is visit.later.seat_is (free_behind_visit visit did.free);
      later = visit.later;
      turned = visit.turned;
      served = longer_behind_visit visit;
      noted = λ nothing. cc;
    }
