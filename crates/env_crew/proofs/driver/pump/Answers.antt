use Rattle.std.proofs.Common.{◌∙◌, arith}
use Rattle.std.specs.Prelude.{is_none}
use Rattle.std.proofs.lemmas.Bool.{and_parts}
use Rattle.task_base.specs.declared.entry.Kind.TheVariants as kinds
use Rattle.task_base.specs.declared.script.Action.TheVariants as actions
use Rattle.task_model.specs.Seats.{holding, running}
use Rattle.env_crew.specs.Desk.{mine}
use Rattle.env_crew.proofs.Pump.{pump_done, pump_goes_on, pump_starts, pump_stops, pump_waits}
use Rattle.env_crew.proofs.Moves.{wanted_at}
use Rattle.env_crew.proofs.Tasks.{has_worked, may_end_main, still_main, under_way_behind_main_take}
use Rattle.env_crew.proofs.driver.pump.Goals as goal

pub loop-init : goal.loop-init
loop-init g c = pump_starts (g.D.Desk.desk c.args.desk.now) c.args.count c.requires.some c.requires.rests

pub main_take-requires : goal.main_take-requires
main_take-requires g c =
    let was = c.loop.invariant in
    let f = g.D.Desk.desk c.loop.desk in
    wanted_at f (actions.Pump c.args.count) c.requires.at.0 was.made kinds.MainNone (was.later.seat_is ∙ c.requires.driver)
    (was.at c.requires.at.0 c.requires.at.1) (pump_waits was c.loop-test.true)
    (and_parts (is_none (running (mine f) 0)) (is_none (holding (mine f) 0)) was.rests).0

pub do_main_task-work-requires-clause-taken : goal.do_main_task-work-requires-clause-taken
do_main_task-work-requires-clause-taken g c =
    under_way_behind_main_take _ _ c.in-Some.ensures.past _ (c.loop.invariant.later.seat_is ∙ c.requires.driver) c.in-Some.ensures.holds
    c.in-Some.ensures.answered

pub main_end-requires : goal.main_end-requires
main_end-requires g c =
    let took = c.in-Some.ensures in
    let did = c.do_main_task-work.ensures in
    may_end_main (g.D.Desk.desk c.do_main_task-work.new.desk) (g.D.Work.Assigned.work c.do_main_task-work.result) did.under_way
    (still_main (g.D.Desk.desk c.loop.desk) (g.D.Desk.desk c.main_take.new.self) (g.D.Desk.desk c.do_main_task-work.new.desk) took.past
    (g.D.Work.Assigned.work c.in-Some.work) (g.D.Work.Assigned.work c.do_main_task-work.result) took.holds took.answered did.acts did.under_way) did.none_left

pub loop-preserved : goal.loop-preserved
loop-preserved g c =
    let was = c.loop.invariant in
    let took = c.in-Some.ensures in
    let ended = c.main_end.ensures in
    let begun = g.D.Work.Assigned.work c.in-Some.work in
    let last = g.D.Work.Assigned.work c.do_main_task-work.result in
    pump_goes_on begun last was c.loop-test.true (was.later.seat_is ∙ c.requires.driver) (has_worked (g.D.Desk.desk c.loop.desk)
    (g.D.Desk.desk c.main_take.new.self) (g.D.Desk.desk c.do_main_task-work.new.desk) (g.D.Desk.desk c.main_end.new.self) took.past ended.past
    (kinds.MainTake begun.task begun.home begun.found) (kinds.MainEnd last.task last.value) took.holds took.answered.enters
    c.do_main_task-work.ensures.acts ended.holds ended.answered)

pub returns-in-None : goal.returns-in-None
returns-in-None g c clock =
    pump_stops clock c.loop.invariant c.loop-test.true c.in-None.ensures.holds c.in-None.ensures.answered.enters

pub returns : goal.returns
returns g c clock = pump_done clock c.loop.invariant (omega (arith, c.loop-test.false, c.loop.auto.counter-end))
