use Rattle.std.proofs.Common.{◌+◌, ◌∙◌, ◌++◌, ◌∷◌, [], refl, ap, arith}
use Rattle.std.proofs.lemmas.List.{length-append}
use Rattle.task_base.specs.declared.entry.Entry.{Entry}
use Rattle.task_base.specs.declared.entry.Kind.TheVariants as kinds
use Rattle.task_base.specs.declared.script.Action.TheVariants as actions
use Rattle.task_model.specs.Seats.{is_free}
use Rattle.env_crew.specs.Desk.{mine}
use Rattle.env_crew.proofs.Holds.{later_refl, later_trans, later_entered, mine_entered}
use Rattle.env_crew.proofs.Rests.{free_stays}
use Rattle.env_crew.proofs.Moves.{at_more, wanted_at, at_next, behind_short, behind_all}
use Rattle.env_crew.proofs.Time.{time_on}
use Rattle.env_crew.proofs.driver.tick.Goals as goal

pub loop-init : goal.loop-init
loop-init g c = record {
  later = later_refl (g.D.Desk.desk c.args.desk.now);
  made = [];
  counted = refl;
  at = λ rest start. start;
  rests = c.requires.rests;
  time = λ told keeps. keeps;
}

pub tick-requires : goal.tick-requires
tick-requires g c now =
    let was = c.loop.invariant in
    wanted_at (g.D.Desk.desk c.loop.desk) (actions.Tick c.args.count) c.requires.at.0 was.made (kinds.Tick now) (was.later.seat_is ∙ c.requires.driver)
    (was.at c.requires.at.0 c.requires.at.1) (behind_short c.args.count was.made (omega (arith, was.counted, c.loop-test.true))) refl

pub loop-preserved : goal.loop-preserved
loop-preserved g c =
    let was = c.loop.invariant in
    let f = g.D.Desk.desk c.loop.desk in
    let h = g.D.Desk.desk c.tick.new.self in
    let hold = c.tick.ensures.holds in
    let kind = kinds.Tick c.tick.result in
    let own = mine_entered hold kind c.tick.ensures.answered.enters in
    let e : Entry = record { seat = f.seat; kind = kind } in
    record {
      later = later_trans (g.D.Desk.desk c.args.desk.now) f h was.later (later_entered hold kind c.tick.ensures.answered.enters);
      made = was.made ++ e ∷ [];
      counted = length-append was.made (e ∷ []) ∙ ap (λ n. n + 1) was.counted;
      at = λ rest start. at_more f h (actions.Tick c.args.count ∷ rest) was.made (e ∷ []) hold.script_is own (was.at rest start);
      rests = ap (λ all. is_free all 0) own ∙ free_stays (mine f) (e ∷ []) 0 (λ run. refl, tt) (λ held. refl, tt) ∙ was.rests;
      time = λ told keeps. time_on told (g.C.Clock.readings c.loop.clock) (g.C.Clock.readings c.now.new.self) f h c.tick.ensures.past c.now.result c.tick.result
          (was.later.seat_is ∙ c.requires.driver) c.now.ensures.first c.now.ensures.later hold.legal hold.own c.tick.ensures.answered.moment own
          (was.time told keeps);
    }

pub returns : goal.returns
returns g c =
    let was = c.loop.invariant in
    record {
      later = was.later;
      next = λ rest start. at_next (g.D.Desk.desk c.loop.desk) (actions.Tick c.args.count) rest was.made [] (was.at rest start)
          (behind_all c.args.count was.made (omega (arith, was.counted, c.loop-test.false, c.loop.auto.counter-end)));
      rests = was.rests;
      time = was.time;
    }
