use Rattle.std.proofs.Common.{take}
use Rattle.order_model.specs.Orders.{entries_of}
use Rattle.order_model.specs.Plans.{plan_of}
use Rattle.order_search.specs.Following.{came}
use Rattle.order_search.specs.Walk.{events_in}
use Rattle.order_search.proofs.Steps.{few_followed, followed_more}
use Rattle.order_search.proofs.walk.follow_anew.Goals as goal

pub follow-requires : goal.follow-requires
follow-requires c =
    let k = c.loop-placed.placed-index in (
      c.args.kind,
      entries_of (events_in (take k c.args.path.now)),
      c.loop-placed.invariant.followed,
      few_followed c.args.path.now k c.loop-placed-test.true c.requires.few,
    )

pub loop-placed-preserved : goal.loop-placed-preserved
loop-placed-preserved c =
    let k = c.loop-placed.placed-index in
    let on = c.follow.ensures c.args.kind (entries_of (events_in (take k c.args.path.now))) c.loop-placed.invariant.followed
    (few_followed c.args.path.now k c.loop-placed-test.true c.requires.few) in
    record {
      followed = followed_more (plan_of c.args.kind c.args.script.now) c.args.path.now k _ c.follow.new.self (came c.follow.result) c.requires.legal
          c.loop-placed-test.true on.goes_on;
    }
