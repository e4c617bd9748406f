use Rattle.std.proofs.Common.{take}
use Rattle.order_model.specs.Orders.{entries_of}
use Rattle.order_model.specs.Plans.{plan_of}
use Rattle.order_search.specs.Following.{Follows}
use Rattle.order_search.specs.Walk.{events_in}
use Rattle.order_search.proofs.walk.follow_anew.Given as goal

abbrev pub invariant-loop-placed : goal.invariant-loop-placed
invariant-loop-placed l = record {
  followed : Follows (plan_of l.fn.kind l.script) (entries_of (events_in (take l.placed-index l.path))) l.fresh;
}
