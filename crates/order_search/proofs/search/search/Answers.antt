use Rattle.std.proofs.Common.{◌+◌, ◌<◌, get_or, length, arith, subst, sym, ap}
use Rattle.order_model.specs.Orders.{IsBeginning}
use Rattle.order_model.specs.Plans.{plan_of}
use Rattle.order_search.specs.declared.best.Best.{Best}
use Rattle.order_search.specs.Search.{Keeps}
use Rattle.order_search.proofs.Steps.{parted_here}
use Rattle.order_search.proofs.Turned.{best_kept, stood_first}
use Rattle.order_search.proofs.search.search.Goals as goal

pub loop-init : goal.loop-init
loop-init c = let made = c.in_ok-walk.ensures in
    stood_first _ c.in_ok-walk.walk c.requires.task made.heads made.path made.start made.best made.rest made.follower

pub keep-requires : goal.keep-requires
keep-requires c = record {
  seated = λ k d within.
      let stood = c.loop.invariant in
      let seated = stood.walk_is.is.seated k d (omega (arith, within, ap length c.deref-2.ensures.value)) in
      let seat : (get_or c.deref-2.result.now k d).entry.seat < (plan_of c.args.kind c.args.script.now).workers + 1 = rw c.deref-2.ensures.value seated in
      omega (arith, seat, (parted_here stood.walk_is).count, ap length c.deref-4.ensures.value);
}

pub returns : goal.returns
returns c =
    let stood = c.loop.invariant in
    let walk = c.loop.walk in
    let keeps : Keeps c.deref-2.result.now c.deref-3.result.now c.deref-4.result.now walk.best c.keep.new.self = c.in_ok-keep.ensures in
    let here : Keeps c.deref-2.result.now walk.path.items walk.heads.items walk.best c.keep.new.self =
    subst (λ l. Keeps c.deref-2.result.now walk.path.items l walk.best c.keep.new.self) c.deref-4.ensures.value
    (subst (λ l. Keeps c.deref-2.result.now l c.deref-4.result.now walk.best c.keep.new.self) c.deref-3.ensures.value keeps) in
    let kept = best_kept c.deref-2.result.now walk.best c.keep.new.self stood.walk_is c.deref-2.ensures.value here stood.best_is in
    subst (λ (b : Best). IsBeginning (plan_of c.args.kind c.args.script.now) c.args.tries.now.events.items b.events.items b.rest.items)
    (sym c.into_best-events-2.ensures) kept
