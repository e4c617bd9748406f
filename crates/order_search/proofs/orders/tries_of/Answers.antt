use Rattle.std.proofs.Common.{◌≡◌, ◌+◌, arith, length, refl, ap, ◌∙◌}
use Rattle.task_base.specs.Plan.{Plan}
use Rattle.order_model.specs.Orders.{own_events}
use Rattle.order_search.proofs.Linked.{linked_same}
use Rattle.order_search.proofs.Merged.{seated_other}
use Rattle.order_search.proofs.orders.tries_of.Goals as goal

pub of-requires-2 : goal.of-requires-2
of-requires-2 c = record {
  seated = λ k d within.
      let seated = seated_other (c.args.script.now.workers + 1) c.in_ok-events.events.items c.args.seen.now
      (λ seat. c.in_ok-events.ensures.own seat ∙ ap (own_events seat) (c.in_ok-as_seen.ensures.events ∙ c.in_ok-copy.ensures.items))
      (λ i e inside. omega (arith, c.requires.seated i e inside)) k d within in
      omega (arith, seated, ap (λ (p : Plan). p.workers) c.script.view_is);
}

pub returns : goal.returns
returns c = let seats : c.script.inside.workers + 1 ≡ c.args.script.now.workers + 1 = omega (arith, ap (λ (p : Plan). p.workers) c.script.view_is) in record {
  task = λ prefix. record {
    linked = rw c.in_ok-tries.ensures.events (linked_same _ _ _ _ _ _ _ _ seats refl c.in_ok-tries.ensures.linked);
    few = omega (
      arith,
      c.in_ok-events.ensures.count,
      ap length (c.in_ok-as_seen.ensures.events ∙ c.in_ok-copy.ensures.items),
      ap length c.in_ok-tries.ensures.events,
      c.requires.few,
    );
    seated = rw c.in_ok-tries.ensures.events (seated_other (c.args.script.now.workers + 1) c.in_ok-events.events.items c.args.seen.now
        (λ seat. c.in_ok-events.ensures.own seat ∙ ap (own_events seat) (c.in_ok-as_seen.ensures.events ∙ c.in_ok-copy.ensures.items))
        (λ i e inside. omega (arith, c.requires.seated i e inside)));
  };
  own = λ seat. ap (own_events seat) c.in_ok-tries.ensures.events ∙ c.in_ok-events.ensures.own seat
      ∙ ap (own_events seat) (c.in_ok-as_seen.ensures.events ∙ c.in_ok-copy.ensures.items);
}
