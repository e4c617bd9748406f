use Rattle.std.proofs.Common.{ap}
use Rattle.queue_selector.proofs.Moves.{MayOpen, has_room, may_open, opened}
use Rattle.queue_selector.proofs.selector.Selector.open.Goals as goal

pub insert-requires : goal.insert-requires
insert-requires c =
    let may : MayOpen c.self.inside.rows.items c.args.queue c.args.lane c.in-Some.order =
    may_open c.args.self.now.rows c.self.inside.rows.items c.args.queue c.args.lane c.in-Some.order c.args.order (ap (λ s. s.rows) c.self.view_is) c.in-Some.is
    c.requires.queue c.requires.closed c.requires.differs in record {
      room = has_room c.self.inside.rows.items c.self.inside.sets.items c.args.queue c.args.lane c.in-Some.order c.index-row.result.now
          c.set_place.result c.index_mut.result.now c.self.invariant may
          (record { within = may.within; row_is = c.index-row.ensures; place_is = c.set_place.ensures; held_is = c.index_mut.ensures.value });
    }

pub invariant_of-self : goal.invariant_of-self
invariant_of-self c =
    let may : MayOpen c.self.inside.rows.items c.args.queue c.args.lane c.in-Some.order =
    may_open c.args.self.now.rows c.self.inside.rows.items c.args.queue c.args.lane c.in-Some.order c.args.order (ap (λ s. s.rows) c.self.view_is) c.in-Some.is
    c.requires.queue c.requires.closed c.requires.differs in
    opened c.self.inside.rows.items c.self.inside.sets.items c.args.queue c.args.lane c.in-Some.order c.index-row.result.now
    c.with_order.result c.set_place.result c.index_mut.result.now c.insert.new.self c.self.invariant may
    (record { within = may.within; row_is = c.index-row.ensures; place_is = c.set_place.ensures; held_is = c.index_mut.ensures.value })
    c.with_order.ensures c.insert.ensures
