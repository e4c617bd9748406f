use Rattle.std.proofs.Common.{◌<◌, List, length, subst, ap, sym, ◌∙◌}
use Rattle.queue_selector.specs.declared.row.Row.{Row}
use Rattle.queue_selector.proofs.Moves.{closed}
use Rattle.queue_selector.proofs.selector.Selector.close.Goals as goal

pub invariant_of-self : goal.invariant_of-self
invariant_of-self c =
    let within : c.args.queue < length c.self.inside.rows.items =
    subst (λ (rows : List Row). c.args.queue < length rows) (ap (λ s. s.rows) (sym c.self.view_is)) c.requires.queue in
    closed c.self.inside.rows.items c.self.inside.sets.items c.args.queue c.args.lane c.in-Some.order c.index.result.now
    c.with_order.result c.set_place.result c.index_mut.result.now c.remove.new.self c.self.invariant (sym c.order.ensures ∙ c.in-Some.is)
    (record { within = within; row_is = c.index.ensures; place_is = c.set_place.ensures; held_is = c.index_mut.ensures.value })
    c.with_order.ensures c.remove.ensures
