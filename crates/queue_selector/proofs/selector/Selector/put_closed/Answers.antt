use Rattle.std.proofs.Common.{◌≡◌, ◌<◌, List, None, length, subst, ap, sym}
use Rattle.task_base.specs.declared.script.Lane.{Lane}
use Rattle.queue_selector.specs.declared.row.Row.{Row}
use Rattle.queue_selector.specs.Rows.{order_in}
use Rattle.queue_selector.proofs.Again.{moved}
use Rattle.queue_selector.proofs.Parts.{row_of}
use Rattle.queue_selector.proofs.selector.Selector.put_closed.Goals as goal

pub invariant_of-self : goal.invariant_of-self
invariant_of-self c = moved c.self.inside.rows.items c.self.inside.sets.items c.args.queue c.args.class c.index_mut.result.now c.self.invariant
    (subst (λ (rows : List Row). c.args.queue < length rows) (ap (λ s. s.rows) (sym c.self.view_is)) c.requires.queue) c.index_mut.ensures.value
    (subst (λ (rows : List Row). (lane : Lane) → order_in lane (row_of rows c.args.queue) ≡ None) (ap (λ s. s.rows) (sym c.self.view_is)) c.requires.closed)
    c.requires.class
