use Rattle.queue_selector.proofs.Moves.{none_held}
use Rattle.std.proofs.Common.{◌≡◌, replicate}
use Rattle.queue_selector.specs.Rows.{closed_row}
use Rattle.queue_selector.proofs.selector.Selector.new.Goals as goal

pub invariant_of-result : goal.invariant_of-result
invariant_of-result c =
    let rows : c.in_ok-rows.rows.items ≡ replicate c.args.queues closed_row = c.in_ok-rows.ensures.items_if_clones_equal (λ y is. is) in
    rw (rows, c.in_ok-sets.ensures) (none_held c.args.queues)
