-- The heap of delayed tasks as the list that it stands for.
use Rattle.std.specs.Prelude.{ℕ, ◌≤◌, nat_lt, Bool, List, map}
use Rattle.std.specs.declared.cmp.Ordering.{Ordering}
use Rattle.std.specs.declared.cmp.Reverse.{Reverse}
use Rattle.std.specs.Ordering.{nat_cmp, ordering_then}
use Rattle.std.specs.BinaryHeap.{IsHeap}
use Rattle.list_laws.specs.Lists.{then_by}
use Rattle.list_laws.specs.Sorts.{Rises, sort_by}
use Rattle.delayed_manager.specs.declared.ripening.Ripening.{Ripening}
use Rattle.delayed_manager.specs.Delayed.{ripens_before}

-- the order of the heap, whose greatest is the one that ripens first
abbrev pub heap_cmp : Reverse Ripening → Reverse Ripening → Ordering
heap_cmp a b = ordering_then (nat_cmp b.0.ripe a.0.ripe) (ordering_then (nat_cmp b.0.post a.0.post) (nat_cmp b.0.task a.0.task))

-- the first goes before the second: by the moment, the post and the task
abbrev pub ripens_first : Ripening → Ripening → Bool
ripens_first = then_by (λ r. r.ripe) (then_by (λ r. r.post) (λ a b. nat_lt a.task b.task))

-- the heap's tasks in order
abbrev pub in_order : List (Reverse Ripening) → List Ripening
in_order items = sort_by ripens_first (map (λ r. r.0) items)

-- the heap is in order, has the room, and holds tasks of which one ripens before the other
pub record IsSound (items : List (Reverse Ripening)) (capacity room : ℕ) : Type 0 where
  pub heap : IsHeap heap_cmp items
  pub reserved : room ≤ capacity
  pub apart : Rises ripens_before (in_order items)
