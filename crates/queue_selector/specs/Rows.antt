-- What the rows of queues say of their open fronts.
use Rattle.std.specs.Prelude.{ℕ, ◌+◌, List, [], ◌∷◌, ◌++◌, Option, None}
use Rattle.std.specs.Option.{option_map, option_to_list}
use Rattle.task_base.specs.declared.script.Lane.{Lane}
use Rattle.task_base.specs.declared.script.Lane.TheVariants.{Immediate, Delayed}
use Rattle.queue_selector.specs.declared.front.Front.{Front}
use Rattle.queue_selector.specs.declared.row.Row.{Row}

-- the row of a queue of class 0 with no open front
abbrev pub closed_row : Row
closed_row = record { class = 0; immediate = None; delayed = None }

-- the order of the open front of a lane
abbrev pub order_in : Lane → Row → Option ℕ
order_in Immediate row = row.immediate
order_in Delayed row = row.delayed

-- the row with another front in one lane, or none
abbrev pub with_order : Row → Lane → Option ℕ → Row
with_order row Immediate order = record row { immediate = order }
with_order row Delayed order = record row { delayed = order }

-- the open front of a lane of the queue
abbrev pub open_front : ℕ → Lane → Row → Option Front
open_front queue lane row = option_map (λ order. record { class = row.class; lane = lane; order = order; queue = queue }) (order_in lane row)

-- the open fronts of the queue
abbrev pub row_fronts : ℕ → Row → List Front
row_fronts queue row = option_to_list (open_front queue Immediate row) ++ option_to_list (open_front queue Delayed row)

-- the open fronts of the queues from one on
abbrev pub fronts_from : ℕ → List Row → List Front
fronts_from queue [] = []
fronts_from queue (row ∷ rows) = row_fronts queue row ++ fronts_from (queue + 1) rows
