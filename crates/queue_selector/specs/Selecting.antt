-- What contracts see of a selector, and what it chooses.
use Rattle.std.specs.Prelude.{ℕ, ◌+◌, nat_lt, Bool, List, length, Option, slice_index_or, slice_set, if◌then◌else◌}
use Rattle.std.specs.Option.{option_map}
use Rattle.task_base.specs.declared.script.Lane.{Lane}
use Rattle.task_base.specs.declared.script.Lane.TheVariants.{Immediate, Delayed}
use Rattle.queue_selector.specs.declared.front.Front.{Front}
use Rattle.queue_selector.specs.declared.row.Row.{Row}
use Rattle.queue_selector.specs.Fronts.{choice_among, immediate_of_least_class}
use Rattle.queue_selector.specs.Rows.{closed_row, with_order, fronts_from}

-- what is known of each queue, its number being its place; and how many delayed tasks have run in a row while an
-- immediate one of their class waited
pub record Selecting : Type 0 where
  pub rows : List Row
  pub streak : ℕ

-- what is known of the queue
abbrev pub row_at : Selecting → ℕ → Row
row_at s queue = slice_index_or s.rows queue closed_row

-- the queue in another class
abbrev pub with_class : Selecting → ℕ → ℕ → Selecting
with_class s queue class = record s { rows = slice_set s.rows queue (record (row_at s queue) { class = class }) }

-- another front in one lane of the queue, or none
abbrev pub with_front : Selecting → ℕ → Lane → Option ℕ → Selecting
with_front s queue lane order = record s { rows = slice_set s.rows queue (with_order (row_at s queue) lane order) }

-- the open fronts of all queues
abbrev pub open_fronts : Selecting → List Front
open_fronts s = fronts_from 0 s.rows

-- the queue and the lane whose front runs next
abbrev pub choice : Selecting → Option (ℕ × Lane)
choice s = option_map (λ front. (front.queue, front.lane)) (choice_among (open_fronts s) s.streak)

-- an immediate front of the chosen class is open
abbrev pub immediate_is_open : Selecting → Bool
immediate_is_open s = nat_lt 0 (length (immediate_of_least_class (open_fronts s)))

-- the streak once the chosen front, which is of the lane, has been taken
abbrev pub streak_after : Selecting → Lane → ℕ
streak_after s Immediate = 0
streak_after s Delayed = if immediate_is_open s then s.streak + 1 else 0
