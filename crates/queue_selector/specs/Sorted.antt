-- How a selector keeps the open fronts: in a set for each class and lane, where they rise in order.
use Rattle.std.specs.Prelude.{◌≡◌, ℕ, ◌+◌, ◌*◌, ◌≤◌, ◌==◌, ◌&&◌, nat_lt, Bool, not, if◌then◌else◌, List}
use Rattle.std.specs.Prelude.{[], length, map, filter, slice_index_or, Option, Some, None, All}
use Rattle.list_laws.specs.Lists.{least}
use Rattle.list_laws.specs.Sorts.{sort_by, Differ}
use Rattle.task_base.specs.declared.script.Lane.{Lane}
use Rattle.task_base.specs.declared.script.Lane.TheVariants.{Immediate, Delayed}
use Rattle.queue_selector.specs.declared.front.Front.{Front}
use Rattle.queue_selector.specs.declared.front_set.Entry.{Entry}
use Rattle.queue_selector.specs.declared.row.Row.{Row}
use Rattle.queue_selector.specs.declared.selector.TheConstants.{LAST_CLASS, SETS}
use Rattle.queue_selector.specs.FrontSet.{Entries}
use Rattle.queue_selector.specs.Fronts.{is_immediate, most_delayed, order_below}
use Rattle.queue_selector.specs.Rows.{fronts_from}

-- the front is in the lane
abbrev pub is_in : Lane → Front → Bool
is_in Immediate front = is_immediate front.lane
is_in Delayed front = not (is_immediate front.lane)

-- the front is of the class and in the lane
abbrev pub is_of : ℕ → Lane → Front → Bool
is_of class lane front = front.class == class && is_in lane front

-- the front of least order among those of the class in the lane
abbrev pub first_of : ℕ → Lane → List Front → Option Front
first_of class lane fronts = least order_below (filter (is_of class lane) fronts)

-- which of the first fronts of the two lanes of a class runs first
abbrev pub sooner_of : ℕ → Option Front → Option Front → Option Front
sooner_of streak None delayed = delayed
sooner_of streak (Some immediate) None = Some immediate
sooner_of streak (Some immediate) (Some delayed) =
    Some (if nat_lt streak most_delayed && order_below delayed immediate then delayed else immediate)

-- a front as a set holds it
abbrev pub entry_of : Front → Entry
entry_of front = record { order = front.order; queue = front.queue }

-- what the set of the class and the lane holds
abbrev pub sorted : ℕ → Lane → List Front → List Entry
sorted class lane fronts = map entry_of (sort_by order_below (filter (is_of class lane) fronts))

-- the place of the set of the class and the lane among all sets
abbrev pub set_place : ℕ → Lane → ℕ
set_place class Immediate = 2 * class
set_place class Delayed = 2 * class + 1

-- with room for none
abbrev pub no_set : Entries
no_set = record { entries = []; room = 0 }

-- the set of the class and the lane
abbrev pub set_of : List Entries → ℕ → Lane → Entries
set_of sets class lane = slice_index_or sets (set_place class lane) no_set

-- the sets hold the open fronts of the rows, no two of which have one order, and have room for a front of each row
pub record IsSorted (rows : List Row) (sets : List Entries) : Type 0 where
  pub count : length sets ≡ SETS
  pub classes : All (λ row. row.class ≤ LAST_CLASS) rows
  pub differ : Differ order_below (fronts_from 0 rows)
  pub holds : (class : ℕ) (lane : Lane) → class ≤ LAST_CLASS
      → set_of sets class lane ≡ record { entries = sorted class lane (fronts_from 0 rows); room = length rows }
