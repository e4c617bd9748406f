-- Which of several open fronts runs first.
use Rattle.std.specs.Prelude.{ℕ, ◌==◌, nat_lt, nat_le, Bool, true, false, ◌&&◌, if◌then◌else◌, List, length, filter, Option}
use Rattle.std.specs.Option.{option_map}
use Rattle.list_laws.specs.Lists.{least, holds_of}
use Rattle.task_base.specs.declared.script.Lane.{Lane}
use Rattle.task_base.specs.declared.script.Lane.TheVariants.{Immediate, Delayed}
use Rattle.queue_selector.specs.declared.front.Front.{Front}

-- it is the immediate lane
abbrev pub is_immediate : Lane → Bool
is_immediate Immediate = true
is_immediate Delayed = false

-- the first front has the lesser order
abbrev pub order_below : Front → Front → Bool
order_below a b = nat_lt a.order b.order

-- the queue of the first front has the lesser class
abbrev pub class_below : Front → Front → Bool
class_below a b = nat_lt a.class b.class

-- the least class among some fronts
abbrev pub least_class : List Front → Option ℕ
least_class fronts = option_map (λ f. f.class) (least class_below fronts)

-- those of the least class
abbrev pub of_least_class : List Front → List Front
of_least_class fronts = filter (λ f. holds_of (λ class. f.class == class) (least_class fronts)) fronts

-- the immediate ones among those of the least class
abbrev pub immediate_of_least_class : List Front → List Front
immediate_of_least_class fronts = filter (λ f. is_immediate f.lane) (of_least_class fronts)

-- how many delayed tasks may run in a row while an immediate one of their class waits
abbrev pub most_delayed : ℕ
most_delayed = 3

-- immediate tasks waited through as many delayed ones as they may, and an immediate one of the least class is among the
-- fronts
abbrev pub is_starved : List Front → ℕ → Bool
is_starved fronts streak = nat_le most_delayed streak && nat_lt 0 (length (immediate_of_least_class fronts))

-- the choice among open fronts after a streak: of those of the least class, or where immediate tasks are starved of the
-- immediate ones among them, the one of least order (as Chromium's `task_queue_selector.cc` has it)
abbrev pub choice_among : List Front → ℕ → Option Front
choice_among fronts streak = least order_below (if is_starved fronts streak then immediate_of_least_class fronts else of_least_class fronts)
