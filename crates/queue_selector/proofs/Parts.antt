-- The open fronts before and behind that of one lane of a queue.
-- Cited by `Selector::put_closed`, `Selector::set_front`, `Again`, `Choice`, `Held`, `Moves`.
use Rattle.std.proofs.Common.{◌≡◌, ℕ, zero, suc, ◌+◌, ◌<◌, List, [], ◌∷◌, ◌++◌, length, get_or, set, append_assoc}
use Rattle.std.proofs.Common.{get_or-set_same, set-set, refl, sym, ap, ◌∙◌, arith, Option, None, subst}
use Rattle.std.specs.Option.{option_map, option_to_list}
use Rattle.std.proofs.lemmas.List.{set-get_or}
use Rattle.task_base.specs.declared.script.Lane.{Lane}
use Rattle.task_base.specs.declared.script.Lane.TheVariants.{Immediate, Delayed}
use Rattle.queue_selector.specs.declared.front.Front.{Front}
use Rattle.queue_selector.specs.declared.row.Row.{Row}
use Rattle.queue_selector.specs.Rows.{closed_row, order_in, with_order, open_front, row_fronts, fronts_from}

abbrev pub row_of : List Row → ℕ → Row
row_of rows queue = get_or rows queue closed_row

-- the rows with another front in one lane of the queue, or none
abbrev pub put : List Row → ℕ → Lane → Option ℕ → List Row
put rows queue lane order = set rows queue (with_order (row_of rows queue) lane order)

-- the front of a lane of the queue
abbrev pub front_at : ℕ → Lane → ℕ → ℕ → Front
front_at class lane queue order = record { class = class; lane = lane; order = order; queue = queue }

-- the open fronts of the rows from one on, with any front in the lane at the place
pub record Parts (base : ℕ) (rows : List Row) (place queue : ℕ) (lane : Lane) : Type 0 where
  pub front : List Front
  pub back : List Front
  pub is : (order : Option ℕ) → fronts_from base (put rows place lane order)
      ≡ front ++ (option_to_list (option_map (front_at (row_of rows place).class lane queue) order) ++ back)

first : (base : ℕ) (row : Row) (rows : List Row) (lane : Lane) → Parts base (row ∷ rows) 0 base lane
first base row rows Immediate = record {
  front = [];
  back = option_to_list (open_front base Delayed row) ++ fronts_from (base + 1) rows;
  is = λ order. append_assoc (option_to_list (option_map (front_at row.class Immediate base) order)) _ _;
}
first base row rows Delayed = record {
  front = option_to_list (open_front base Immediate row);
  back = fronts_from (base + 1) rows;
  is = λ order. append_assoc (option_to_list (open_front base Immediate row)) _ _;
}

behind : (base : ℕ) (row : Row) (rows : List Row) (place queue : ℕ) (lane : Lane) → Parts (base + 1) rows place queue lane
    → Parts base (row ∷ rows) (suc place) queue lane
behind base row rows place queue lane rest = record {
  front = row_fronts base row ++ rest.front;
  back = rest.back;
  is = λ order. ap (λ l. row_fronts base row ++ l) (rest.is order) ∙ sym (append_assoc (row_fronts base row) rest.front _);
}

pub parts : (base : ℕ) (rows : List Row) (place queue : ℕ) (lane : Lane) → place < length rows → queue ≡ base + place → Parts base rows place queue lane
parts base [] place queue lane within is = absurd (omega (arith, within))
parts base (row ∷ rows) zero queue lane within is = subst (λ q. Parts base (row ∷ rows) 0 q lane) (omega (arith, is)) (first base row rows lane)
parts base (row ∷ rows) (suc place) queue lane within is =
    behind base row rows place queue lane (parts (base + 1) rows place queue lane (omega (arith, within)) (omega (arith, is)))

-- a write over another
pub set_over : (rows : List Row) (queue : ℕ) (row : Row) (f : Row → Row) → queue < length rows
    → set (set rows queue row) queue (f (row_of (set rows queue row) queue)) ≡ set rows queue (f row)
set_over rows queue row f within =
    ap (λ r. set (set rows queue row) queue (f r)) (get_or-set_same rows queue row closed_row within) ∙ set-set rows queue row (f row)

-- what a queue has already
pub put_same : (rows : List Row) (queue : ℕ) (lane : Lane) (order : Option ℕ) → order_in lane (row_of rows queue) ≡ order → put rows queue lane order ≡ rows
put_same rows queue lane order is =
    ap (λ o. put rows queue lane o) (sym is) ∙ ap (set rows queue) (same lane (row_of rows queue)) ∙ set-get_or rows queue closed_row
  where
    same : (lane : Lane) (row : Row) → with_order row lane (order_in lane row) ≡ row
    same Immediate row = refl
    same Delayed row = refl

-- a front in place of one that was closed before
pub put_put : (rows : List Row) (queue : ℕ) (lane : Lane) (order : Option ℕ) → queue < length rows
    → put (put rows queue lane None) queue lane order ≡ put rows queue lane order
put_put rows queue lane order within =
    set_over rows queue (with_order (row_of rows queue) lane None) (λ row. with_order row lane order) within
    ∙ ap (set rows queue) (over lane (row_of rows queue))
  where
    over : (lane : Lane) (row : Row) → with_order (with_order row lane None) lane order ≡ with_order row lane order
    over Immediate row = refl
    over Delayed row = refl

-- a queue with no open front has none in any class
pub reclassed : (base : ℕ) (rows : List Row) (queue class : ℕ) → (row_of rows queue).immediate ≡ None → (row_of rows queue).delayed ≡ None
    → fronts_from base (set rows queue (record (row_of rows queue) { class = class })) ≡ fronts_from base rows
reclassed base [] queue class no_immediate no_delayed = refl
reclassed base (row ∷ rows) zero class no_immediate no_delayed = rw (no_immediate, no_delayed) refl
reclassed base (row ∷ rows) (suc queue) class no_immediate no_delayed =
    ap (λ l. row_fronts base row ++ l) (reclassed (base + 1) rows queue class no_immediate no_delayed)
