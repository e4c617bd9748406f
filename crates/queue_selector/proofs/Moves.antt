-- The sets stay sorted where a front is opened or closed.
-- Cited by `Selector::close`, `Selector::first`, `Selector::new`, `Selector::open`, `Again`.
use Rattle.std.proofs.Common.{◌≡◌, ℕ, zero, suc, ◌+◌, ◌<◌, ◌≤◌, Bool, true, false, not, List, [], ◌∷◌, ◌++◌, length, get_or, set, replicate}
use Rattle.std.proofs.Common.{length-set, get_or-set_same, get_or-set_other, refl, sym, ap, ◌∙◌, inl, inr, arith, Option, Some, None, All, IfSome, subst}
use Rattle.std.specs.Prelude.{◌⊎◌, ◌==◌, ◌≢◌, ◌&&◌, filter}
use Rattle.std.specs.List.{AllByRecursion}
use Rattle.std.proofs.lemmas.Bool.{cases_eq, cases_order, ne_eqb, eq-eqb, lt-ltb}
use Rattle.std.proofs.lemmas.List.{length-replicate, get_or_default, get_or-replicate}
use Rattle.std.proofs.lemmas.List.Elements.{recursion_from_All, All-from_recursion, All-set, All-get_or}
use Rattle.list_laws.specs.Sorts.{insert_by, Differ}
use Rattle.list_laws.proofs.Elements.{AllByRecursion-map}
use Rattle.task_base.specs.declared.script.Lane.{Lane}
use Rattle.task_base.specs.declared.script.Lane.TheVariants.{Immediate, Delayed}
use Rattle.queue_selector.specs.declared.front.Front.{Front}
use Rattle.queue_selector.specs.declared.front_set.Entry.{Entry}
use Rattle.queue_selector.specs.declared.row.Row.{Row}
use Rattle.queue_selector.specs.FrontSet.{Entries, entry_below, with_entries}
use Rattle.queue_selector.specs.Fronts.{order_below}
use Rattle.queue_selector.specs.Rows.{closed_row, order_in, with_order, fronts_from}
use Rattle.queue_selector.specs.Sorted.{IsSorted, entry_of, is_in, is_of, no_set, set_of, set_place, sorted}
use Rattle.queue_selector.proofs.Held.{few_sorted, sorted-more, sorted-other, sorted-without}
use Rattle.queue_selector.proofs.Parts.{Parts, parts, front_at, put, put_same, row_of}
use Rattle.queue_selector.proofs.Sorting.{Apart, differ-seam, differ-unseam}
use Rattle.list_laws.proofs.Rises.{length-insert_by}

-- ---- the sets

-- the front is of the class and the lane, or they have another set than its own
which : (class other : ℕ) (lane other_lane : Lane) (f : Front) → f.class ≡ class → f.lane ≡ lane
    → ((class ≡ other) × (lane ≡ other_lane)) ⊎ ((set_place other other_lane ≢ set_place class lane) × (is_of other other_lane f ≡ false))
which class other lane other_lane f of in_lane = by_class (cases_eq class other) lane other_lane in_lane
  where
    neither : (b : Bool) → (b && false) ≡ false
    neither true = refl
    neither false = refl

    by_class : (class ≡ other) ⊎ (class ≡ other → ⊥) → (lane other_lane : Lane) → f.lane ≡ lane
        → ((class ≡ other) × (lane ≡ other_lane)) ⊎ ((set_place other other_lane ≢ set_place class lane) × (is_of other other_lane f ≡ false))
    by_class (inl same) Immediate Immediate is = inl (same, refl)
    by_class (inl same) Delayed Delayed is = inl (same, refl)
    by_class (inl same) Immediate Delayed is = inr ((λ e. omega (arith, e)), rw is (neither (f.class == other)))
    by_class (inl same) Delayed Immediate is = inr ((λ e. omega (arith, e)), rw is (neither (f.class == other)))
    by_class (inr not) lane other_lane is = inr (apart lane other_lane, ap (λ b. b && is_in other_lane f) (ne_eqb f.class other (λ e. not (sym of ∙ e))))
      where
        apart : (lane other_lane : Lane) → set_place other other_lane ≢ set_place class lane
        apart Immediate Immediate = λ e. not (omega (arith, e))
        apart Immediate Delayed = λ e. omega (arith, e)
        apart Delayed Immediate = λ e. omega (arith, e)
        apart Delayed Delayed = λ e. not (omega (arith, e))

-- a queue has another front in the lane, of whose set this is told
told : (rows : List Row) (sets : List Entries) (queue : ℕ) (lane : Lane) (order : Option ℕ) (f : Front) (entries : List Entry) → IsSorted rows sets
    → f.class ≡ (row_of rows queue).class → f.lane ≡ lane → queue < length rows → Differ order_below (fronts_from 0 (put rows queue lane order))
    → entries ≡ sorted (row_of rows queue).class lane (fronts_from 0 (put rows queue lane order))
    → ((class : ℕ) (other_lane : Lane) → is_of class other_lane f ≡ false
    → sorted class other_lane (fronts_from 0 (put rows queue lane order)) ≡ sorted class other_lane (fronts_from 0 rows))
    → IsSorted (put rows queue lane order) (set sets (set_place (row_of rows queue).class lane) (record { entries = entries; room = length rows }))
told rows sets queue lane order f entries old of in_lane within differ here others = record {
  count = length-set sets (set_place row.class lane) _ ∙ old.count;
  classes = All-set (λ r. r.class ≤ 7) rows queue (with_order row lane order) (kept lane) old.classes;
  differ = differ;
  holds = holds;
}
  where
    row : Row
    row = row_of rows queue

    low : row.class ≤ 7
    low = All-get_or (λ r. r.class ≤ 7) rows queue closed_row within old.classes

    kept : (lane : Lane) → (with_order row lane order).class ≤ 7
    kept Immediate = low
    kept Delayed = low

    set_within : (lane : Lane) → set_place row.class lane < length sets
    set_within Immediate = omega (arith, low, old.count)
    set_within Delayed = omega (arith, low, old.count)

    long : length (put rows queue lane order) ≡ length rows
    long = length-set rows queue (with_order row lane order)

    holds : (class : ℕ) (other_lane : Lane) → class ≤ 7
        → set_of (set sets (set_place row.class lane) (record { entries = entries; room = length rows })) class other_lane
        ≡ record { entries = sorted class other_lane (fronts_from 0 (put rows queue lane order)); room = length (put rows queue lane order) }
    holds class other_lane le = by_which (which row.class class lane other_lane f of in_lane)
      where
        by_which : ((row.class ≡ class) × (lane ≡ other_lane)) ⊎ ((set_place class other_lane ≢ set_place row.class lane) × (is_of class other_lane f ≡ false))
            → set_of (set sets (set_place row.class lane) (record { entries = entries; room = length rows })) class other_lane
            ≡ record { entries = sorted class other_lane (fronts_from 0 (put rows queue lane order)); room = length (put rows queue lane order) }
        by_which (inl same) = rw (← same.0, ← same.1) (
            get_or-set_same sets (set_place row.class lane) (record { entries = entries; room = length rows }) no_set (set_within lane)
            ∙ ap (λ (es : List Entry). record { entries = es; room = length rows }) here
            ∙ ap (λ (n : ℕ). record { entries = sorted row.class lane (fronts_from 0 (put rows queue lane order)); room = n }) (sym long)
            )
        by_which (inr other) =
            get_or-set_other sets (set_place row.class lane) (set_place class other_lane) (record { entries = entries; room = length rows }) no_set other.0
            ∙ old.holds class other_lane le
            ∙ ap (λ (es : List Entry). record { entries = es; room = length rows }) (sym (others class other_lane other.1))
            ∙ ap (λ (n : ℕ). record { entries = sorted class other_lane (fronts_from 0 (put rows queue lane order)); room = n }) (sym long)

-- what is read to move a front: the row of its queue, and the set of its class and its lane
pub record Reads (rows : List Row) (sets : List Entries) (queue : ℕ) (lane : Lane) (row : Row) (place : ℕ) (held : Entries) : Type 0 where
  pub within : queue < length rows
  pub row_is : row ≡ get_or rows queue row
  pub place_is : place ≡ set_place row.class lane
  pub held_is : held ≡ get_or sets place held

same_row : {rows : List Row} {sets : List Entries} {queue : ℕ} {lane : Lane} {row : Row} {place : ℕ} {held : Entries}
    → Reads rows sets queue lane row place held → row_of rows queue ≡ row
same_row {rows = rows} {queue = queue} {row = row} reads = sym (reads.row_is ∙ get_or_default rows queue row closed_row reads.within)

-- the set at the place of a class and a lane
pub set_is : (rows : List Row) (sets : List Entries) (class : ℕ) (lane : Lane) (place : ℕ) (held : Entries) → IsSorted rows sets → class ≤ 7
    → place ≡ set_place class lane → held ≡ get_or sets place held → record { entries = sorted class lane (fronts_from 0 rows); room = length rows } ≡ held
set_is rows sets class lane place held old low place_is held_is =
    sym (old.holds class lane low)
    ∙ ap (λ p. get_or sets p no_set) (sym place_is)
    ∙ sym (held_is ∙ get_or_default sets place held no_set (within lane place_is))
  where
    within : (lane : Lane) → place ≡ set_place class lane → place < length sets
    within Immediate is = omega (arith, is, low, old.count)
    within Delayed is = omega (arith, is, low, old.count)

holds : {rows : List Row} {sets : List Entries} {queue : ℕ} {lane : Lane} {row : Row} {place : ℕ} {held : Entries} → IsSorted rows sets
    → Reads rows sets queue lane row place held → record { entries = sorted (row_of rows queue).class lane (fronts_from 0 rows); room = length rows } ≡ held
holds {rows = rows} {sets = sets} {queue = queue} {lane = lane} {place = place} {held = held} old reads =
    set_is rows sets (row_of rows queue).class lane place held old
    (All-get_or (λ r. r.class ≤ 7) rows queue closed_row reads.within old.classes)
    (reads.place_is ∙ ap (λ (r : Row). set_place r.class lane) (sym (same_row reads))) reads.held_is

-- ---- opened

own : (class : ℕ) (lane : Lane) (queue order : ℕ) → is_of class lane (front_at class lane queue order) ≡ true
own class Immediate queue order = rw (eq-eqb class class refl) refl
own class Delayed queue order = rw (eq-eqb class class refl) refl

-- a queue is closed in the lane, and no open front has the order
pub record MayOpen (rows : List Row) (queue : ℕ) (lane : Lane) (order : ℕ) : Type 0 where
  pub within : queue < length rows
  pub closed : order_in lane (row_of rows queue) ≡ None
  pub differs : AllByRecursion (λ f. f.order ≢ order) (fronts_from 0 rows)

pub may_open : (rows other : List Row) (queue : ℕ) (lane : Lane) (order : ℕ) (o : Option ℕ) → other ≡ rows → o ≡ Some order → queue < length rows
    → order_in lane (row_of rows queue) ≡ None → IfSome o (λ order. All (λ front. front.order ≢ order) (fronts_from 0 rows)) → MayOpen other queue lane order
may_open rows other queue lane order o same is within closed differs = subst (λ rows. MayOpen rows queue lane order) (sym same) (record {
  within = within;
  closed = closed;
  differs = recursion_from_All _ (fronts_from 0 rows) (subst (λ o. IfSome o (λ order. All (λ front. front.order ≢ order) (fronts_from 0 rows))) is differs);
})

record Opens (rows : List Row) (queue : ℕ) (lane : Lane) (order : ℕ) : Type 0 where
  pub differ : Differ order_below (fronts_from 0 (put rows queue lane (Some order)))
  pub here : insert_by entry_below (record { order = order; queue = queue }) (sorted (row_of rows queue).class lane (fronts_from 0 rows))
      ≡ sorted (row_of rows queue).class lane (fronts_from 0 (put rows queue lane (Some order)))
  pub others : (class : ℕ) (other_lane : Lane) → is_of class other_lane (front_at (row_of rows queue).class lane queue order) ≡ false
      → sorted class other_lane (fronts_from 0 (put rows queue lane (Some order))) ≡ sorted class other_lane (fronts_from 0 rows)

opens : (rows : List Row) (queue : ℕ) (lane : Lane) (order : ℕ) → Differ order_below (fronts_from 0 rows) → MayOpen rows queue lane order
    → Opens rows queue lane order
opens rows queue lane order differ may = record {
  differ = subst (Differ order_below) (sym after) (differ-seam order_below p.front f p.back (subst (Differ order_below) before differ) apart);
  here = ap (λ l. insert_by entry_below (entry_of f) (sorted class lane l)) before
      ∙ sym (sorted-more class lane p.front p.back f (own class lane queue order) apart)
      ∙ ap (sorted class lane) (sym after);
  others = λ class lane not. ap (sorted class lane) after ∙ sorted-other class lane p.front p.back f not ∙ ap (sorted class lane) (sym before);
}
  where
    class : ℕ
    class = (row_of rows queue).class

    f : Front
    f = front_at class lane queue order

    p : Parts 0 rows queue queue lane
    p = parts 0 rows queue queue lane may.within (omega arith)

    before : fronts_from 0 rows ≡ p.front ++ p.back
    before = ap (fronts_from 0) (sym (put_same rows queue lane None may.closed)) ∙ p.is None

    after : fronts_from 0 (put rows queue lane (Some order)) ≡ p.front ++ f ∷ p.back
    after = p.is (Some order)

    less : (g : Front) → g.order ≢ order → Apart order_below f g
    less g not = elim (cases_order order g.order) [
      | inl same ↦ absurd (not (sym same))
      | inr (inl lt) ↦ inl (lt-ltb order g.order lt)
      | inr (inr lt) ↦ inr (lt-ltb g.order order lt)
    ]

    apart : AllByRecursion (Apart order_below f) (p.front ++ p.back)
    apart = subst (AllByRecursion (Apart order_below f)) before (AllByRecursion-map _ (Apart order_below f) (fronts_from 0 rows) less may.differs)

-- the set of the lane has room
pub has_room : (rows : List Row) (sets : List Entries) (queue : ℕ) (lane : Lane) (order : ℕ) (row : Row) (place : ℕ) (held : Entries)
    → IsSorted rows sets → MayOpen rows queue lane order → Reads rows sets queue lane row place held → length held.entries < held.room
has_room rows sets queue lane order row place held old may reads =
    rw (← holds old reads) (omega (
      arith,
      length-insert_by entry_below (record { order = order; queue = queue }) (sorted (row_of rows queue).class lane (fronts_from 0 rows)),
      ap length (opens rows queue lane order old.differ may).here,
      few_sorted (row_of rows queue).class lane (put rows queue lane (Some order)),
      length-set rows queue (with_order (row_of rows queue) lane (Some order)),
    ))

pub opened : (rows : List Row) (sets : List Entries) (queue : ℕ) (lane : Lane) (order : ℕ) (row new_row : Row) (place : ℕ) (held new : Entries)
    → IsSorted rows sets → MayOpen rows queue lane order → Reads rows sets queue lane row place held → new_row ≡ with_order row lane (Some order)
    → new ≡ with_entries held (insert_by entry_below (record { order = order; queue = queue }) held.entries)
    → IsSorted (set rows queue new_row) (set sets place new)
opened rows sets queue lane order row new_row place held new old may reads row_is new_is =
    let it : Opens rows queue lane order = opens rows queue lane order old.differ may in
    rw (row_is, new_is, reads.place_is, ← same_row reads, ← holds old reads)
    (told rows sets queue lane (Some order) (front_at (row_of rows queue).class lane queue order) _ old refl refl may.within it.differ it.here it.others)

-- ---- closed

pub record Closes (rows : List Row) (queue : ℕ) (lane : Lane) (order : ℕ) : Type 0 where
  pub differ : Differ order_below (fronts_from 0 (put rows queue lane None))
  pub apart : AllByRecursion (Apart order_below (front_at (row_of rows queue).class lane queue order)) (fronts_from 0 (put rows queue lane None))
  pub here : filter (λ entry. not (entry.order == order)) (sorted (row_of rows queue).class lane (fronts_from 0 rows))
      ≡ sorted (row_of rows queue).class lane (fronts_from 0 (put rows queue lane None))
  pub others : (class : ℕ) (other_lane : Lane) → is_of class other_lane (front_at (row_of rows queue).class lane queue order) ≡ false
      → sorted class other_lane (fronts_from 0 (put rows queue lane None)) ≡ sorted class other_lane (fronts_from 0 rows)

pub closes : (rows : List Row) (queue : ℕ) (lane : Lane) (order : ℕ) → Differ order_below (fronts_from 0 rows) → queue < length rows
    → order_in lane (row_of rows queue) ≡ Some order → Closes rows queue lane order
closes rows queue lane order differ within is = record {
  differ = subst (Differ order_below) (sym after) un.0;
  apart = subst (AllByRecursion (Apart order_below f)) (sym after) un.1;
  here = ap (λ l. filter (λ entry. not (entry.order == order)) (sorted class lane l)) before
      ∙ ap (filter (λ entry. not (entry.order == order))) (sorted-more class lane p.front p.back f (own class lane queue order) un.1)
      ∙ sorted-without class lane f (p.front ++ p.back) un.1
      ∙ ap (sorted class lane) (sym after);
  others = λ class lane not. ap (sorted class lane) after ∙ sym (sorted-other class lane p.front p.back f not) ∙ ap (sorted class lane) (sym before);
}
  where
    class : ℕ
    class = (row_of rows queue).class

    f : Front
    f = front_at class lane queue order

    p : Parts 0 rows queue queue lane
    p = parts 0 rows queue queue lane within (omega arith)

    before : fronts_from 0 rows ≡ p.front ++ f ∷ p.back
    before = ap (fronts_from 0) (sym (put_same rows queue lane (Some order) is)) ∙ p.is (Some order)

    after : fronts_from 0 (put rows queue lane None) ≡ p.front ++ p.back
    after = p.is None

    un : Differ order_below (p.front ++ p.back) × AllByRecursion (Apart order_below f) (p.front ++ p.back)
    un = differ-unseam order_below p.front f p.back (subst (Differ order_below) before differ)

pub closed : (rows : List Row) (sets : List Entries) (queue : ℕ) (lane : Lane) (order : ℕ) (row new_row : Row) (place : ℕ) (held new : Entries)
    → IsSorted rows sets → order_in lane row ≡ Some order → Reads rows sets queue lane row place held → new_row ≡ with_order row lane None
    → new ≡ with_entries held (filter (λ entry. not (entry.order == order)) held.entries)
    → IsSorted (set rows queue new_row) (set sets place new)
closed rows sets queue lane order row new_row place held new old open_is reads row_is new_is =
    let same : row_of rows queue ≡ row = same_row reads in
    let it : Closes rows queue lane order = closes rows queue lane order old.differ reads.within (ap (order_in lane) same ∙ open_is) in
    rw (row_is, new_is, reads.place_is, ← same, ← holds old reads)
    (told rows sets queue lane None (front_at (row_of rows queue).class lane queue order) _ old refl refl reads.within it.differ it.here it.others)

-- ---- all closed

none_open : (base n : ℕ) → fronts_from base (replicate n closed_row) ≡ []
none_open base zero = refl
none_open base (suc n) = none_open (base + 1) n

all_low : (n : ℕ) → AllByRecursion (λ row. row.class ≤ 7) (replicate n closed_row)
all_low zero = tt
all_low (suc n) = (omega arith, all_low n)

pub none_held : (n : ℕ) → IsSorted (replicate n closed_row) (replicate 16 (record { entries = []; room = n }))
none_held n = record {
  count = refl;
  classes = All-from_recursion _ (replicate n closed_row) (all_low n);
  differ = subst (Differ order_below) (sym (none_open 0 n)) tt;
  holds = holds_none;
}
  where
    within : (class : ℕ) (lane : Lane) → class ≤ 7 → set_place class lane < 16
    within class Immediate low = omega (arith, low)
    within class Delayed low = omega (arith, low)

    holds_none : (class : ℕ) (lane : Lane) → class ≤ 7 → set_of (replicate 16 (record { entries = []; room = n })) class lane
        ≡ record { entries = sorted class lane (fronts_from 0 (replicate n closed_row)); room = length (replicate n closed_row) }
    holds_none class lane low =
        get_or-replicate 16 (set_place class lane) (record { entries = []; room = n }) no_set (within class lane low)
        ∙ ap (λ (l : List Front). record { entries = sorted class lane l; room = n }) (sym (none_open 0 n))
        ∙ ap (λ (m : ℕ). record { entries = sorted class lane (fronts_from 0 (replicate n closed_row)); room = m }) (sym (length-replicate n closed_row))
