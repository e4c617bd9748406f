-- What the set of a class and a lane holds, with one front more and without it.
-- Cited by `Moves`.
use Rattle.std.proofs.Common.{◌≡◌, ℕ, ◌+◌, ◌≤◌, Bool, true, false, cond, not, List, [], ◌∷◌, ◌++◌, length, map}
use Rattle.std.proofs.Common.{refl, sym, ap, ◌∙◌, inl, inr, arith, Option, Some, None}
use Rattle.std.specs.Prelude.{◌==◌, ◌&&◌, filter}
use Rattle.std.specs.List.{AllByRecursion}
use Rattle.std.specs.Option.{option_map, option_to_list}
use Rattle.std.proofs.lemmas.Bool.{eq-eqb}
use Rattle.std.proofs.lemmas.List.{length-map}
use Rattle.std.proofs.lemmas.List.Elements.{filter-append}
use Rattle.list_laws.specs.Lists.{count}
use Rattle.list_laws.specs.Sorts.{insert_by, sort_by}
use Rattle.list_laws.proofs.Counts.{count-append}
use Rattle.list_laws.proofs.Elements.{AllByRecursion-map}
use Rattle.list_laws.proofs.Elements.{AllByRecursion-filter, AllByRecursion-front, AllByRecursion-mapped}
use Rattle.list_laws.proofs.Filters.{filter_all}
use Rattle.list_laws.proofs.Ranks.{ranks_by}
use Rattle.list_laws.proofs.Sorts.{AllByRecursion-sort_by, length-sort_by}
use Rattle.task_base.specs.declared.script.Lane.{Lane}
use Rattle.task_base.specs.declared.script.Lane.TheVariants.{Immediate, Delayed}
use Rattle.queue_selector.specs.declared.front.Front.{Front}
use Rattle.queue_selector.specs.declared.row.Row.{Row}
use Rattle.queue_selector.specs.FrontSet.{entry_below}
use Rattle.queue_selector.specs.Fronts.{order_below}
use Rattle.queue_selector.specs.Rows.{open_front, row_fronts, fronts_from}
use Rattle.queue_selector.specs.Sorted.{entry_of, is_in, is_of, sorted}
use Rattle.queue_selector.proofs.Parts.{front_at}
use Rattle.queue_selector.proofs.Sorting.{Apart, filter-insert_by, sort_by-seam}
use Rattle.list_laws.proofs.Rises.{map-insert_by}

-- one front more of the class and the lane
pub sorted-more : (class : ℕ) (lane : Lane) (front back : List Front) (f : Front) → is_of class lane f ≡ true
    → AllByRecursion (Apart order_below f) (front ++ back)
    → sorted class lane (front ++ f ∷ back) ≡ insert_by entry_below (entry_of f) (sorted class lane (front ++ back))
sorted-more class lane front back f is apart =
    ap (λ l. map entry_of (sort_by order_below l)) (filter-append (is_of class lane) front (f ∷ back)
    ∙ ap (λ b. filter (is_of class lane) front ++ cond b (f ∷ filter (is_of class lane) back) (filter (is_of class lane) back)) is)
    ∙ ap (map entry_of) (sort_by-seam order_below (ranks_by (λ g. g.order)) (filter (is_of class lane) front) f (filter (is_of class lane) back)
    (AllByRecursion-filter (Apart order_below f) (is_of class lane) front (AllByRecursion-front (Apart order_below f) front back apart)))
    ∙ map-insert_by order_below entry_below entry_of f (sort_by order_below (filter (is_of class lane) front ++ filter (is_of class lane) back)) (λ a b. refl)
    ∙ ap (λ l. insert_by entry_below (entry_of f) (map entry_of (sort_by order_below l))) (sym (filter-append (is_of class lane) front back))

-- one front more of another class or lane
pub sorted-other : (class : ℕ) (lane : Lane) (front back : List Front) (f : Front) → is_of class lane f ≡ false
    → sorted class lane (front ++ f ∷ back) ≡ sorted class lane (front ++ back)
sorted-other class lane front back f not =
    ap (λ l. map entry_of (sort_by order_below l)) (filter-append (is_of class lane) front (f ∷ back)
    ∙ ap (λ b. filter (is_of class lane) front ++ cond b (f ∷ filter (is_of class lane) back) (filter (is_of class lane) back)) not
    ∙ sym (filter-append (is_of class lane) front back))

-- without the order of a front that differs from all
pub sorted-without : (class : ℕ) (lane : Lane) (f : Front) (fronts : List Front) → AllByRecursion (Apart order_below f) fronts
    → filter (λ entry. not (entry.order == f.order)) (insert_by entry_below (entry_of f) (sorted class lane fronts)) ≡ sorted class lane fronts
sorted-without class lane f fronts apart =
    filter-insert_by (λ entry. not (entry.order == f.order)) entry_below (entry_of f) (sorted class lane fronts) (ap not (eq-eqb f.order f.order refl))
    ∙ filter_all (λ entry. not (entry.order == f.order)) (sorted class lane fronts)
    (AllByRecursion-mapped (λ entry. not (entry.order == f.order) ≡ true) entry_of (sort_by order_below (filter (is_of class lane) fronts))
    (AllByRecursion-sort_by _ order_below (filter (is_of class lane) fronts) (AllByRecursion-filter _ (is_of class lane) fronts
    (AllByRecursion-map (Apart order_below f) (λ g. not (g.order == f.order) ≡ true) fronts other apart))))
  where
    other : (g : Front) → Apart order_below f g → not (g.order == f.order) ≡ true
    other g (inl before) = grind arith
    other g (inr behind) = grind arith

one_at_most : {A : Type 0} (test : A → Bool) (o : Option A) → count test (option_to_list o) ≤ 1
one_at_most test None = omega arith
one_at_most test (Some x) = elim (test x) as (λ b. length (cond b (x ∷ []) []) ≤ 1) [
  | true ↦ omega arith
  | false ↦ omega arith
]

none_of_other : (class of base : ℕ) (lane other : Lane) → ((order : ℕ) → is_in lane (front_at of other base order) ≡ false) → (o : Option ℕ)
    → count (is_of class lane) (option_to_list (option_map (front_at of other base) o)) ≡ 0
none_of_other class of base lane other not None = refl
none_of_other class of base lane other not (Some order) =
    ap (λ b. length (cond (of == class && b) (front_at of other base order ∷ []) [])) (not order)
    ∙ elim (of == class) as (λ b. length (cond (b && false) (front_at of other base order ∷ []) []) ≡ 0) [
      | true ↦ refl
      | false ↦ refl
    ]

-- a class and a lane have at most one front of each row
few : (class : ℕ) (lane : Lane) (base : ℕ) (rows : List Row) → count (is_of class lane) (fronts_from base rows) ≤ length rows
few class lane base [] = omega arith
few class lane base (row ∷ rows) =
    omega (arith, few class lane (base + 1) rows, count-append (is_of class lane) (row_fronts base row) (fronts_from (base + 1) rows), here lane)
  where
    here : (lane : Lane) → count (is_of class lane) (row_fronts base row) ≤ 1
    here Immediate = omega (
      arith,
      count-append (is_of class Immediate) (option_to_list (open_front base Immediate row)) (option_to_list (open_front base Delayed row)),
      one_at_most (is_of class Immediate) (open_front base Immediate row),
      none_of_other class row.class base Immediate Delayed (λ order. refl) row.delayed,
    )
    here Delayed = omega (
      arith,
      count-append (is_of class Delayed) (option_to_list (open_front base Immediate row)) (option_to_list (open_front base Delayed row)),
      one_at_most (is_of class Delayed) (open_front base Delayed row),
      none_of_other class row.class base Delayed Immediate (λ order. refl) row.immediate,
    )

pub few_sorted : (class : ℕ) (lane : Lane) (rows : List Row) → length (sorted class lane (fronts_from 0 rows)) ≤ length rows
few_sorted class lane rows = omega (
  arith,
  length-map (sort_by order_below (filter (is_of class lane) (fronts_from 0 rows))) entry_of,
  length-sort_by order_below (filter (is_of class lane) (fronts_from 0 rows)),
  few class lane 0 rows,
)
