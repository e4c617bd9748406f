-- A queue goes into another class: it is closed, put there, and given its fronts again.
-- Cited by `Selector::put_closed`, `Selector::set_class`.
use Rattle.std.proofs.Common.{◌≡◌, ℕ, ◌<◌, ◌≤◌, List, ◌∷◌, ◌++◌, length, get_or, set}
use Rattle.std.proofs.Common.{length-set, get_or-set_same, refl, sym, ap, ◌∙◌, inl, inr, arith, Option, Some, None, All, IfSome, subst}
use Rattle.std.specs.Prelude.{◌≢◌}
use Rattle.std.specs.List.{AllByRecursion}
use Rattle.std.specs.Option.{option_map, option_to_list}
use Rattle.std.proofs.lemmas.Bool.{true≢false, le-ltb}
use Rattle.std.proofs.lemmas.List.{get_or_default}
use Rattle.std.proofs.lemmas.List.Elements.{All-from_recursion, All-set}
use Rattle.list_laws.specs.Sorts.{Differ}
use Rattle.list_laws.proofs.Elements.{AllByRecursion-append, AllByRecursion-at, AllByRecursion-back, AllByRecursion-map}
use Rattle.list_laws.proofs.Elements.{AllByRecursion-front}
use Rattle.task_base.specs.declared.script.Lane.{Lane}
use Rattle.task_base.specs.declared.script.Lane.TheVariants.{Immediate, Delayed}
use Rattle.queue_selector.specs.declared.front.Front.{Front}
use Rattle.queue_selector.specs.declared.row.Row.{Row}
use Rattle.queue_selector.specs.FrontSet.{Entries}
use Rattle.queue_selector.specs.Fronts.{order_below}
use Rattle.queue_selector.specs.Rows.{closed_row, order_in, with_order, fronts_from}
use Rattle.queue_selector.specs.Selecting.{Selecting, open_fronts, with_class, with_front}
use Rattle.queue_selector.specs.Sorted.{IsSorted, sorted}
use Rattle.queue_selector.proofs.Moves.{closes}
use Rattle.queue_selector.proofs.Parts.{Parts, parts, front_at, put, put_same, row_of, reclassed, set_over}
use Rattle.queue_selector.proofs.Sorting.{Apart}

pub moved : (rows : List Row) (sets : List Entries) (queue class : ℕ) (row : Row) → IsSorted rows sets → queue < length rows → row ≡ get_or rows queue row
    → ((lane : Lane) → order_in lane (row_of rows queue) ≡ None) → class ≤ 7 → IsSorted (set rows queue (record row { class = class })) sets
moved rows sets queue class row old within row_is closed low =
    let same : row ≡ row_of rows queue = row_is ∙ get_or_default rows queue row closed_row within in
    let long : length (set rows queue (record row { class = class })) ≡ length rows = length-set rows queue _ in
    let fronts : fronts_from 0 (set rows queue (record row { class = class })) ≡ fronts_from 0 rows =
    ap (λ (r : Row). fronts_from 0 (set rows queue (record r { class = class }))) same
    ∙ reclassed 0 rows queue class (closed Immediate) (closed Delayed) in record {
      count = old.count;
      classes = All-set (λ r. r.class ≤ 7) rows queue (record row { class = class }) low old.classes;
      differ = subst (Differ order_below) (sym fronts) old.differ;
      holds = λ other lane le. old.holds other lane le
          ∙ ap (λ (l : List Front). record { entries = sorted other lane l; room = length rows }) (sym fronts)
          ∙ ap (λ (n : ℕ). record { entries = sorted other lane (fronts_from 0 (set rows queue (record row { class = class }))); room = n }) (sym long);
    }

-- the queue closed in both lanes
abbrev shut : List Row → ℕ → List Row
shut rows queue = put (put rows queue Immediate None) queue Delayed None

-- and in another class
abbrev shut_in : List Row → ℕ → ℕ → List Row
shut_in rows queue class = set (shut rows queue) queue (record (row_of (shut rows queue) queue) { class = class })

-- what holds of all open fronts holds of those that are left
pub kept : (P : Front → Type 0) (rows : List Row) (queue : ℕ) (lane : Lane) → queue < length rows → AllByRecursion P (fronts_from 0 rows)
    → AllByRecursion P (fronts_from 0 (put rows queue lane None))
kept P rows queue lane within all =
    subst (AllByRecursion P) (sym (p.is None)) (AllByRecursion-append P p.front p.back (AllByRecursion-front P p.front (here ++ p.back) parted)
    (AllByRecursion-back P here p.back (AllByRecursion-back P p.front (here ++ p.back) parted)))
  where
    p : Parts 0 rows queue queue lane
    p = parts 0 rows queue queue lane within (omega arith)

    order : Option ℕ
    order = order_in lane (row_of rows queue)

    here : List Front
    here = option_to_list (option_map (front_at (row_of rows queue).class lane queue) order)

    parted : AllByRecursion P (p.front ++ (here ++ p.back))
    parted = subst (AllByRecursion P) (ap (fronts_from 0) (sym (put_same rows queue lane order refl)) ∙ p.is order) all

-- what holds of all open fronts, and of one more
pub grown : (P : Front → Type 0) (rows : List Row) (queue : ℕ) (lane : Lane) (order : Option ℕ) → queue < length rows → order_in lane (row_of rows queue) ≡ None
    → AllByRecursion P (fronts_from 0 rows) → IfSome order (λ o. P (front_at (row_of rows queue).class lane queue o))
    → AllByRecursion P (fronts_from 0 (put rows queue lane order))
grown P rows queue lane order within closed all one =
    let p : Parts 0 rows queue queue lane = parts 0 rows queue queue lane within (omega arith) in
    let before : fronts_from 0 rows ≡ p.front ++ p.back = ap (fronts_from 0) (sym (put_same rows queue lane None closed)) ∙ p.is None in
    let parted : AllByRecursion P (p.front ++ p.back) = subst (AllByRecursion P) before all in
    subst (AllByRecursion P) (sym (p.is order)) (AllByRecursion-append P p.front _ (AllByRecursion-front P p.front p.back parted)
    (AllByRecursion-append P _ p.back (here order one) (AllByRecursion-back P p.front p.back parted)))
  where
    here : (order : Option ℕ) → IfSome order (λ o. P (front_at (row_of rows queue).class lane queue o))
        → AllByRecursion P (option_to_list (option_map (front_at (row_of rows queue).class lane queue) order))
    here None one = tt
    here (Some o) one = (one, tt)

left_differ : (rows : List Row) (queue : ℕ) (lane : Lane) → queue < length rows → Differ order_below (fronts_from 0 rows)
    → Differ order_below (fronts_from 0 (put rows queue lane None))
left_differ rows queue lane within differ = by_order_in (order_in lane (row_of rows queue)) refl
  where
    by_order_in : (o : Option ℕ) → order_in lane (row_of rows queue) ≡ o → Differ order_below (fronts_from 0 (put rows queue lane None))
    by_order_in None is = subst (λ rs. Differ order_below (fronts_from 0 rs)) (sym (put_same rows queue lane None is)) differ
    by_order_in (Some order) is = (closes rows queue lane order differ within is).differ

-- the order of a front differs from those of all others
unlike : (rows : List Row) (queue : ℕ) (lane : Lane) (order : ℕ) → queue < length rows → Differ order_below (fronts_from 0 rows)
    → order_in lane (row_of rows queue) ≡ Some order → AllByRecursion (λ f. f.order ≢ order) (fronts_from 0 (put rows queue lane None))
unlike rows queue lane order within differ is =
    AllByRecursion-map _ (λ f. f.order ≢ order) (fronts_from 0 (put rows queue lane None)) other (closes rows queue lane order differ within is).apart
  where
    other : (g : Front) → Apart order_below (front_at (row_of rows queue).class lane queue order) g → g.order ≢ order
    other g (inl before) = λ same. true≢false (sym before ∙ le-ltb order g.order (omega (arith, same)))
    other g (inr behind) = λ same. true≢false (sym behind ∙ le-ltb g.order order (omega (arith, same)))

-- what a queue is given again in another class
record Given (rows : List Row) (queue class : ℕ) : Type 0 where
  pub immediate : IfSome (row_of rows queue).immediate (λ order. All (λ f. f.order ≢ order) (fronts_from 0 (shut_in rows queue class)))
  pub delayed : IfSome (row_of rows queue).delayed (λ order. All (λ f. f.order ≢ order)
      (fronts_from 0 (put (shut_in rows queue class) queue Immediate (row_of rows queue).immediate)))
  pub is : put (put (shut_in rows queue class) queue Immediate (row_of rows queue).immediate) queue Delayed (row_of rows queue).delayed
      ≡ set rows queue (record (row_of rows queue) { class = class })

given : (rows : List Row) (queue class : ℕ) → queue < length rows → Differ order_below (fronts_from 0 rows) → Given rows queue class
given rows queue class within differ = record { immediate = immediate row.immediate refl; delayed = delayed row.delayed refl; is = all_given }
  where
    row : Row
    row = row_of rows queue

    shut_is : shut rows queue ≡ set rows queue (record { class = row.class; immediate = None; delayed = None })
    shut_is = set_over rows queue (with_order row Immediate None) (λ r. with_order r Delayed None) within

    shut_in_is : shut_in rows queue class ≡ set rows queue (record { class = class; immediate = None; delayed = None })
    shut_in_is =
        ap (λ (rs : List Row). set rs queue (record (row_of rs queue) { class = class })) shut_is
        ∙ set_over rows queue (record { class = row.class; immediate = None; delayed = None }) (λ r. record r { class = class }) within

    all_given : put (put (shut_in rows queue class) queue Immediate row.immediate) queue Delayed row.delayed ≡ set rows queue (record row { class = class })
    all_given =
        ap (λ (rs : List Row). put (put rs queue Immediate row.immediate) queue Delayed row.delayed) shut_in_is
        ∙ ap (λ (rs : List Row). put rs queue Delayed row.delayed)
        (set_over rows queue (record { class = class; immediate = None; delayed = None }) (λ r. with_order r Immediate row.immediate) within)
        ∙ set_over rows queue (record { class = class; immediate = row.immediate; delayed = None }) (λ r. with_order r Delayed row.delayed) within

    shut_row : row_of (shut rows queue) queue ≡ record { class = row.class; immediate = None; delayed = None }
    shut_row = ap (λ (rs : List Row). row_of rs queue) shut_is ∙ get_or-set_same rows queue _ closed_row within

    shut_in_row : row_of (shut_in rows queue class) queue ≡ record { class = class; immediate = None; delayed = None }
    shut_in_row = ap (λ (rs : List Row). row_of rs queue) shut_in_is ∙ get_or-set_same rows queue _ closed_row within

    same_fronts : fronts_from 0 (shut_in rows queue class) ≡ fronts_from 0 (shut rows queue)
    same_fronts = reclassed 0 (shut rows queue) queue class (ap (λ (r : Row). r.immediate) shut_row) (ap (λ (r : Row). r.delayed) shut_row)

    one : List Row
    one = put rows queue Immediate None

    within_one : queue < length one
    within_one = omega (arith, within, length-set rows queue (with_order row Immediate None))

    one_row : row_of one queue ≡ with_order row Immediate None
    one_row = get_or-set_same rows queue _ closed_row within

    immediate : (o : Option ℕ) → row.immediate ≡ o → IfSome o (λ order. All (λ f. f.order ≢ order) (fronts_from 0 (shut_in rows queue class)))
    immediate None is = tt
    immediate (Some order) is = All-from_recursion _ (fronts_from 0 (shut_in rows queue class)) (subst (AllByRecursion (λ f. f.order ≢ order)) (sym same_fronts)
        (kept (λ f. f.order ≢ order) one queue Delayed within_one (unlike rows queue Immediate order within differ is)))

    delayed : (o : Option ℕ) → row.delayed ≡ o
        → IfSome o (λ order. All (λ f. f.order ≢ order) (fronts_from 0 (put (shut_in rows queue class) queue Immediate row.immediate)))
    delayed None is = tt
    delayed (Some order) is =
        let again : order_in Delayed (row_of one queue) ≡ Some order = ap (λ (r : Row). r.delayed) one_row ∙ is in
        let others : AllByRecursion (λ f. f.order ≢ order) (fronts_from 0 (shut rows queue)) =
        unlike one queue Delayed order within_one (left_differ rows queue Immediate within differ) again in
        All-from_recursion _ _ (grown (λ f. f.order ≢ order) (shut_in rows queue class) queue Immediate row.immediate
        (omega (arith, within, ap length shut_in_is, length-set rows queue (record { class = class; immediate = None; delayed = None })))
        (ap (λ (r : Row). r.immediate) shut_in_row) (subst (AllByRecursion (λ f. f.order ≢ order)) (sym same_fronts) others) (two row.immediate refl again))
      where
        two : (o : Option ℕ) → row.immediate ≡ o → order_in Delayed (row_of one queue) ≡ Some order → IfSome o (λ other. other ≢ order)
        two None first again = tt
        two (Some other) first again =
            let p : Parts 0 one queue queue Delayed = parts 0 one queue queue Delayed within_one (omega arith) in
            let held : fronts_from 0 one ≡ p.front ++ front_at (row_of one queue).class Delayed queue order ∷ p.back =
            ap (fronts_from 0) (sym (put_same one queue Delayed (Some order) again)) ∙ p.is (Some order) in
            let differs : order ≢ other = AllByRecursion-at (λ f. f.order ≢ other) p.front (front_at (row_of one queue).class Delayed queue order) p.back
            (subst (AllByRecursion (λ f. f.order ≢ other)) held (unlike rows queue Immediate other within differ first)) in
            λ same. differs (sym same)

-- the same of the selector, once the queue is closed and in the other class
pub record Again (s moved : Selecting) (queue class : ℕ) (row : Row) : Type 0 where
  pub immediate : IfSome row.immediate (λ order. All (λ f. f.order ≢ order) (open_fronts moved))
  pub delayed : (opened : Selecting) → opened ≡ with_front moved queue Immediate row.immediate
      → IfSome row.delayed (λ order. All (λ f. f.order ≢ order) (open_fronts opened))
  pub is : with_front (with_front moved queue Immediate row.immediate) queue Delayed row.delayed ≡ with_class s queue class

pub again : (rows : List Row) (s one two moved : Selecting) (queue class : ℕ) (row : Row) → rows ≡ s.rows → queue < length s.rows
    → Differ order_below (fronts_from 0 rows) → row ≡ get_or rows queue row → one ≡ with_front s queue Immediate None → two ≡ with_front one queue Delayed None
    → moved ≡ with_class two queue class → Again s moved queue class row
again rows s one two moved queue class row rows_is within differ row_is one_is two_is moved_is =
    let read : row ≡ row_of s.rows queue = row_is ∙ ap (λ rs. get_or rs queue row) rows_is ∙ get_or_default s.rows queue row closed_row within in
    let it : Given s.rows queue class = given s.rows queue class within (subst (λ rs. Differ order_below (fronts_from 0 rs)) rows_is differ) in
    let is : moved ≡ record s { rows = shut_in s.rows queue class } =
    moved_is ∙ ap (λ (t : Selecting). with_class t queue class) (two_is ∙ ap (λ (t : Selecting). with_front t queue Delayed None) one_is) in record {
      immediate = rw (read, is) it.immediate;
      delayed = λ opened opened_is. rw (opened_is, read, is) it.delayed;
      is = rw (read, is) (ap (λ (rs : List Row). record s { rows = rs }) it.is);
    }
