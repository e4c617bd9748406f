-- The choice among open fronts, by the first fronts of each class in each lane.
-- Cited by 6 functions of `Selector`.
use Rattle.std.proofs.Common.{◌≡◌, ℕ, suc, ◌+◌, ◌<◌, ◌≤◌, Bool, true, false, cond, not, List, [], ◌∷◌, length, map}
use Rattle.std.proofs.Common.{refl, sym, ap, ◌∙◌, inl, inr, arith, Option, Some, None, All, Contains}
use Rattle.std.specs.Prelude.{◌⊎◌, ◌==◌, ◌&&◌, ◌||◌, nat_lt, nat_le, ◌↔◌, is_some, IsNone, filter, slice_get}
use Rattle.std.specs.List.{AllByRecursion, list_any}
use Rattle.std.specs.Option.{option_map, option_to_list}
use Rattle.std.proofs.lemmas.Bool.{true≢false, cases_eq, cases_lt, ne_eqb, eq-eqb, lt-ltb, le-ltb, le-leb}
use Rattle.std.proofs.lemmas.List.Elements.{recursion_from_All}
use Rattle.std.proofs.lemmas.Option.{none-some}
use Rattle.list_laws.specs.Lists.{least, holds_of, IsLeast}
use Rattle.list_laws.specs.Sorts.{sort_by, Differ}
use Rattle.list_laws.proofs.Elements.{AllByRecursion-map, AllByRecursion-append, AllByRecursion-both, AllByRecursion-contains}
use Rattle.list_laws.proofs.Filters.{filter_passes, filter-filter}
use Rattle.list_laws.proofs.Least.{least_is_least, no_least}
use Rattle.list_laws.proofs.Options.{AllByRecursion-not_any}
use Rattle.list_laws.proofs.Ranks.{ranks_by}
use Rattle.list_laws.proofs.Sorts.{AllByRecursion-sort_by, differ-filter}
use Rattle.list_laws.proofs.Tests.{list_any_none}
use Rattle.list_laws.proofs.Values.{some-injective}
use Rattle.task_base.specs.declared.script.Lane.{Lane}
use Rattle.task_base.specs.declared.script.Lane.TheVariants.{Immediate, Delayed}
use Rattle.queue_selector.specs.declared.front.Front.{Front}
use Rattle.queue_selector.specs.declared.front_set.Entry.{Entry}
use Rattle.queue_selector.specs.declared.row.Row.{Row}
use Rattle.queue_selector.specs.FrontSet.{Entries}
use Rattle.queue_selector.specs.Fronts.{is_immediate, order_below, class_below, least_class, of_least_class}
use Rattle.queue_selector.specs.Fronts.{immediate_of_least_class, most_delayed, is_starved, choice_among}
use Rattle.queue_selector.specs.Rows.{open_front, row_fronts, fronts_from}
use Rattle.queue_selector.specs.Selecting.{Selecting, choice, immediate_is_open}
use Rattle.queue_selector.specs.Sorted.{entry_of, first_of, is_in, is_of, sorted, sooner_of}
use Rattle.queue_selector.proofs.Lesser.{least-split, lesser}
use Rattle.queue_selector.proofs.Parts.{front_at}
use Rattle.queue_selector.proofs.Sorting.{first_sorted}

-- ---- the first of a set

pub first_is : (rows : List Row) (class : ℕ) (lane : Lane) (held : Entries) → Differ order_below (fronts_from 0 rows)
    → record { entries = sorted class lane (fronts_from 0 rows); room = length rows } ≡ held
    → option_map {U = Front} (λ entry. record { class = class; lane = lane; order = entry.order; queue = entry.queue }) (slice_get held.entries 0)
    ≡ first_of class lane (fronts_from 0 rows)
first_is rows class lane held differ is =
    ap (λ (set : Entries). option_map again (slice_get set.entries 0)) (sym is)
    ∙ first (sort_by order_below fronts)
    (AllByRecursion-sort_by (λ f. is_of class lane f ≡ true) order_below fronts (filter_passes (is_of class lane) (fronts_from 0 rows)))
    ∙ first_sorted order_below (ranks_by (λ f. f.order)) fronts (differ-filter order_below (is_of class lane) (fronts_from 0 rows) differ)
  where
    fronts : List Front
    fronts = filter (is_of class lane) (fronts_from 0 rows)

    again : Entry → Front
    again entry = record { class = class; lane = lane; order = entry.order; queue = entry.queue }

    lane_is : (lane other : Lane) → cond (is_immediate lane) (is_immediate other) (not (is_immediate other)) ≡ true → other ≡ lane
    lane_is Immediate Immediate h = refl
    lane_is Immediate Delayed h = absurd (true≢false (sym h))
    lane_is Delayed Immediate h = absurd (true≢false (sym h))
    lane_is Delayed Delayed h = refl

    in_lane : (lane : Lane) (f : Front) → is_in lane f ≡ true → f.lane ≡ lane
    in_lane Immediate f h = lane_is Immediate f.lane h
    in_lane Delayed f h = lane_is Delayed f.lane h

    parts : (a b : Bool) → (a && b) ≡ true → (a ≡ true) × (b ≡ true)
    parts true b h = (refl, h)
    parts false b h = absurd (true≢false (sym h))

    same : (n : ℕ) → (n == class) ≡ true → n ≡ class
    same n h = grind arith

    first : (fs : List Front) → AllByRecursion (λ f. is_of class lane f ≡ true) fs → option_map again (slice_get (map entry_of fs) 0) ≡ slice_get fs 0
    first [] all = refl
    first (f ∷ fs) all =
        let both : ((f.class == class) ≡ true) × (is_in lane f ≡ true) = parts (f.class == class) (is_in lane f) all.0 in
        rw (← same f.class both.0, ← in_lane lane f both.1) refl

-- ---- whether a class has an open front

some_least : {A : Type 0} (below : A → A → Bool) (p : A → Bool) (xs : List A) → is_some (least below (filter p xs)) ≡ list_any p xs
some_least below p [] = refl
some_least below p (x ∷ xs) = elim (p x) as (λ b. is_some (least below (cond b (x ∷ filter p xs) (filter p xs))) ≡ (b || list_any p xs)) [
  | true ↦ refl
  | false ↦ some_least below p xs
]

pub open_is : (class : ℕ) (fronts : List Front)
    → (is_some (first_of class Immediate fronts) || is_some (first_of class Delayed fronts)) ≡ list_any (λ f. f.class == class) fronts
open_is class fronts =
    ap (λ b. b || is_some (first_of class Delayed fronts)) (some_least order_below (is_of class Immediate) fronts)
    ∙ ap (λ b. list_any (is_of class Immediate) fronts || b) (some_least order_below (is_of class Delayed) fronts)
    ∙ either fronts
  where
    joined : (a b s t : Bool) → ((a && b || s) || (a && not b || t)) ≡ (a || (s || t))
    joined true true s t = refl
    joined true false true t = refl
    joined true false false t = refl
    joined false b s t = refl

    either : (fs : List Front) → (list_any (is_of class Immediate) fs || list_any (is_of class Delayed) fs) ≡ list_any (λ f. f.class == class) fs
    either [] = refl
    either (f ∷ fs) =
        joined (f.class == class) (is_immediate f.lane) (list_any (is_of class Immediate) fs) (list_any (is_of class Delayed) fs)
        ∙ ap (λ b. f.class == class || b) (either fs)

-- ---- the least class

-- no class of the fronts is lesser, and one of them is of the class
pub least_class_is : (fronts : List Front) (class : ℕ) → AllByRecursion (λ f. class ≤ f.class) fronts → list_any (λ f. f.class == class) fronts ≡ true
    → least_class fronts ≡ Some class
least_class_is fronts class none_lesser one = by_least (least class_below fronts) refl
  where
    by_least : (o : Option Front) → least class_below fronts ≡ o → option_map (λ f. f.class) o ≡ Some class
    by_least None none = absurd (true≢false (sym one ∙ ap (list_any (λ f. f.class == class)) (no_least class_below fronts none)))
    by_least (Some f) some =
        let it : IsLeast class_below fronts f = least_is_least class_below (ranks_by (λ g. g.class)) fronts f some in
        same it (cases_eq f.class class)
      where
        same : IsLeast class_below fronts f → (f.class ≡ class) ⊎ (f.class ≡ class → ⊥) → Some f.class ≡ Some class
        same it (inl is) = ap Some is
        same it (inr not) =
            let more : class ≤ f.class = AllByRecursion-contains (λ g. class ≤ g.class) fronts f none_lesser it.member in
            absurd (true≢false (sym one ∙ list_any_none (λ g. g.class == class) fronts
            (AllByRecursion-map (λ g. nat_lt g.class f.class ≡ false) (λ g. (g.class == class) ≡ false) fronts (λ g h. other g more h)
            (recursion_from_All _ fronts it.none_below))))
          where
            other : (g : Front) → class ≤ f.class → nat_lt g.class f.class ≡ false → (g.class == class) ≡ false
            other g more h = by_order (cases_lt g.class f.class)
              where
                by_order : (g.class < f.class) ⊎ (f.class ≤ g.class) → (g.class == class) ≡ false
                by_order (inl less) = absurd (true≢false (sym (lt-ltb g.class f.class less) ∙ h))
                by_order (inr le) = ne_eqb g.class class (λ is. not (omega (arith, is, le, more)))

pub next_class : (fronts : List Front) (class : ℕ) → AllByRecursion (λ f. class ≤ f.class) fronts → list_any (λ f. f.class == class) fronts ≡ false
    → AllByRecursion (λ f. class + 1 ≤ f.class) fronts
next_class fronts class none_lesser none =
    AllByRecursion-map (λ f. (class ≤ f.class) × ((f.class == class) ≡ false)) (λ f. class + 1 ≤ f.class) fronts (λ f h. more f h.0 h.1)
    (AllByRecursion-both _ _ fronts none_lesser (AllByRecursion-not_any (λ f. f.class == class) fronts none))
  where
    more : (f : Front) → class ≤ f.class → (f.class == class) ≡ false → class + 1 ≤ f.class
    more f le not = grind arith

-- the least class has an open front
pub least_class_open : (fronts : List Front) (class : ℕ) → least_class fronts ≡ Some class → list_any (λ f. f.class == class) fronts ≡ true
least_class_open fronts class is = by_least (least class_below fronts) refl is
  where
    by_least : (o : Option Front) → least class_below fronts ≡ o → option_map (λ f. f.class) o ≡ Some class → list_any (λ f. f.class == class) fronts ≡ true
    by_least None none none_is = absurd (none-some class none_is)
    by_least (Some f) some class_is =
        let it : IsLeast class_below fronts f = least_is_least class_below (ranks_by (λ g. g.class)) fronts f some in
        any (list_any (λ g. g.class == class) fronts) refl it.member (some-injective class_is)
      where
        any : (b : Bool) → list_any (λ g. g.class == class) fronts ≡ b → Contains fronts f → f.class ≡ class → b ≡ true
        any true found member same = refl
        any false found member same =
            absurd (true≢false (sym (eq-eqb f.class class same)
            ∙ AllByRecursion-contains (λ g. (g.class == class) ≡ false) fronts f (AllByRecursion-not_any (λ g. g.class == class) fronts found) member))

fronts_low : (base : ℕ) (rows : List Row) → AllByRecursion (λ row. row.class ≤ 7) rows → AllByRecursion (λ f. f.class ≤ 7) (fronts_from base rows)
fronts_low base [] low = tt
fronts_low base (row ∷ rows) low = AllByRecursion-append Low (row_fronts base row) (fronts_from (base + 1) rows)
    (AllByRecursion-append Low (option_to_list (open_front base Immediate row)) (option_to_list (open_front base Delayed row)) (one Immediate row.immediate)
    (one Delayed row.delayed)) (fronts_low (base + 1) rows low.1)
  where
    Low : Front → Type 0
    Low f = f.class ≤ 7

    one : (lane : Lane) (o : Option ℕ) → AllByRecursion Low (option_to_list (option_map (front_at row.class lane base) o))
    one lane None = tt
    one lane (Some order) = (low.0, tt)

-- no class has an open front
pub no_class : (rows : List Row) → All (λ row. row.class ≤ 7) rows → AllByRecursion (λ f. 8 ≤ f.class) (fronts_from 0 rows)
    → least_class (fronts_from 0 rows) ≡ None
no_class rows low high = ap least_class (empty (fronts_from 0 rows) (fronts_low 0 rows (recursion_from_All _ rows low)) high)
  where
    empty : (fs : List Front) → AllByRecursion (λ f. f.class ≤ 7) fs → AllByRecursion (λ f. 8 ≤ f.class) fs → fs ≡ []
    empty [] below above = refl
    empty (f ∷ fs) below above = absurd (omega (arith, below.0, above.0))

-- ---- the choice

-- those of the least class, by lane
in_class : (fronts : List Front) (class : ℕ) → least_class fronts ≡ Some class → of_least_class fronts ≡ filter (λ f. f.class == class) fronts
in_class fronts class is = ap (λ o. filter (λ f. holds_of (λ c. f.class == c) o) fronts) is

first_immediate : (fronts : List Front) (class : ℕ) → least_class fronts ≡ Some class
    → first_of class Immediate fronts ≡ least order_below (immediate_of_least_class fronts)
first_immediate fronts class is =
    ap (least order_below) (sym (ap (filter (λ f. is_immediate f.lane)) (in_class fronts class is)
    ∙ filter-filter (λ f. is_immediate f.lane) (λ f. f.class == class) fronts))

first_delayed : (fronts : List Front) (class : ℕ) → least_class fronts ≡ Some class
    → first_of class Delayed fronts ≡ least order_below (filter (λ f. not (is_immediate f.lane)) (of_least_class fronts))
first_delayed fronts class is =
    ap (least order_below) (sym (ap (filter (λ f. not (is_immediate f.lane))) (in_class fronts class is)
    ∙ filter-filter (λ f. not (is_immediate f.lane)) (λ f. f.class == class) fronts))

-- whether there is a least one
is_some-least : {A : Type 0} (below : A → A → Bool) (xs : List A) → is_some (least below xs) ≡ nat_lt 0 (length xs)
is_some-least below [] = refl
is_some-least below (x ∷ xs) = sym (lt-ltb 0 (suc (length xs)) (omega arith))

pub choice_is : (fronts : List Front) (streak class : ℕ) → Differ order_below fronts → least_class fronts ≡ Some class
    → sooner_of streak (first_of class Immediate fronts) (first_of class Delayed fronts) ≡ choice_among fronts streak
choice_is fronts streak class differ is =
    ap (λ o. sooner_of streak o (first_of class Delayed fronts)) (first_immediate fronts class is)
    ∙ ap (sooner_of streak (least order_below immediate)) (first_delayed fronts class is)
    ∙ by_order (cases_lt streak most_delayed) (least order_below immediate) (least order_below delayed)
    (least-split order_below (ranks_by (λ f. f.order)) (λ f. is_immediate f.lane) (of_least_class fronts)
    (differ-filter order_below (λ f. holds_of (λ c. f.class == c) (least_class fronts)) fronts differ)) refl (is_some-least order_below immediate)
  where
    immediate : List Front
    immediate = immediate_of_least_class fronts

    delayed : List Front
    delayed = filter (λ f. not (is_immediate f.lane)) (of_least_class fronts)

    short : streak < most_delayed → (o other : Option Front) → sooner_of streak o other ≡ lesser order_below o other
    short less None other = refl
    short less (Some a) None = refl
    short less (Some a) (Some b) = ap (λ t. Some (cond (t && order_below b a) b a)) (lt-ltb streak most_delayed less)

    among : (t : Bool) → nat_le most_delayed streak ≡ t
        → least order_below (cond (t && nat_lt 0 (length immediate)) immediate (of_least_class fronts)) ≡ choice_among fronts streak
    among t is = sym (ap (λ t. least order_below (cond (t && nat_lt 0 (length immediate)) immediate (of_least_class fronts))) is)

    of_some : (some : Bool) → some ≡ nat_lt 0 (length immediate) → most_delayed ≤ streak
        → least order_below (cond some immediate (of_least_class fronts)) ≡ choice_among fronts streak
    of_some some is long =
        ap (λ t. least order_below (cond t immediate (of_least_class fronts))) is ∙ among true (le-leb most_delayed streak long)

    not_long : (n : ℕ) → n < most_delayed → nat_le most_delayed n ≡ false
    not_long n less = grind arith

    starved : most_delayed ≤ streak → (a : Front) (other : Option Front) → sooner_of streak (Some a) other ≡ Some a
    starved long a None = refl
    starved long a (Some b) = ap (λ t. Some (cond (t && order_below b a) b a)) (le-ltb streak most_delayed long)

    by_order : (streak < most_delayed) ⊎ (most_delayed ≤ streak) → (o other : Option Front)
        → least order_below (of_least_class fronts) ≡ lesser order_below o other
        → least order_below immediate ≡ o → is_some o ≡ nat_lt 0 (length immediate) → sooner_of streak o other ≡ choice_among fronts streak
    by_order (inl less) o other split first some = short less o other ∙ sym split ∙ among false (not_long streak less)
    by_order (inr long) None other split first some = sym split ∙ of_some false some long
    by_order (inr long) (Some a) other split first some = starved long a other ∙ sym first ∙ of_some true some long

pub immediate_is : (s : Selecting) (class : ℕ) → least_class (fronts_from 0 s.rows) ≡ Some class
    → is_some (first_of class Immediate (fronts_from 0 s.rows)) ≡ immediate_is_open s
immediate_is s class is =
    ap is_some (first_immediate (fronts_from 0 s.rows) class is) ∙ is_some-least order_below (immediate_of_least_class (fronts_from 0 s.rows))

-- no choice, no front
none_chosen : (fronts : List Front) (streak : ℕ) → Differ order_below fronts → choice_among fronts streak ≡ None → fronts ≡ []
none_chosen fronts streak differ none = by_least (least class_below fronts) refl
  where
    neither : (o other : Option Front) → sooner_of streak o other ≡ None → (is_some o || is_some other) ≡ false
    neither None None is = refl
    neither None (Some b) is = absurd (none-some b (sym is))
    neither (Some a) None is = absurd (none-some a (sym is))
    neither (Some a) (Some b) is = absurd (none-some _ (sym is))

    by_least : (o : Option Front) → least class_below fronts ≡ o → fronts ≡ []
    by_least None is = no_least class_below fronts is
    by_least (Some f) is =
        let class : least_class fronts ≡ Some f.class = ap (option_map (λ g. g.class)) is in
        absurd (true≢false (sym (least_class_open fronts f.class class) ∙ sym (open_is f.class fronts)
        ∙ neither (first_of f.class Immediate fronts) (first_of f.class Delayed fronts) (choice_is fronts streak f.class differ class ∙ none)))

pub none_is : (s : Selecting) (chosen : Option (ℕ × Lane)) → Differ order_below (fronts_from 0 s.rows) → chosen ≡ choice s
    → IsNone chosen ↔ (fronts_from 0 s.rows ≡ [])
none_is s chosen differ is = (forth chosen is, back chosen is)
  where
    unmapped : (o : Option Front) → None ≡ option_map {U = ℕ × Lane} (λ f. (f.queue, f.lane)) o → o ≡ None
    unmapped None same = refl
    unmapped (Some f) same = absurd (none-some _ same)

    forth : (chosen : Option (ℕ × Lane)) → chosen ≡ choice s → IsNone chosen → fronts_from 0 s.rows ≡ []
    forth None is none = none_chosen (fronts_from 0 s.rows) s.streak differ (unmapped (choice_among (fronts_from 0 s.rows) s.streak) is)
    forth (Some c) is none = absurd (true≢false none)

    of_none : choice_among [] s.streak ≡ None
    of_none = elim (nat_le most_delayed s.streak) as (λ b. least order_below (cond {A = List Front} (b && nat_lt 0 0) [] []) ≡ None) [
      | true ↦ refl
      | false ↦ refl
    ]

    back : (chosen : Option (ℕ × Lane)) → chosen ≡ choice s → fronts_from 0 s.rows ≡ [] → IsNone chosen
    back None is none = refl
    back (Some c) is none = absurd (none-some c (sym (is ∙ ap (λ fronts. option_map {U = ℕ × Lane} (λ f. (f.queue, f.lane)) (choice_among fronts s.streak)) none
        ∙ ap (option_map {U = ℕ × Lane} (λ f. (f.queue, f.lane))) of_none)))

-- the streak is short where it grows
pub short : (s : Selecting) (queue : ℕ) → choice s ≡ Some (queue, Delayed) → immediate_is_open s ≡ true → s.streak < most_delayed
short s queue is waits = by_order (cases_lt s.streak most_delayed)
  where
    fronts : List Front
    fronts = fronts_from 0 s.rows

    lane_of : (o : Option Front) → least order_below (immediate_of_least_class fronts) ≡ o
        → option_map {U = ℕ × Lane} (λ f. (f.queue, f.lane)) o ≡ Some (queue, Delayed) → ⊥
    lane_of None none same = none-some _ same
    lane_of (Some f) some same =
        let it : IsLeast order_below (immediate_of_least_class fronts) f =
        least_is_least order_below (ranks_by (λ g. g.order)) (immediate_of_least_class fronts) f some in
        true≢false (sym (AllByRecursion-contains (λ g. is_immediate g.lane ≡ true) (immediate_of_least_class fronts) f
        (filter_passes (λ g. is_immediate g.lane) (of_least_class fronts)) it.member)
        ∙ ap (λ (p : ℕ × Lane). is_immediate p.1) (some-injective same))

    by_order : (s.streak < most_delayed) ⊎ (most_delayed ≤ s.streak) → s.streak < most_delayed
    by_order (inl less) = less
    by_order (inr long) =
        let starved : is_starved fronts s.streak ≡ true = ap (λ t. t && immediate_is_open s) (le-leb most_delayed s.streak long) ∙ waits in
        absurd (lane_of (least order_below (immediate_of_least_class fronts)) refl
        (ap (λ t. option_map {U = ℕ × Lane} (λ f. (f.queue, f.lane)) (least order_below (cond t (immediate_of_least_class fronts) (of_least_class fronts))))
        (sym starved) ∙ is))
