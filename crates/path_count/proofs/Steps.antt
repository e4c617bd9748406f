-- Layers, a place at a time and a step at a time.
-- Cited by `count_paths`, `add_ending`, `next_layer`.
use Rattle.std.proofs.Common.{◌≡◌, ℕ, zero, suc, ◌+◌, ◌<◌, ◌≤◌, Bool, true, false, cond, if◌then◌else◌, List, [], ◌∷◌, ◌++◌, length, take, drop, map, Some}
use Rattle.std.proofs.Common.{slice_get, refl, subst, sym, ap, ◌∙◌, add-one, zero-add, below_more, arith}
use Rattle.std.specs.Prelude.{All, fold, sum_by}
use Rattle.std.specs.List.{AllByRecursion, range_with_len}
use Rattle.std.proofs.lemmas.Grind.{flat_map-append}
use Rattle.std.proofs.lemmas.List.{append-nil, take_more, take-append-drop}
use Rattle.std.proofs.lemmas.List.Elements.{All-cons, All-from_recursion, All-nil, All-same, recursion_from_All}
use Rattle.std.proofs.lemmas.List.Folds.{fold-map}
use Rattle.std.proofs.lemmas.List.Sums.{fold-append, sum_by-append, sum_by-cons}
use Rattle.std.proofs.lemmas.Option.{get_or_from_slice_get, slice_get_within}
use Rattle.key_tally.specs.Counts.{with_more}
use Rattle.path_count.specs.Answers.{AreFew}
use Rattle.path_count.specs.Layers.{ending, gathered, layer, paths_below, spread}

-- ---- a place more

take_at : {X : Type 0} (xs : List X) (i : ℕ) (x : X) → slice_get xs i ≡ Some x → take (i + 1) xs ≡ take i xs ++ x ∷ []
take_at xs i x at = take_more xs i x (slice_get_within xs i x at) ∙ ap (λ y. take i xs ++ y ∷ []) (get_or_from_slice_get xs i x x at)

module _ {P : Type 0} (eq : P → P → Bool) (onward : P → List P) where
  -- of what a place goes on to, each is counted as often as the place
  pub gathered-more : (xs : List (P × ℕ)) (i : ℕ) (place : P) (paths : ℕ) → slice_get xs i ≡ Some (place, paths)
      → gathered eq (spread onward (take (i + 1) xs)) ≡ fold (λ counts p. with_more eq p paths counts) (gathered eq (spread onward (take i xs))) (onward place)
  gathered-more xs i place paths at =
      ap (λ l. gathered eq (spread onward l)) (take_at xs i (place, paths) at)
      ∙ ap (gathered eq) (flat_map-append (λ c. map (λ p. (p, c.1)) (onward c.0)) (take i xs) ((place, paths) ∷ [])
      ∙ ap (λ l. spread onward (take i xs) ++ l) (append-nil (map (λ p. (p, paths)) (onward place))))
      ∙ fold-append (λ known (c : P × ℕ). with_more eq c.0 c.1 known) [] (spread onward (take i xs)) (map (λ p. (p, paths)) (onward place))
      ∙ fold-map (λ known (c : P × ℕ). with_more eq c.0 c.1 known) (λ p. (p, paths)) (gathered eq (spread onward (take i xs))) (onward place)

  pub gathered-step : (xs : List (P × ℕ)) (i : ℕ) (place : P) (paths : ℕ) (places : List P) (before after : List (P × ℕ))
      → slice_get xs i ≡ Some (place, paths) → places ≡ onward place → before ≡ gathered eq (spread onward (take i xs))
      → after ≡ fold (λ counts p. with_more eq p paths counts) before places → after ≡ gathered eq (spread onward (take (i + 1) xs))
  gathered-step xs i place paths places before after at leads so_far added =
      added ∙ ap (λ l. fold (λ counts p. with_more eq p paths counts) l places) so_far
      ∙ ap (λ ps. fold (λ counts p. with_more eq p paths counts) (gathered eq (spread onward (take i xs))) ps) leads
      ∙ sym (gathered-more xs i place paths at)

  -- counting more takes no place away
  with_more_longer : (key : P) (more : ℕ) (known : List (P × ℕ)) → length known ≤ length (with_more eq key more known)
  with_more_longer key more [] = omega arith
  with_more_longer key more (c ∷ known) = by_test (eq key c.0) (with_more_longer key more known)
    where
      by_test : (b : Bool) → length known ≤ length (with_more eq key more known)
          → suc (length known) ≤ length (cond b ((c.0, c.1 + more) ∷ known) (c ∷ with_more eq key more known))
      by_test true rest = omega arith
      by_test false rest = omega arith

  gathered_longer : (known found : List (P × ℕ)) → length known ≤ length (fold (λ counts (c : P × ℕ). with_more eq c.0 c.1 counts) known found)
  gathered_longer known [] = omega arith
  gathered_longer known (c ∷ found) =
      omega (arith, with_more_longer c.0 c.1 known, gathered_longer (with_more eq c.0 c.1 known) found)

  -- what is gathered of the first places is not longer than what is gathered of all
  pub gathered_of_first : (xs : List (P × ℕ)) (i : ℕ) → length (gathered eq (spread onward (take i xs))) ≤ length (gathered eq (spread onward xs))
  gathered_of_first xs i =
      let whole : gathered eq (spread onward xs)
      ≡ fold (λ known (c : P × ℕ). with_more eq c.0 c.1 known) (gathered eq (spread onward (take i xs))) (spread onward (drop i xs)) =
      ap (λ l. gathered eq (spread onward l)) (sym (take-append-drop i xs))
      ∙ ap (gathered eq) (flat_map-append (λ c. map (λ p. (p, c.1)) (onward c.0)) (take i xs) (drop i xs))
      ∙ fold-append (λ known (c : P × ℕ). with_more eq c.0 c.1 known) [] (spread onward (take i xs)) (spread onward (drop i xs)) in
      omega (arith, ap length whole, gathered_longer (gathered eq (spread onward (take i xs))) (spread onward (drop i xs)))

  -- ---- what holds of each place

  module _ (Holds : P → Type 0) (on : (p : P) → Holds p → All Holds (onward p)) where
    holds_with_more : (key : P) (more : ℕ) (known : List (P × ℕ)) → Holds key → AllByRecursion (λ (c : P × ℕ). Holds c.0) known
        → AllByRecursion (λ (c : P × ℕ). Holds c.0) (with_more eq key more known)
    holds_with_more key more [] here all = (here, tt)
    holds_with_more key more (c ∷ known) here all = by_test (eq key c.0) (holds_with_more key more known here all.1)
      where
        by_test : (b : Bool) → AllByRecursion (λ (e : P × ℕ). Holds e.0) (with_more eq key more known)
            → AllByRecursion (λ (e : P × ℕ). Holds e.0) (cond b ((c.0, c.1 + more) ∷ known) (c ∷ with_more eq key more known))
        by_test true rest = (all.0, all.1)
        by_test false rest = (all.0, rest)

    holds_each : (ps : List P) (paths : ℕ) (known : List (P × ℕ)) → AllByRecursion Holds ps → AllByRecursion (λ (c : P × ℕ). Holds c.0) known
        → AllByRecursion (λ (c : P × ℕ). Holds c.0) (fold (λ counts (c : P × ℕ). with_more eq c.0 c.1 counts) known (map (λ (p : P). (p, paths)) ps))
    holds_each [] paths known here all = all
    holds_each (p ∷ ps) paths known here all = holds_each ps paths (with_more eq p paths known) here.1 (holds_with_more p paths known here.0 all)

    holds_gathered : (xs known : List (P × ℕ)) → AllByRecursion (λ (c : P × ℕ). Holds c.0) xs → AllByRecursion (λ (c : P × ℕ). Holds c.0) known
        → AllByRecursion (λ (c : P × ℕ). Holds c.0) (fold (λ counts (c : P × ℕ). with_more eq c.0 c.1 counts) known (spread onward xs))
    holds_gathered [] known here all = all
    holds_gathered (x ∷ xs) known here all =
        let first : fold (λ counts (c : P × ℕ). with_more eq c.0 c.1 counts) known (spread onward (x ∷ xs))
        ≡ fold (λ counts (c : P × ℕ). with_more eq c.0 c.1 counts) (fold (λ counts (c : P × ℕ). with_more eq c.0 c.1 counts) known (map (λ p. (
          p,
          x.1,
        )) (onward x.0))) (spread onward xs) =
        fold-append (λ counts (c : P × ℕ). with_more eq c.0 c.1 counts) known (map (λ p. (p, x.1)) (onward x.0)) (spread onward xs) in
        rw first (holds_gathered xs (fold (λ counts (c : P × ℕ). with_more eq c.0 c.1 counts) known (map (λ p. (p, x.1)) (onward x.0))) here.1
        (holds_each (onward x.0) x.1 known (recursion_from_All Holds (onward x.0) (on x.0 here.0)) all))

    pub holds_onward : (xs : List (P × ℕ)) → All (λ (c : P × ℕ). Holds c.0) xs → All (λ (c : P × ℕ). Holds c.0) (gathered eq (spread onward xs))
    holds_onward xs all =
        All-from_recursion (λ (c : P × ℕ). Holds c.0) (gathered eq (spread onward xs)) (holds_gathered xs [] (recursion_from_All (λ (c : P × ℕ).
        Holds c.0) xs all) tt)

-- ---- a step more

-- of a place more: it is an end, or not
pub ending-more : {P : Type 0} (is_end : P → Bool) (xs : List (P × ℕ)) (i : ℕ) (place : P) (paths : ℕ) → slice_get xs i ≡ Some (place, paths)
    → ending is_end (take (i + 1) xs) ≡ ending is_end (take i xs) + (if is_end place then paths else 0)
ending-more {P = P} is_end xs i place paths at =
    ap (ending is_end) (take_at xs i (place, paths) at) ∙ sum_by-append (λ (c : P × ℕ). if is_end c.0 then c.1 else 0) (take i xs) ((place, paths) ∷ [])
    ∙ ap (λ n. ending is_end (take i xs) + n) (sum_by-cons (λ (c : P × ℕ). if is_end c.0 then c.1 else 0) (place, paths) []
    ∙ nothing (if is_end place then paths else 0))
  where
    nothing : (n : ℕ) → n + 0 ≡ n
    nothing n = omega arith

sum_range : (f : ℕ → ℕ) (a n : ℕ) → sum_by f (range_with_len a (suc n)) ≡ sum_by f (range_with_len a n) + f (a + n)
sum_range f a zero = sum_by-cons f a [] ∙ (let here : a ≡ a + 0 = omega arith in rw (← here) (omega arith))
sum_range f a (suc n) =
    let on : a + 1 + n ≡ a + suc n = omega arith in
    sum_by-cons f a (range_with_len (a + 1) (suc n)) ∙ ap (λ k. f a + k) (sum_range f (a + 1) n)
    ∙ omega (arith, ap f on, sum_by-cons f a (range_with_len (a + 1) n))

pub ending-step : {P : Type 0} (is_end : P → Bool) (xs : List (P × ℕ)) (i : ℕ) (place : P) (paths old before after : ℕ) → slice_get xs i ≡ Some (place, paths)
    → before ≡ old + ending is_end (take i xs) → after ≡ before + (if is_end place then paths else 0) → after ≡ old + ending is_end (take (i + 1) xs)
ending-step is_end xs i place paths old before after at so_far added =
    omega (arith, so_far, added, ending-more is_end xs i place paths at)

module _ {P : Type 0} (eq : P → P → Bool) (onward : P → List P) (is_end : P → Bool) (start : P) where
  pub layer-start : layer eq onward start 0 ≡ (start, 1) ∷ []
  unfolding layer
  layer-start = refl

  pub layer-next : (n : ℕ) → layer eq onward start (n + 1) ≡ gathered eq (spread onward (layer eq onward start n))
  unfolding layer
  layer-next n = rw add-one refl

  pub paths_below-next : (n : ℕ) → paths_below eq onward is_end start (n + 1) ≡ paths_below eq onward is_end start n + ending is_end (layer eq onward start n)
  unfolding paths_below
  paths_below-next n = rw add-one (sum_range (λ m. ending is_end (layer eq onward start m)) 0 n
      ∙ ap (λ m. paths_below eq onward is_end start n + ending is_end (layer eq onward start m)) (zero-add n))

  pub paths_below-none : paths_below eq onward is_end start 0 ≡ 0
  unfolding paths_below
  paths_below-none = refl

  pub few_more : (most n : ℕ) → AreFew eq onward start most n → length (layer eq onward start n) ≤ most → AreFew eq onward start most (n + 1)
  few_more most n few here = below_more (λ m. length (layer eq onward start m) ≤ most) n few here

-- ---- where the count is

-- so many steps are counted: the layer that is kept, what has ended in it and before, and that no layer so far is too large
pub record IsCounted {P : Type 0} (eq : P → P → Bool) (onward : P → List P) (is_end : P → Bool) (start : P) (Holds : P → Type 0) (most : ℕ)
    (kept : List (P × ℕ)) (ended steps : ℕ) : Type 0 where
  pub is : kept ≡ layer eq onward start steps
  pub sum : ended ≡ paths_below eq onward is_end start (steps + 1)
  pub few : AreFew eq onward start most (steps + 1)
  pub holds : All (λ (c : P × ℕ). Holds c.0) kept

module _ {P : Type 0} (eq : P → P → Bool) (onward : P → List P) (is_end : P → Bool) (start : P) (Holds : P → Type 0) (most : ℕ) where
  pub counted_first : (kept : List (P × ℕ)) (before ended : ℕ) → 0 < most → Holds start → kept ≡ (start, 1) ∷ [] → before ≡ 0
      → ended ≡ before + ending is_end kept
      → IsCounted eq onward is_end start Holds most kept ended 0
  counted_first kept before ended some here is none sum =
      let first : kept ≡ layer eq onward start 0 = is ∙ sym (layer-start eq onward is_end start) in
      record {
        is = first;
        sum = sum ∙ ap (λ l. before + ending is_end l) first ∙ ap (λ n. n + ending is_end (layer eq onward start 0)) (none
            ∙ sym (paths_below-none eq onward is_end start))
            ∙ sym (paths_below-next eq onward is_end start 0);
        few = few_more eq onward is_end start most 0 (λ n below. absurd (omega arith)) (subst (λ (l : List (P × ℕ)). length l ≤ most) (sym
            (layer-start eq onward is_end start)) some);
        holds = All-same (λ (c : P × ℕ). Holds c.0) kept ((start, 1) ∷ []) is (All-cons (λ (c : P × ℕ). Holds c.0) (start, 1) [] here (All-nil (λ (c
            : P × ℕ). Holds c.0)));
      }

  pub counted_next : ((p : P) → Holds p → All Holds (onward p)) → (kept next : List (P × ℕ)) (ended more steps : ℕ)
      → IsCounted eq onward is_end start Holds most kept ended steps → next ≡ gathered eq (spread onward kept) → length next ≤ most
      → more ≡ ended + ending is_end next → IsCounted eq onward is_end start Holds most next more (steps + 1)
  counted_next on kept next ended more steps known is short sum =
      let first : next ≡ layer eq onward start (steps + 1) = is ∙ ap (λ l. gathered eq (spread onward l)) known.is
      ∙ sym (layer-next eq onward is_end start steps) in
      record {
        is = first;
        sum = sum ∙ ap (λ l. ended + ending is_end l) first ∙ ap (λ n. n + ending is_end (layer eq onward start (steps + 1))) known.sum
            ∙ sym (paths_below-next eq onward is_end start (steps + 1));
        few = few_more eq onward is_end start most (steps + 1) known.few (subst (λ (l : List (P × ℕ)). length l ≤ most) first short);
        holds = All-same (λ (c : P × ℕ). Holds c.0) next (gathered eq (spread onward kept)) is (holds_onward eq onward Holds on kept known.holds);
      }

  pub holds_next : ((p : P) → Holds p → All Holds (onward p)) → (kept next : List (P × ℕ)) (ended steps : ℕ)
      → IsCounted eq onward is_end start Holds most kept ended steps → next ≡ gathered eq (spread onward kept) → All (λ (c : P × ℕ). Holds c.0) next
  holds_next on kept next ended steps known is =
      All-same (λ (c : P × ℕ). Holds c.0) next (gathered eq (spread onward kept)) is (holds_onward eq onward Holds on kept known.holds)

  pub too_many : (kept : List (P × ℕ)) (ended steps all : ℕ) → IsCounted eq onward is_end start Holds most kept ended steps → steps < all
      → most < length (gathered eq (spread onward kept))
      → (steps + 1 ≤ all) × (most < length (layer eq onward start (steps + 1))) × AreFew eq onward start most (steps + 1)
      × (ended ≡ paths_below eq onward is_end start (steps + 1))
  too_many kept ended steps all known within more = (
    omega arith,
    subst (λ (l : List (P × ℕ)). most < length l) (ap (λ l. gathered eq (spread onward l)) known.is ∙ sym (layer-next eq onward is_end start steps)) more,
    known.few,
    known.sum,
  )
