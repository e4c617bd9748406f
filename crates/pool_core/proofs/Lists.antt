-- Lists, places in them, and values that are there or not: facts of no one part of the pool.
-- Cited by `Calls/EmptyPool`, `Calls/Takes`, `LineGrowth`, `Sources/Idling`, `Sources/Places`, `Tables`, `Works/AtSeat`,
-- `Works/GroupWorks`, `Works/Room`.
use Rattle.list_laws.proofs.Counts.{count-append, count-cons, count_step}
use Rattle.list_laws.proofs.Filters.{filter-map, filter_congr_in, filter_none}
use Rattle.list_laws.proofs.Ranges.{AllByRecursion-range}
use Rattle.list_laws.proofs.Values.{some-injective}
use Rattle.list_laws.specs.Lists.{count, holds_of}
use Rattle.std.proofs.Common.{Bool, List, None, Option, Some, [], ap, arith, cond, false, get_or, inl, inr}
use Rattle.std.proofs.Common.{length, refl, suc, sym, true, zero, ℕ, ◌++◌, ◌+◌, ◌<◌, ◌∙◌, ◌∷◌, ◌≡◌, ◌≤◌}
use Rattle.std.proofs.lemmas.Bool.{cases_lt, false_from_ne_true, true≢false}
use Rattle.std.proofs.lemmas.List.{get_or-replicate, get_or_past, length-map, length-replicate}
use Rattle.std.proofs.lemmas.List.FromFn.{fill_by_all}
use Rattle.std.specs.List.{AllByRecursion, list_any, range_with_len}
use Rattle.std.specs.Prelude.{filter, is_some, replicate, slice_get, slice_index_or, ◌&&◌, ◌||◌}

-- Places.

-- the same at each place, and past the end
pub replicated : {A : Type 0} (n i : ℕ) (x : A) → slice_index_or (replicate n x) i x ≡ x
replicated n i x = elim (cases_lt i n) [
  | inl less ↦ get_or-replicate n i x x less
  | inr more ↦ get_or_past (replicate n x) i x (omega (arith, more, length-replicate n x))
]

-- there is an element at each place
pub get_there : {A : Type 0} (xs : List A) (i : ℕ) → i < length xs → is_some (slice_get xs i) ≡ true
get_there [] i less = absurd (omega (arith, less))
get_there (x ∷ xs) zero less = refl
get_there (x ∷ xs) (suc i) less = get_there xs i (omega (arith, less))

-- What is found, and what is kept.

-- a value that is inside twice is one
pub same_inside : {A : Type 0} {o : Option (Option A)} {x y : A} → o ≡ Some (Some x) → o ≡ Some (Some y) → x ≡ y
same_inside is also = some-injective (some-injective (sym is ∙ also))

-- a value that is kept where a test passes is there where it does
pub kept_is_some : {A : Type 0} (b : Bool) (x : A) → is_some (cond b (Some x) None) ≡ b
kept_is_some true x = refl
kept_is_some false x = refl

pub kept_holds : {A : Type 0} (test : A → Bool) (b : Bool) (x : A) → holds_of test (cond b (Some x) None) ≡ (b && test x)
kept_holds test true x = refl
kept_holds test false x = refl

pub or_none : (b c : Bool) → c ≡ false → (b || c) ≡ b
or_none true c none = refl
or_none false c none = none

-- what keeps each element that passes a test finds as many that do: one, or none
pub any_filtered : {A : Type 0} (p q : A → Bool) (xs : List A) → ((x : A) → p x ≡ true → q x ≡ true) → list_any p (filter q xs) ≡ list_any p xs
any_filtered p q [] keeps = refl
any_filtered {A = A} p q (x ∷ xs) keeps = by_test (q x) refl (any_filtered p q xs keeps)
  where
    by_test : (b : Bool) → q x ≡ b → list_any p (filter q xs) ≡ list_any p xs
        → list_any p (cond b (x ∷ filter q xs) (filter q xs)) ≡ (p x || list_any p xs)
    by_test true is rest = ap (λ b. p x || b) rest
    by_test false is rest = rw (false_from_ne_true (p x) (λ passes. true≢false (sym (keeps x passes) ∙ is))) rest

-- what holds of each element holds of that at a place
pub all_at : {A : Type 0} (P : A → Type 0) (xs : List A) (i : ℕ) (d : A) → AllByRecursion P xs → i < length xs → P (get_or xs i d)
all_at P [] i d all less = absurd (omega (arith, less))
all_at P (x ∷ xs) zero d all less = all.0
all_at P (x ∷ xs) (suc i) d all less = all_at P xs i d all.1 (omega (arith, less))

-- Counts.

-- the first numbers of a range, and those behind them
range_parts : (start n more all from : ℕ) → all ≡ n + more → from ≡ start + n
    → range_with_len start all ≡ range_with_len start n ++ range_with_len from more
range_parts start zero more all from long there = let e : all ≡ more = omega arith in let s : from ≡ start = omega arith in rw (e, s) refl
range_parts start (suc n) more all from long there =
    let longer : all ≡ suc (n + more) = omega arith in
    rw longer (ap (λ rest. start ∷ rest) (range_parts (start + 1) n more (n + more) from refl (omega arith)))

-- a list as what stands at each of its places
pub count_places : {A : Type 0} (test : A → Bool) (xs : List A) (d : A) → count test xs ≡ count (λ k. test (get_or xs k d)) (range_with_len 0 (length xs))
count_places test xs d = ap (count test) (fill_by_all (λ k. get_or xs k d) xs (length xs) d refl (λ k less. refl))
    ∙ ap length (filter-map test (λ k. get_or xs k d) (range_with_len 0 (length xs)))
    ∙ length-map (filter (λ k. test (get_or xs k d)) (range_with_len 0 (length xs))) (λ k. get_or xs k d)

-- what passes one of two tests, where no element passes both
pub count_parts : {A : Type 0} (p q r : A → Bool) (xs : List A) → AllByRecursion (λ x. cond (p x) 1 0 + cond (q x) 1 0 ≡ cond (r x) 1 0) xs
    → count p xs + count q xs ≡ count r xs
count_parts p q r [] parts = refl
count_parts p q r (x ∷ xs) parts =
    omega (arith, parts.0, count-cons p x xs, count-cons q x xs, count-cons r x xs, count_parts p q r xs parts.1)

-- among the places from 0 on, a test that only some from 1 on pass counts these alone
pub count_inside : (test mine : ℕ → Bool) (n more : ℕ) → test 0 ≡ false → ((k : ℕ) → 1 ≤ k → k < 1 + n → test k ≡ mine k)
    → ((k : ℕ) → 1 + n ≤ k → test k ≡ false) → count test (range_with_len 0 (suc (n + more))) ≡ count mine (range_with_len 1 n)
count_inside test mine n more first inside behind =
    count_step test 0 (range_with_len 1 (n + more)) false first ∙ ap (count test) (range_parts 1 n more (n + more) (1 + n) refl refl)
    ∙ count-append test (range_with_len 1 n) (range_with_len (1 + n) more)
    ∙ omega (
      arith,
      ap length (filter_congr_in test mine (range_with_len 1 n) (AllByRecursion-range (λ k. test k ≡ mine k) 1 n (λ k from to. inside k from to))),
      ap length (filter_none test (range_with_len (1 + n) more) (AllByRecursion-range (λ k. test k ≡ false) (1 + n) more (λ k from to. behind k from))),
    )
