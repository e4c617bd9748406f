-- The pigeonhole: where each pigeon is in some hole, and no hole has two of them, there are no more pigeons than holes.
-- So, where an element has at most one number, and there are fewer elements than numbers, the first number that no
-- element has is found.
-- Cited by `log_moves`, `pool_core`, `pool_laws`, `run_summary`, `sequence_manager`, `task_script`.
use Rattle.std.proofs.Common.{◌≡◌, ℕ, zero, suc, ◌+◌, ◌<◌, ◌≤◌, Bool, true, false, cond, List, []}
use Rattle.std.proofs.Common.{◌∷◌, length, refl, ap, ◌∙◌, Option, Some, None, inl, inr, arith}
use Rattle.std.specs.Prelude.{not, ◌||◌, ◌&&◌, ◌⊎◌, filter, find}
use Rattle.std.specs.List.{list_any, list_all, range_with_len, AllByRecursion}
use Rattle.std.proofs.lemmas.Bool.{false≢true, not-true, not-false, false_from_ne_true, cases_eq, and_parts}
use Rattle.std.proofs.lemmas.Option.{none-some}
use Rattle.std.proofs.lemmas.List.Filters.{length-filter_both}
use Rattle.std.proofs.lemmas.List.FromFn.{length-range_with_len}
use Rattle.list_laws.specs.Lists.{count, IsFirst}
use Rattle.list_laws.proofs.Tests.{find-none}
use Rattle.list_laws.proofs.Counts.{count_mono}
use Rattle.list_laws.proofs.Elements.{AllByRecursion-filter, AllByRecursion-map, AllByRecursion-both}
use Rattle.list_laws.proofs.Filters.{filter-filter, filter_passes, filter_none}
use Rattle.list_laws.proofs.Ranges.{AllByRecursion-range}
use Rattle.list_laws.proofs.Values.{some-injective}

-- all fail a test where none passes it
pub list_all-not : {A : Type 0} (p : A → Bool) (xs : List A) → list_all (λ x. not (p x)) xs ≡ not (list_any p xs)
list_all-not p [] = refl
list_all-not p (x ∷ xs) = elim (p x) as (λ b. (not b && list_all (λ y. not (p y)) xs) ≡ not (b || list_any p xs)) [
  | true ↦ refl
  | false ↦ list_all-not p xs
]

-- where each pigeon is in some hole, and no hole has two of them, there are no more pigeons than holes
pub pigeons_fit : {A B : Type 0} (is_in : B → A → Bool) (holes : List A) (pigeons : List B) → ((hole : A) → count (λ p. is_in p hole) pigeons ≤ 1)
    → AllByRecursion (λ p. list_any (is_in p) holes ≡ true) pigeons → length pigeons ≤ length holes
pigeons_fit is_in [] [] one all = omega arith
pigeons_fit is_in [] (p ∷ ps) one all = absurd (false≢true (all.0))
pigeons_fit {A = A} {B = B} is_in (hole ∷ holes) pigeons one all =
    let split : length (filter (λ p. is_in p hole) pigeons) + length others ≡ length pigeons =
    length-filter_both (λ p. is_in p hole) (λ p. not (is_in p hole)) (λ p. refl) pigeons in
    let here : length (filter (λ p. is_in p hole) pigeons) ≤ 1 = one hole in
    let rest : length others ≤ length holes = pigeons_fit is_in holes others fewer elsewhere in
    omega arith
  where
    others : List B
    others = filter (λ p. not (is_in p hole)) pigeons

    fewer : (other : A) → count (λ p. is_in p other) others ≤ 1
    fewer other =
        let same : count (λ p. is_in p other) others ≡ count (λ p. not (is_in p hole) && is_in p other) pigeons =
        ap length (filter-filter (λ p. is_in p other) (λ p. not (is_in p hole)) pigeons) in
        let less : count (λ p. not (is_in p hole) && is_in p other) pigeons ≤ count (λ p. is_in p other) pigeons =
        count_mono (λ p. not (is_in p hole) && is_in p other) (λ p. is_in p other) pigeons
        (λ p h. (and_parts (not (is_in p hole)) (is_in p other) h).1) in
        let most : count (λ p. is_in p other) pigeons ≤ 1 = one other in
        omega arith

    elsewhere : AllByRecursion (λ p. list_any (is_in p) holes ≡ true) others
    elsewhere = AllByRecursion-map (λ p. (list_any (is_in p) (hole ∷ holes) ≡ true) × (not (is_in p hole) ≡ true)) (λ p. list_any (is_in p) holes ≡ true) others
        (λ p h. let none : is_in p hole ≡ false = not-true (is_in p hole) (h.1) in rw none at (h.0))
        (AllByRecursion-both (λ p. list_any (is_in p) (hole ∷ holes) ≡ true) (λ p. not (is_in p hole) ≡ true) others
        (AllByRecursion-filter (λ p. list_any (is_in p) (hole ∷ holes) ≡ true) (λ p. not (is_in p hole)) pigeons all)
        (filter_passes (λ p. not (is_in p hole)) pigeons))

-- a test that at most one number passes, over a row of numbers
pub count_one : (p : ℕ → Bool) (start len : ℕ) → ((i j : ℕ) → p i ≡ true → p j ≡ true → i ≡ j) → count p (range_with_len start len) ≤ 1
count_one p start zero one = omega arith
count_one p start (suc len) one = by_test (p start) refl (count_one p (start + 1) len one)
  where
    none_else : p start ≡ true → count p (range_with_len (start + 1) len) ≡ 0
    none_else here = ap length (filter_none p (range_with_len (start + 1) len) (AllByRecursion-range (λ i. p i ≡ false) (start + 1) len
        (λ i from to. false_from_ne_true (p i) (λ also. let same : start ≡ i = one start i here also in omega arith))))

    by_test : (b : Bool) → p start ≡ b → count p (range_with_len (start + 1) len) ≤ 1 → count p (start ∷ range_with_len (start + 1) len) ≤ 1
    by_test true here rest = let none : count p (range_with_len (start + 1) len) ≡ 0 = none_else here in rw here (omega arith)
    by_test false other rest = rw other rest

-- where each of the first n numbers is some element's, and an element has at most one number, there are at least n elements
pub numbers_fit : {A : Type 0} (has : ℕ → A → Bool) (xs : List A) (n : ℕ) → ((i j : ℕ) (x : A) → has i x ≡ true → has j x ≡ true → i ≡ j)
    → AllByRecursion (λ i. list_any (has i) xs ≡ true) (range_with_len 0 n) → n ≤ length xs
numbers_fit has xs n one all =
    let fit : length (range_with_len 0 n) ≤ length xs = pigeons_fit has xs (range_with_len 0 n)
    (λ x. count_one (λ i. has i x) 0 n (λ i j. one i j x)) all in
    omega (arith, length-range_with_len 0 n)

-- what is found in a row of numbers passes, and no lesser one of the row does
pub found_in_range : (p : ℕ → Bool) (start len n : ℕ) → find p (range_with_len start len) ≡ Some n
    → (p n ≡ true) × (n < start + len) × ((m : ℕ) → start ≤ m → m < n → p m ≡ false)
found_in_range p start zero n found = absurd (none-some n found)
found_in_range p start (suc len) n found = by_test (p start) refl found (found_in_range p (start + 1) len n)
  where
    by_test : (b : Bool) → p start ≡ b → cond b (Some start) (find p (range_with_len (start + 1) len)) ≡ Some n
        → (find p (range_with_len (start + 1) len) ≡ Some n
        → (p n ≡ true) × (n < start + 1 + len) × ((m : ℕ) → start + 1 ≤ m → m < n → p m ≡ false))
        → (p n ≡ true) × (n < start + suc len) × ((m : ℕ) → start ≤ m → m < n → p m ≡ false)
    by_test true here is rest =
        let same : start ≡ n = some-injective is in (rw same at here, omega arith, λ m from to. absurd (omega (arith, same, from, to)))
    by_test false other is rest =
        let later : (p n ≡ true) × (n < start + 1 + len) × ((m : ℕ) → start + 1 ≤ m → m < n → p m ≡ false) = rest is in
        (later.0, omega (arith, later.1), λ m from to. at m from (cases_eq m start) (λ more. later.2 m more to))
      where
        at : (m : ℕ) → start ≤ m → (m ≡ start) ⊎ (m ≡ start → ⊥) → (start + 1 ≤ m → p m ≡ false) → p m ≡ false
        at m from (inl same) later = ap p same ∙ other
        at m from (inr another) later = later (omega arith)

-- where an element has at most one number, some number that no element has is found among one more than there are elements,
-- and it is the first one
pub first_free : {A : Type 0} (has : ℕ → A → Bool) (xs : List A) → ((i j : ℕ) (x : A) → has i x ≡ true → has j x ≡ true → i ≡ j)
    → (n : ℕ) × (find (λ i. not (list_any (has i) xs)) (range_with_len 0 (length xs + 1)) ≡ Some n) × IsFirst (λ i. not (list_any (has i) xs)) n
    × (n ≤ length xs)
first_free has xs one = by_found (find (λ i. not (list_any (has i) xs)) (range_with_len 0 (length xs + 1))) refl
  where
    by_found : (o : Option ℕ) → find (λ i. not (list_any (has i) xs)) (range_with_len 0 (length xs + 1)) ≡ o
        → (n : ℕ) × (find (λ i. not (list_any (has i) xs)) (range_with_len 0 (length xs + 1)) ≡ Some n) × IsFirst (λ i. not (list_any (has i) xs)) n
        × (n ≤ length xs)
    by_found None none = absurd (omega (
      arith,
      numbers_fit has xs (length xs + 1) one (AllByRecursion-map (λ i. not (list_any (has i) xs) ≡ false)
          (λ i. list_any (has i) xs ≡ true) (range_with_len 0 (length xs + 1)) (λ i h. not-false (list_any (has i) xs) h)
          (find-none (λ i. not (list_any (has i) xs)) (range_with_len 0 (length xs + 1)) none)),
    ))
    by_found (Some n) found =
        let first : (not (list_any (has n) xs) ≡ true) × (n < 0 + (length xs + 1)) × ((m : ℕ) → 0 ≤ m → m < n → not (list_any (has m) xs) ≡ false) =
        found_in_range (λ i. not (list_any (has i) xs)) 0 (length xs + 1) n found in
        (n, found, record { passes = first.0; none_lesser = λ m less. first.2 m (omega arith) less }, omega (arith, first.1))
