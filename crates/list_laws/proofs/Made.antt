-- What is in a filtered list, in what is made of a list, and in a row of numbers.
-- Cited by `Rises`, `env_core`, `env_explain`, `hist_model`, `nested_loop`, `next_entry`, `pool_laws`, `queue_laws`, `run_summary`,
-- `sequence_manager`, `situation`.
use Rattle.std.proofs.Common.{false, ◌≡◌, ℕ, ◌<◌, Bool, true, List, [], ◌∷◌, length, refl, ap, ◌∙◌, Option, Some, None, arith, inl, inr, suc, zero}
use Rattle.std.specs.Prelude.{filter, Contains, not, ◌&&◌, ◌⊎◌}
use Rattle.std.specs.Option.{IfSome}
use Rattle.std.specs.List.{filter_map, range_with_len}
use Rattle.std.proofs.lemmas.List.Elements.{All-from_recursion, recursion_from_All, All-contains, All-contains_itself, All-filter, filter_passes}
use Rattle.std.proofs.lemmas.List.FromFn.{length-range_with_len, get_or-range_with_len}
use Rattle.std.proofs.lemmas.Bool.{not_from_false, and_right}
use Rattle.std.proofs.lemmas.List.Filters.{length-filter_both}
use Rattle.list_laws.specs.Lists.{count}
use Rattle.list_laws.proofs.Finds.{contained_counts}
use Rattle.list_laws.proofs.Elements.{AllByRecursion-made, AllByRecursion-filter_map, AllByRecursion-map, unfiltered}
use Rattle.list_laws.proofs.Filters.{filter-filter, filter_congr}
use Rattle.list_laws.proofs.Ranges.{AllByRecursion-range}

-- an element of a list is its first, or one of the rest
pub contains_cases : {A : Type 0} (y : A) (ys : List A) (x : A) → Contains (y ∷ ys) x → (y ≡ x) ⊎ Contains ys x
contains_cases y ys x (zero, there, is) = inl is
contains_cases y ys x (suc k, there, is) = inr (k, omega (arith, there), is)

pub none_contained : {A : Type 0} (x : A) → Contains [] x → ⊥
none_contained x among = omega (arith, among.1)

-- what is in a filtered list is in the list, and passes
pub filter_contains : {A : Type 0} (p : A → Bool) (xs : List A) (x : A) → Contains (filter p xs) x → Contains xs x × (p x ≡ true)
filter_contains p xs x h = (
  All-contains (Contains xs) (filter p xs) x (All-filter p (Contains xs) xs (All-contains_itself xs)) h,
  All-contains (λ y. p y ≡ true) (filter p xs) x (filter_passes p xs) h,
)

-- and what is in the list, and passes, is in the filtered list
pub contains_filter : {A : Type 0} (p : A → Bool) (xs : List A) (x : A) → Contains xs x → p x ≡ true → Contains (filter p xs) x
contains_filter p xs x h is =
    All-contains (λ y. p y ≡ true → Contains (filter p xs) y) xs x
    (All-from_recursion (λ y. p y ≡ true → Contains (filter p xs) y) xs
    (unfiltered (Contains (filter p xs)) p xs (recursion_from_All (Contains (filter p xs)) (filter p xs) (All-contains_itself (filter p xs)))))
    h is

-- what is in the list that is made of a list is made of one of its elements
pub filter_map_contains : {A B : Type 0} (f : A → Option B) (xs : List A) (y : B) → Contains (filter_map f xs) y → (x : A) × Contains xs x × (f x ≡ Some y)
filter_map_contains {A = A} {B = B} f xs y h =
    All-contains (λ z. (x : A) × Contains xs x × (f x ≡ Some z)) (filter_map f xs) y
    (All-from_recursion (λ z. (x : A) × Contains xs x × (f x ≡ Some z)) (filter_map f xs)
    (AllByRecursion-filter_map (λ z. (x : A) × Contains xs x × (f x ≡ Some z)) f xs
    (AllByRecursion-map (Contains xs) (λ x. IfSome (f x) (λ z. (w : A) × Contains xs w × (f w ≡ Some z))) xs (λ x at. made x at (f x) refl)
    (recursion_from_All (Contains xs) xs (All-contains_itself xs))))) h
  where
    made : (x : A) → Contains xs x → (o : Option B) → f x ≡ o → IfSome o (λ z. (w : A) × Contains xs w × (f w ≡ Some z))
    made x at None is = tt
    made x at (Some z) is = (x, at, is)

-- and what is made of one of the elements is in that list
pub contains_filter_map : {A B : Type 0} (f : A → Option B) (xs : List A) (x : A) (y : B) → Contains xs x → f x ≡ Some y → Contains (filter_map f xs) y
contains_filter_map f xs x y h is =
    let made : IfSome (f x) (Contains (filter_map f xs)) = All-contains (λ z. IfSome (f z) (Contains (filter_map f xs))) xs x
    (All-from_recursion (λ z. IfSome (f z) (Contains (filter_map f xs))) xs (AllByRecursion-made (Contains (filter_map f xs)) f xs
    (recursion_from_All (Contains (filter_map f xs)) (filter_map f xs) (All-contains_itself (filter_map f xs))))) h in
    rw is at made

-- the numbers in the row of the first n numbers
pub contains_range : (n i : ℕ) → i < n → Contains (range_with_len 0 n) i
contains_range n i less = (i, rw (length-range_with_len 0 n) less, omega (arith, get_or-range_with_len 0 n i i less))

pub range_contains : (n i : ℕ) → Contains (range_with_len 0 n) i → i < n
range_contains n i h = All-contains (λ k. k < n) (range_with_len 0 n) i
    (All-from_recursion (λ k. k < n) (range_with_len 0 n) (AllByRecursion-range (λ k. k < n) 0 n (λ k from to. omega (arith, to)))) h

-- a list with something in it is not empty
pub contains_not_empty : {A : Type 0} (xs : List A) (x : A) → Contains xs x → xs ≡ [] → ⊥
contains_not_empty xs x is none = let less : is.0 < length xs = is.1 in let long : length xs ≡ 0 = ap length none in omega (arith, less, long)

-- what passes the first test passes the second, and an element of the list passes the second alone
pub count_less : {A : Type 0} (p q : A → Bool) (xs : List A) (x : A) → ((y : A) → p y ≡ true → q y ≡ true) → Contains xs x → p x ≡ false → q x ≡ true
    → count p xs < count q xs
count_less {A = A} p q xs x h among fails passes =
    let parts = length-filter_both p (λ y. not (p y)) (λ y. refl) (filter q xs) in
    let more = contained_counts (λ y. not (p y)) (filter q xs) x (contains_filter q xs x among passes) (not_from_false (p x) fails) in
    let kept = ap length (filter-filter p q xs ∙ filter_congr (λ y. q y && p y) p xs (λ y. both (p y) (q y) (h y))) in
    omega (arith, parts, more, kept)
  where
    both : (a b : Bool) → (a ≡ true → b ≡ true) → (b && a) ≡ a
    both true b k = rw (k refl) refl
    both false b k = and_right b false refl
