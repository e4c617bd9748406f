-- Lists: the first that passes a test, flattened lists, and values that are kept.
-- Cited by `Choice`, `Ends`, `Fronts`, `Streak`, `TakenLanes`, `Taking`, `Ticks`, `nested_loop`.
use Rattle.std.proofs.Common.{◌≡◌, zero, suc, Bool, true, false, cond, List, [], ◌∷◌, ◌++◌, map, refl, sym, ap, ◌∙◌, Option, Some, None, inl, inr, arith}
use Rattle.std.specs.Prelude.{not, ◌⊎◌, find, filter, slice_get, Contains}
use Rattle.std.specs.List.{AllByRecursion, flat_map, list_any}
use Rattle.std.specs.Option.{option_map}
use Rattle.std.proofs.lemmas.Bool.{true≢false, false_from_ne_true, not_from_false, or_left, or_right}
use Rattle.std.proofs.lemmas.List.Elements.{filter-append, Contains-append_cases, Contains-append_right}
use Rattle.std.proofs.lemmas.List.{map-append}
use Rattle.std.proofs.lemmas.Option.{none-some}
use Rattle.list_laws.specs.Lists.{keep}
use Rattle.list_laws.specs.Sorts.{Rises}
use Rattle.list_laws.proofs.Elements.{AllByRecursion-both, AllByRecursion-filter, AllByRecursion-map}
use Rattle.list_laws.proofs.Filters.{filter_all, filter_passes}
use Rattle.list_laws.proofs.Values.{some-injective}

-- the first of those that pass a test is what the test finds
pub first_kept : {A B : Type 0} (f : A → B) (p : A → Bool) (xs : List A) → slice_get (map f (filter p xs)) 0 ≡ option_map f (find p xs)
first_kept f p [] = refl
first_kept f p (x ∷ xs) = elim (p x) as (λ b. slice_get (map f (cond b (x ∷ filter p xs) (filter p xs))) 0 ≡ option_map f (cond b (Some x) (find p xs))) [
  | true ↦ refl
  | false ↦ first_kept f p xs
]

-- a test on a list of lists is a test on each
pub filter-flat_map : {A B : Type 0} (p : B → Bool) (f : A → List B) (xs : List A) → filter p (flat_map f xs) ≡ flat_map (λ x. filter p (f x)) xs
filter-flat_map p f [] = refl
filter-flat_map p f (x ∷ xs) = filter-append p (f x) (flat_map f xs) ∙ ap (λ ys. filter p (f x) ++ ys) (filter-flat_map p f xs)

-- so is a change
pub map-flat_map : {A B C : Type 0} (g : B → C) (f : A → List B) (xs : List A) → map g (flat_map f xs) ≡ flat_map (λ x. map g (f x)) xs
map-flat_map g f [] = refl
map-flat_map g f (x ∷ xs) = map-append g (f x) (flat_map f xs) ∙ ap (λ ys. map g (f x) ++ ys) (map-flat_map g f xs)

-- lists that agree give one flattened list
pub flat_map_congr : {A B : Type 0} (f g : A → List B) (xs : List A) → ((x : A) → f x ≡ g x) → flat_map f xs ≡ flat_map g xs
flat_map_congr f g [] same = refl
flat_map_congr f g (x ∷ xs) same = rw (same x, flat_map_congr f g xs same) refl

-- an element of a flattened list is in one of its lists
pub flat_map_contains : {A B : Type 0} (f : A → List B) (xs : List A) (y : B) → Contains (flat_map f xs) y → (x : A) × Contains xs x × Contains (f x) y
flat_map_contains f [] y h = absurd (omega (arith, h.1))
flat_map_contains {A = A} {B = B} f (x ∷ xs) y h = by_side (Contains-append_cases (f x) (flat_map f xs) y h) (flat_map_contains f xs y)
  where
    by_side : Contains (f x) y ⊎ Contains (flat_map f xs) y → (Contains (flat_map f xs) y → (z : A) × Contains xs z × Contains (f z) y)
        → (z : A) × Contains (x ∷ xs) z × Contains (f z) y
    by_side (inl here) rest = (x, (0, omega arith, refl), here)
    by_side (inr there) rest = let (z, among, inside) = rest there in (z, Contains-append_right (x ∷ []) xs z among, inside)

-- a value that is kept is there, and passes
pub kept_is : {A : Type 0} (test : A → Bool) (o : Option A) (x : A) → keep test o ≡ Some x → (o ≡ Some x) × (test x ≡ true)
kept_is test None x is = absurd (none-some x is)
kept_is {A = A} test (Some y) x is = by_test (test y) refl is
  where
    by_test : (b : Bool) → test y ≡ b → cond b (Some y) None ≡ Some x → (Some y ≡ Some x) × (test x ≡ true)
    by_test true passes same = (same, ap test (sym (some-injective same)) ∙ passes)
    by_test false fails same = absurd (none-some x same)

-- where the one marked element fails a test, dropping it leaves those that pass
pub unmarked_left : {A : Type 0} (p marks : A → Bool) (xs : List A) (x : A) → p x ≡ false → AllByRecursion (λ y. marks y ≡ true → y ≡ x) xs
    → filter (λ y. not (marks y)) (filter p xs) ≡ filter p xs
unmarked_left p marks xs x fails one = filter_all (λ y. not (marks y)) (filter p xs)
    (AllByRecursion-map (λ y. (p y ≡ true) × (marks y ≡ true → y ≡ x)) (λ y. not (marks y) ≡ true) (filter p xs)
    (λ y h. not_from_false (marks y) (false_from_ne_true (marks y) (λ m. true≢false (sym h.0 ∙ ap p (h.1 m) ∙ fails))))
    (AllByRecursion-both (λ y. p y ≡ true) (λ y. marks y ≡ true → y ≡ x) (filter p xs) (filter_passes p xs)
    (AllByRecursion-filter (λ y. marks y ≡ true → y ≡ x) p xs one)))

-- what a list of one element contains is that element
pub contains_one : {A : Type 0} (x y : A) → Contains (x ∷ []) y → x ≡ y
contains_one x y (zero, there, is) = is
contains_one x y (suc k, there, is) = absurd (omega (arith, there))

-- some element passes a test that an element of the list passes
pub any_contains : {A : Type 0} (p : A → Bool) (xs : List A) (x : A) → Contains xs x → p x ≡ true → list_any p xs ≡ true
any_contains p [] x among passes = absurd (omega (arith, among.1))
any_contains p (y ∷ ys) x (zero, there, is) passes = or_left (p y) (list_any p ys) (ap p is ∙ passes)
any_contains p (y ∷ ys) x (suc k, there, is) passes = or_right (p y) (list_any p ys) (any_contains p ys x (k, omega (arith, there), is) passes)

-- the back of a list that rises
pub rises_back : {A : Type 0} (below : A → A → Bool) (xs ys : List A) → Rises below (xs ++ ys) → Rises below ys
rises_back below [] ys rises = rises
rises_back below (x ∷ xs) ys rises = rises_back below xs ys rises.1
