-- Lists that rise: two of the same members are one, so a sort depends on the members alone.
-- Cited by `nested_loop`, `pool_core`, `queue_selector`, `sequence_manager`, `situation`.
use Rattle.list_laws.proofs.Elements.{AllByRecursion-append, AllByRecursion-at, AllByRecursion-both, AllByRecursion-contains, AllByRecursion-contains_itself}
use Rattle.list_laws.proofs.Elements.{AllByRecursion-filter, AllByRecursion-front, AllByRecursion-map}
use Rattle.list_laws.proofs.Filters.{filter_all, filter_passes}
use Rattle.list_laws.proofs.Members.{same_members-trans}
use Rattle.list_laws.proofs.Sorts.{differ-filter, differ-push, rises-sort_by, same_members-sort_by}
use Rattle.list_laws.proofs.Values.{some-injective}
use Rattle.list_laws.specs.Lists.{Ranks}
use Rattle.list_laws.specs.Sorts.{Differ, Rises, SameMembers, insert_by, sort_by}
use Rattle.std.proofs.Common.{Bool, List, Some, [], ap, arith, cond, drop, false, inl, inr, length}
use Rattle.std.proofs.Common.{map, refl, subst, suc, sym, true, zero, ◌++◌, ◌+◌, ◌∙◌, ◌∷◌, ◌≡◌}
use Rattle.std.proofs.lemmas.Bool.{false_from_ne_true, not_from_false, true≢false}
use Rattle.std.proofs.lemmas.List.Elements.{Contains-append_left, Contains-push}
use Rattle.std.proofs.lemmas.Option.{none-some}
use Rattle.std.specs.List.{AllByRecursion}
use Rattle.std.specs.Prelude.{Contains, filter, find, not, ◌⊎◌}
use Rattle.list_laws.proofs.Made.{contains_cases, contains_filter, none_contained}

pub same_members-turned : {A : Type 0} (xs ys : List A) → SameMembers xs ys → SameMembers ys xs
same_members-turned xs ys same = record { forth = same.back; back = same.forth }

pub same_members-filter : {A : Type 0} (p : A → Bool) (xs ys : List A) → SameMembers xs ys → SameMembers (filter p xs) (filter p ys)
same_members-filter {A = A} p xs ys same = record { forth = half xs ys same.forth; back = half ys xs same.back }
  where
    half : (ms ns : List A) → AllByRecursion (Contains ns) ms → AllByRecursion (Contains (filter p ns)) (filter p ms)
    half ms ns all = AllByRecursion-map (λ x. Contains ns x × (p x ≡ true)) (Contains (filter p ns)) (filter p ms)
        (λ x h. contains_filter p ns x h.0 h.1)
        (AllByRecursion-both (Contains ns) (λ x. p x ≡ true) (filter p ms) (AllByRecursion-filter (Contains ns) p ms all) (filter_passes p ms))

pub rises_front : {A : Type 0} (below : A → A → Bool) (xs ys : List A) → Rises below (xs ++ ys) → Rises below xs
rises_front below [] ys rises = tt
rises_front below (x ∷ xs) ys rises = (AllByRecursion-front (λ y. below x y ≡ true) xs ys rises.0, rises_front below xs ys rises.1)

-- the last of a list that rises is above the others
pub rises_last : {A : Type 0} (below : A → A → Bool) (xs : List A) (y : A) → Rises below (xs ++ y ∷ []) → AllByRecursion (λ x. below x y ≡ true) xs
rises_last below [] y rises = tt
rises_last below (x ∷ xs) y rises = (AllByRecursion-at (λ z. below x z ≡ true) xs y [] rises.0, rises_last below xs y rises.1)

pub rises-filter : {A : Type 0} (below : A → A → Bool) (p : A → Bool) (xs : List A) → Rises below xs → Rises below (filter p xs)
rises-filter below p [] rises = tt
rises-filter below p (x ∷ xs) rises = elim (p x) as (λ b. Rises below (cond b (x ∷ filter p xs) (filter p xs))) [
  | true ↦ (AllByRecursion-filter (λ y. below x y ≡ true) p xs rises.0, rises-filter below p xs rises.1)
  | false ↦ rises-filter below p xs rises.1
]

-- the first that passes is dropped, where it alone is marked
pub found_dropped : {A : Type 0} (below : A → A → Bool) (p marks : A → Bool) (xs : List A) (x : A) → Ranks below → Rises below xs → find p xs ≡ Some x
    → marks x ≡ true → AllByRecursion (λ y. marks y ≡ true → y ≡ x) xs → filter (λ y. not (marks y)) (filter p xs) ≡ drop 1 (filter p xs)
found_dropped below p marks [] x ranks rises found marked one = absurd (none-some x found)
found_dropped {A = A} below p marks (z ∷ zs) x ranks rises found marked one =
    by_test (p z) found (λ h. found_dropped below p marks zs x ranks rises.1 h marked one.1)
  where
    unmarked : z ≡ x → (y : A) → (below z y ≡ true) × (marks y ≡ true → y ≡ x) → not (marks y) ≡ true
    unmarked is y h = not_from_false (marks y) (false_from_ne_true (marks y)
        (λ m. true≢false (sym (subst (λ w. below z w ≡ true) (h.1 m ∙ sym is) h.0) ∙ ranks.itself z)))

    by_test : (b : Bool) → cond b (Some z) (find p zs) ≡ Some x
        → (find p zs ≡ Some x → filter (λ y. not (marks y)) (filter p zs) ≡ drop 1 (filter p zs))
        → filter (λ y. not (marks y)) (cond b (z ∷ filter p zs) (filter p zs)) ≡ drop 1 (cond b (z ∷ filter p zs) (filter p zs))
    by_test true is rest =
        let same : z ≡ x = some-injective is in
        ap (λ b. cond (not b) (z ∷ filter (λ y. not (marks y)) (filter p zs)) (filter (λ y. not (marks y)) (filter p zs))) (ap marks same ∙ marked)
        ∙ filter_all (λ y. not (marks y)) (filter p zs) (AllByRecursion-filter (λ y. not (marks y) ≡ true) p zs
        (AllByRecursion-map (λ y. (below z y ≡ true) × (marks y ≡ true → y ≡ x)) (λ y. not (marks y) ≡ true) zs (unmarked same)
        (AllByRecursion-both (λ y. below z y ≡ true) (λ y. marks y ≡ true → y ≡ x) zs rises.0 one.1)))
    by_test false h rest = rest h

-- two of the same members begin with the same one
first_same : {A : Type 0} (below : A → A → Bool) → Ranks below → (x : A) (xs : List A) (y : A) (ys : List A)
    → AllByRecursion (λ z. below x z ≡ true) xs → AllByRecursion (λ z. below y z ≡ true) ys → Contains (y ∷ ys) x → Contains (x ∷ xs) y → x ≡ y
first_same {A = A} below ranks x xs y ys of_x of_y x_in y_in = by_side (contains_cases y ys x x_in) (contains_cases x xs y y_in)
  where
    by_side : (y ≡ x) ⊎ Contains ys x → (x ≡ y) ⊎ Contains xs y → x ≡ y
    by_side (inl is) other = sym is
    by_side (inr in_ys) (inl is) = is
    by_side (inr in_ys) (inr in_xs) =
        absurd (true≢false (sym (AllByRecursion-contains (λ z. below x z ≡ true) xs y of_x in_xs)
        ∙ ranks.one_way y x (AllByRecursion-contains (λ z. below y z ≡ true) ys x of_y in_ys)))

-- and what stands behind it has the same members
rest_same : {A : Type 0} (below : A → A → Bool) → Ranks below → (x : A) (xs ys : List A) → AllByRecursion (λ z. below x z ≡ true) xs
    → AllByRecursion (Contains (x ∷ ys)) xs → AllByRecursion (Contains ys) xs
rest_same {A = A} below ranks x xs ys of_x all = AllByRecursion-map (λ z. (below x z ≡ true) × Contains (x ∷ ys) z) (Contains ys) xs
    (λ z h. at_each z h.0 (contains_cases x ys z h.1)) (AllByRecursion-both (λ z. below x z ≡ true) (Contains (x ∷ ys)) xs of_x all)
  where
    at_each : (z : A) → below x z ≡ true → (x ≡ z) ⊎ Contains ys z → Contains ys z
    at_each z before (inl is) = absurd (true≢false (sym before ∙ subst (λ w. below x w ≡ false) is (ranks.itself x)))
    at_each z before (inr among) = among

-- two lists that rise and have the same members are one
pub rises_same : {A : Type 0} (below : A → A → Bool) → Ranks below → (xs ys : List A) → Rises below xs → Rises below ys → SameMembers xs ys → xs ≡ ys
rises_same below ranks [] [] of_xs of_ys same = refl
rises_same below ranks [] (y ∷ ys) of_xs of_ys same = absurd (none_contained y same.back.0)
rises_same below ranks (x ∷ xs) [] of_xs of_ys same = absurd (none_contained x same.forth.0)
rises_same {A = A} below ranks (x ∷ xs) (y ∷ ys) of_xs of_ys same =
    let is : x ≡ y = first_same below ranks x xs y ys of_xs.0 of_ys.0 same.forth.0 same.back.0 in
    ap (λ w. w ∷ xs) is ∙ ap (λ zs. y ∷ zs) (rises_same below ranks xs ys of_xs.1 of_ys.1 (record {
      forth = rest_same below ranks x xs ys of_xs.0 (subst (λ w. AllByRecursion (Contains (w ∷ ys)) xs) (sym is) same.forth.1);
      back = rest_same below ranks y ys xs of_ys.0 (subst (λ w. AllByRecursion (Contains (w ∷ xs)) ys) is same.back.1);
    }))

-- a sort of elements of which one goes before the other doesn't depend on how they stood
pub sort_same : {A : Type 0} (below : A → A → Bool) → Ranks below → (xs ys : List A) → Differ below xs → Differ below ys → SameMembers xs ys
    → sort_by below xs ≡ sort_by below ys
sort_same below ranks xs ys of_xs of_ys same =
    rises_same below ranks (sort_by below xs) (sort_by below ys) (rises-sort_by below ranks xs of_xs) (rises-sort_by below ranks ys of_ys)
    (same_members-trans (sort_by below xs) ys (sort_by below ys)
    (same_members-trans (sort_by below xs) xs ys (same_members-sort_by below xs) same)
    (same_members-turned (sort_by below ys) ys (same_members-sort_by below ys)))

-- a sort of what a filter keeps is what it keeps of the sort
pub sort_by-filter : {A : Type 0} (below : A → A → Bool) → Ranks below → (p : A → Bool) (xs : List A) → Differ below xs
    → sort_by below (filter p xs) ≡ filter p (sort_by below xs)
sort_by-filter below ranks p xs differ =
    rises_same below ranks (sort_by below (filter p xs)) (filter p (sort_by below xs))
    (rises-sort_by below ranks (filter p xs) (differ-filter below p xs differ))
    (rises-filter below p (sort_by below xs) (rises-sort_by below ranks xs differ))
    (same_members-trans (sort_by below (filter p xs)) (filter p xs) (filter p (sort_by below xs)) (same_members-sort_by below (filter p xs))
    (same_members-filter p xs (sort_by below xs) (same_members-turned (sort_by below xs) xs (same_members-sort_by below xs))))

-- one more at the end, or in front
pub same_members-push : {A : Type 0} (xs : List A) (y : A) → SameMembers (xs ++ y ∷ []) (y ∷ xs)
same_members-push xs y = record {
  forth = AllByRecursion-append (Contains (y ∷ xs)) xs (y ∷ [])
      (AllByRecursion-map (Contains xs) (Contains (y ∷ xs)) xs (λ z among. (suc among.0, omega (arith, among.1), among.2)) (AllByRecursion-contains_itself xs))
      ((zero, omega arith, refl), tt);
  back = (
    Contains-push xs y,
    AllByRecursion-map (Contains xs) (Contains (xs ++ y ∷ [])) xs (Contains-append_left xs (y ∷ [])) (AllByRecursion-contains_itself xs),
  );
}

pub map-insert_by : {A B : Type 0} (below : A → A → Bool) (above : B → B → Bool) (f : A → B) (x : A) (ys : List A)
    → ((a b : A) → below a b ≡ above (f a) (f b)) → map f (insert_by below x ys) ≡ insert_by above (f x) (map f ys)
map-insert_by below above f x [] same = refl
map-insert_by {A = A} {B = B} below above f x (y ∷ ys) same =
    by_test (below y x)
    ∙ ap (λ b. cond b (f y ∷ map f (insert_by below x ys)) (f x ∷ f y ∷ map f ys)) (same y x)
    ∙ ap (λ zs. cond (above (f y) (f x)) (f y ∷ zs) (f x ∷ f y ∷ map f ys)) (map-insert_by below above f x ys same)
  where
    by_test : (b : Bool) → map f (cond b (y ∷ insert_by below x ys) (x ∷ y ∷ ys)) ≡ cond b (f y ∷ map f (insert_by below x ys)) (f x ∷ f y ∷ map f ys)
    by_test true = refl
    by_test false = refl

pub length-insert_by : {A : Type 0} (below : A → A → Bool) (x : A) (ys : List A) → length (insert_by below x ys) ≡ length ys + 1
length-insert_by below x [] = refl
length-insert_by below x (y ∷ ys) = elim (below y x) as (λ b. length (cond b (y ∷ insert_by below x ys) (x ∷ y ∷ ys)) ≡ length (y ∷ ys) + 1) [
  | true ↦ let more : length (insert_by below x ys) ≡ length ys + 1 = length-insert_by below x ys in omega (arith, more)
  | false ↦ omega arith
]

-- a sort of one more at the end puts it into the sort of the others
pub sort_by-push : {A : Type 0} (below : A → A → Bool) → Ranks below → (xs : List A) (y : A) → Differ below xs
    → AllByRecursion (λ x. (below x y ≡ true) ⊎ (below y x ≡ true)) xs → sort_by below (xs ++ y ∷ []) ≡ insert_by below y (sort_by below xs)
sort_by-push {A = A} below ranks xs y differ apart = sort_same below ranks (xs ++ y ∷ []) (y ∷ xs) (differ-push below xs y differ apart)
    (AllByRecursion-map (λ x. (below x y ≡ true) ⊎ (below y x ≡ true)) (λ x. (below y x ≡ true) ⊎ (below x y ≡ true)) xs turned apart, differ)
    (same_members-push xs y)
  where
    turned : (x : A) → (below x y ≡ true) ⊎ (below y x ≡ true) → (below y x ≡ true) ⊎ (below x y ≡ true)
    turned x (inl h) = inr h
    turned x (inr h) = inl h
