-- A sort by an order in which of any two different elements one goes before the other doesn't depend on how they stood.
-- Cited by `Heap`.
use Rattle.std.proofs.Common.{◌≡◌, ℕ, zero, suc, ◌<◌, Bool, true, false, cond, List, [], ◌∷◌, length}
use Rattle.std.proofs.Common.{get_or, set, drop, refl, sym, ap, ◌∙◌, inl, inr, arith, subst}
use Rattle.std.specs.Prelude.{◌⊎◌, IsPermutation, swap}
use Rattle.std.specs.List.{AllByRecursion}
use Rattle.std.proofs.lemmas.Bool.{true≢false, cases_eq}
use Rattle.std.proofs.lemmas.List.{length-set, get_or-set_same, get_or-set_other}
use Rattle.std.proofs.lemmas.List.Sorted.{IsPermutation-keeps}
use Rattle.list_laws.specs.Lists.{Ranks}
use Rattle.list_laws.specs.Sorts.{insert_by, sort_by}
use Rattle.list_laws.proofs.Sorts.{insert_by-insert_by}

-- of any two different elements one goes before the other
pub record Orders {A : Type 0} (below : A → A → Bool) : Type 0 where
  pub ranks : Ranks below
  pub apart : (a b : A) → (a ≡ b) ⊎ ((below a b ≡ true) ⊎ (below b a ≡ true))

-- where x stands first
pub insert-before : {A : Type 0} (below : A → A → Bool) (x y : A) (ys : List A) → below y x ≡ false → insert_by below x (y ∷ ys) ≡ x ∷ y ∷ ys
insert-before below x y ys is = ap (λ b. cond b (y ∷ insert_by below x ys) (x ∷ y ∷ ys)) is

-- two elements may be put in in either order
insert-insert : {A : Type 0} (below : A → A → Bool) → Orders below → (x y : A) (zs : List A)
    → insert_by below x (insert_by below y zs) ≡ insert_by below y (insert_by below x zs)
insert-insert {A = A} below orders x y zs = by_apart (orders.apart x y)
  where
    by_apart : (x ≡ y) ⊎ ((below x y ≡ true) ⊎ (below y x ≡ true)) → insert_by below x (insert_by below y zs) ≡ insert_by below y (insert_by below x zs)
    by_apart (inl same) = ap (λ w. insert_by below w (insert_by below y zs)) same ∙ sym (ap (λ w. insert_by below y (insert_by below w zs)) same)
    by_apart (inr (inl before)) = insert_by-insert_by below orders.ranks x y zs before
    by_apart (inr (inr before)) = sym (insert_by-insert_by below orders.ranks y x zs before)

pub length-insert_by : {A : Type 0} (below : A → A → Bool) (x : A) (ys : List A) → length (insert_by below x ys) ≡ suc (length ys)
length-insert_by below x [] = refl
length-insert_by below x (y ∷ ys) = elim (below y x) as (λ b. length (cond b (y ∷ insert_by below x ys) (x ∷ y ∷ ys)) ≡ suc (suc (length ys))) [
  | true ↦ ap suc (length-insert_by below x ys)
  | false ↦ refl
]

-- what was put in can be taken out again
insert-injective : {A : Type 0} (below : A → A → Bool) → Ranks below → (x : A) (ys zs : List A) → insert_by below x ys ≡ insert_by below x zs → ys ≡ zs
insert-injective below ranks x [] [] same = refl
insert-injective below ranks x [] (z ∷ zs) same = absurd (omega (arith, ap length same, length-insert_by below x (z ∷ zs)))
insert-injective below ranks x (y ∷ ys) [] same = absurd (omega (arith, ap length same, length-insert_by below x (y ∷ ys)))
insert-injective {A = A} below ranks x (y ∷ ys) (z ∷ zs) same = by_order (below y x) (below z x) refl refl same (insert-injective below ranks x ys zs)
  where
    by_order : (b c : Bool) → below y x ≡ b → below z x ≡ c
        → cond b (y ∷ insert_by below x ys) (x ∷ y ∷ ys) ≡ cond c (z ∷ insert_by below x zs) (x ∷ z ∷ zs)
        → (insert_by below x ys ≡ insert_by below x zs → ys ≡ zs) → y ∷ ys ≡ z ∷ zs
    by_order true true yx zx is rest = ap (λ w. w ∷ ys) (ap (λ l. get_or l 0 x) is) ∙ ap (λ l. z ∷ l) (rest (ap (drop 1) is))
    by_order false false yx zx is rest = ap (drop 1) is
    by_order true false yx zx is rest =
        absurd (true≢false (sym (subst (λ w. below w x ≡ true) (ap (λ l. get_or l 0 x) is) yx) ∙ ranks.itself x))
    by_order false true yx zx is rest =
        absurd (true≢false (sym (subst (λ w. below w x ≡ true) (sym (ap (λ l. get_or l 0 x) is)) zx) ∙ ranks.itself x))

-- one element changes places with one from outside
sort-set : {A : Type 0} (below : A → A → Bool) → Orders below → (xs : List A) (i : ℕ) (y d : A) → i < length xs
    → insert_by below (get_or xs i d) (sort_by below (set xs i y)) ≡ insert_by below y (sort_by below xs)
sort-set below orders [] i y d less = absurd (omega (arith, less))
sort-set below orders (x ∷ xs) zero y d less = insert-insert below orders x y (sort_by below xs)
sort-set below orders (x ∷ xs) (suc i) y d less =
    insert-insert below orders (get_or xs i d) x (sort_by below (set xs i y))
    ∙ ap (insert_by below x) (sort-set below orders xs i y d (omega (arith, less)))
    ∙ insert-insert below orders x y (sort_by below xs)

-- a sort doesn't see a swap
sort-swap : {A : Type 0} (below : A → A → Bool) → Orders below → (xs : List A) (i j : ℕ) → i < length xs → j < length xs
    → sort_by below (swap xs i j) ≡ sort_by below xs
sort-swap below orders [] i j of_i of_j = refl
sort-swap {A = A} below orders (d ∷ ds) i j of_i of_j =
    insert-injective below orders.ranks b (sort_by below (set (set xs i b) j a)) (sort_by below xs)
    (ap (λ w. insert_by below w (sort_by below (set (set xs i b) j a))) (sym moved)
    ∙ sort-set below orders (set xs i b) j a d (rw (length-set xs i b) of_j)
    ∙ sort-set below orders xs i b d of_i)
  where
    xs : List A
    xs = d ∷ ds

    a : A
    a = get_or xs i d

    b : A
    b = get_or xs j d

    moved : get_or (set xs i b) j d ≡ b
    moved = by_equal (cases_eq j i)
      where
        by_equal : (j ≡ i) ⊎ (j ≡ i → ⊥) → get_or (set xs i b) j d ≡ b
        by_equal (inl same) = ap (λ k. get_or (set xs i b) k d) same ∙ get_or-set_same xs i b d of_i
        by_equal (inr other) = get_or-set_other xs i j b d other

-- a sort doesn't see in which order the elements stood
pub sort-permutation : {A : Type 0} (below : A → A → Bool) → Orders below → (xs ys : List A) → IsPermutation xs ys → sort_by below ys ≡ sort_by below xs
sort-permutation below orders xs ys moved = IsPermutation-keeps xs (λ l. sort_by below l ≡ sort_by below xs) refl
    (λ l i j of_i of_j same. sort-swap below orders l i j of_i of_j ∙ same) ys moved

-- an element that none of a list goes before is put in first
pub insert_least : {A : Type 0} (below : A → A → Bool) (x : A) (ys : List A) → AllByRecursion (λ y. below y x ≡ false) ys → insert_by below x ys ≡ x ∷ ys
insert_least below x [] none = refl
insert_least below x (y ∷ ys) none = insert-before below x y ys none.0

-- two orders that agree on x and each element of a list put x in alike
pub insert_alike : {A : Type 0} (p q : A → A → Bool) (x : A) (ys : List A) → AllByRecursion (λ y. p y x ≡ q y x) ys → insert_by p x ys ≡ insert_by q x ys
insert_alike p q x [] same = refl
insert_alike p q x (y ∷ ys) same =
    ap (λ b. cond b (y ∷ insert_by p x ys) (x ∷ y ∷ ys)) same.0 ∙ ap (λ l. cond (q y x) (y ∷ l) (x ∷ y ∷ ys)) (insert_alike p q x ys same.1)
