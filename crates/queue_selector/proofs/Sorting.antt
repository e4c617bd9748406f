-- A sorted list, when one element more is among those that are sorted.
-- Cited by `FrontSet::insert`, `Again`, `Choice`, `Held`, `Moves`.
use Rattle.std.proofs.Common.{◌≡◌, suc, ◌+◌, Bool, true, false, cond, List, [], ◌∷◌, ◌++◌}
use Rattle.std.proofs.Common.{take, drop, refl, sym, ap, ◌∙◌, inl, inr, arith}
use Rattle.std.specs.Prelude.{◌⊎◌, filter, find, slice_get}
use Rattle.std.specs.List.{AllByRecursion, prefix_len}
use Rattle.list_laws.specs.Lists.{least, Ranks}
use Rattle.list_laws.specs.Sorts.{insert_by, sort_by, Differ}
use Rattle.list_laws.proofs.Elements.{AllByRecursion-append, AllByRecursion-front, AllByRecursion-back}
use Rattle.list_laws.proofs.Filters.{filter_always}
use Rattle.list_laws.proofs.Sorts.{least_is_first, rises-sort_by, same_members-sort_by, insert_by-insert_by}

-- one of the two goes before the other
abbrev pub Apart : {A : Type 0} → (A → A → Bool) → A → A → Type 0
Apart below a b = (below a b ≡ true) ⊎ (below b a ≡ true)

-- an element in the midst is put into the sort of the others
pub sort_by-seam : {A : Type 0} (below : A → A → Bool) → Ranks below → (xs : List A) (x : A) (ys : List A) → AllByRecursion (Apart below x) xs
    → sort_by below (xs ++ x ∷ ys) ≡ insert_by below x (sort_by below (xs ++ ys))
sort_by-seam below ranks [] x ys apart = refl
sort_by-seam {A = A} below ranks (z ∷ xs) x ys apart =
    ap (insert_by below z) (sort_by-seam below ranks xs x ys apart.1) ∙ turned apart.0 (sort_by below (xs ++ ys))
  where
    turned : Apart below x z → (zs : List A) → insert_by below z (insert_by below x zs) ≡ insert_by below x (insert_by below z zs)
    turned (inl before) zs = sym (insert_by-insert_by below ranks x z zs before)
    turned (inr behind) zs = insert_by-insert_by below ranks z x zs behind

pub differ-seam : {A : Type 0} (below : A → A → Bool) (xs : List A) (x : A) (ys : List A) → Differ below (xs ++ ys)
    → AllByRecursion (Apart below x) (xs ++ ys) → Differ below (xs ++ x ∷ ys)
differ-seam below [] x ys differ apart = (apart, differ)
differ-seam {A = A} below (z ∷ xs) x ys differ apart = (
  AllByRecursion-append (Apart below z) xs (x ∷ ys) (AllByRecursion-front (Apart below z) xs ys differ.0)
      (turned apart.0, AllByRecursion-back (Apart below z) xs ys differ.0),
  differ-seam below xs x ys differ.1 apart.1,
)
  where
    turned : Apart below x z → Apart below z x
    turned (inl before) = inr before
    turned (inr behind) = inl behind

pub differ-unseam : {A : Type 0} (below : A → A → Bool) (xs : List A) (x : A) (ys : List A) → Differ below (xs ++ x ∷ ys)
    → Differ below (xs ++ ys) × AllByRecursion (Apart below x) (xs ++ ys)
differ-unseam below [] x ys differ = (differ.1, differ.0)
differ-unseam {A = A} below (z ∷ xs) x ys differ =
    let behind : AllByRecursion (Apart below z) (x ∷ ys) = AllByRecursion-back (Apart below z) xs (x ∷ ys) differ.0 in
    let rest : Differ below (xs ++ ys) × AllByRecursion (Apart below x) (xs ++ ys) = differ-unseam below xs x ys differ.1 in (
      (AllByRecursion-append (Apart below z) xs ys (AllByRecursion-front (Apart below z) xs (x ∷ ys) differ.0) behind.1, rest.0),
      (turned behind.0, rest.1),
    )
  where
    turned : Apart below z x → Apart below x z
    turned (inl before) = inr before
    turned (inr behind) = inl behind

-- what is put in stands behind those in front that go before it
pub insert_by-place : {A : Type 0} (below : A → A → Bool) (x : A) (ys : List A)
    → insert_by below x ys ≡ take (prefix_len (λ y. below y x) ys) ys ++ x ∷ drop (prefix_len (λ y. below y x) ys) ys
insert_by-place below x [] = refl
insert_by-place {A = A} below x (y ∷ ys) = by_order (below y x) (insert_by-place below x ys)
  where
    by_order : (b : Bool) → insert_by below x ys ≡ take (prefix_len (λ y. below y x) ys) ys ++ x ∷ drop (prefix_len (λ y. below y x) ys) ys
        → cond b (y ∷ insert_by below x ys) (x ∷ y ∷ ys)
        ≡ take (cond b (1 + prefix_len (λ y. below y x) ys) 0) (y ∷ ys) ++ x ∷ drop (cond b (1 + prefix_len (λ y. below y x) ys) 0) (y ∷ ys)
    by_order true rest =
        let next : 1 + prefix_len (λ y. below y x) ys ≡ suc (prefix_len (λ y. below y x) ys) = omega arith in
        ap (λ l. y ∷ l) rest ∙ sym (ap (λ n. take n (y ∷ ys) ++ x ∷ drop n (y ∷ ys)) next)
    by_order false rest = refl

-- a test that it fails doesn't see it
pub filter-insert_by : {A : Type 0} (p : A → Bool) (below : A → A → Bool) (x : A) (ys : List A) → p x ≡ false → filter p (insert_by below x ys) ≡ filter p ys
filter-insert_by p below x [] fails = rw fails refl
filter-insert_by p below x (y ∷ ys) fails = elim (below y x) as (λ b. filter p (cond b (y ∷ insert_by below x ys) (x ∷ y ∷ ys)) ≡ filter p (y ∷ ys)) [
  | true ↦ ap (λ l. cond (p y) (y ∷ l) l) (filter-insert_by p below x ys fails)
  | false ↦ ap (λ b. cond b (x ∷ filter p (y ∷ ys)) (filter p (y ∷ ys))) fails
]

-- the first of a sort is the least
pub first_sorted : {A : Type 0} (below : A → A → Bool) → Ranks below → (xs : List A) → Differ below xs → slice_get (sort_by below xs) 0 ≡ least below xs
first_sorted {A = A} below ranks xs differ =
    first (sort_by below xs)
    ∙ sym (least_is_first below (λ x. true) xs (sort_by below xs) ranks (rises-sort_by below ranks xs differ) (same_members-sort_by below xs))
    ∙ ap (least below) (filter_always (λ x. true) xs (λ x. refl))
  where
    first : (ys : List A) → slice_get ys 0 ≡ find (λ x. true) ys
    first [] = refl
    first (y ∷ ys) = refl
