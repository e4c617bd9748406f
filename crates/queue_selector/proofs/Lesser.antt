-- The least of a list, by the least of those that pass a test and the least of those that fail it.
-- Cited by `Choice`.
use Rattle.std.proofs.Common.{◌≡◌, Bool, true, false, cond, not, List, [], ◌∷◌}
use Rattle.std.proofs.Common.{refl, sym, ap, ◌∙◌, inl, inr, Option, Some, None, Contains, subst}
use Rattle.std.specs.Prelude.{◌⊎◌, filter}
use Rattle.std.specs.List.{AllByRecursion}
use Rattle.std.proofs.lemmas.Bool.{true≢false}
use Rattle.std.proofs.lemmas.List.Elements.{recursion_from_All, All-contains}
use Rattle.list_laws.specs.Lists.{least, IsLeast, Ranks}
use Rattle.list_laws.specs.Sorts.{sort_by, Differ}
use Rattle.list_laws.proofs.Elements.{AllByRecursion-map, AllByRecursion-both, AllByRecursion-contains}
use Rattle.list_laws.proofs.Elements.{AllByRecursion-contains_itself, unfiltered, AllByRecursion-filter}
use Rattle.list_laws.proofs.Least.{least_is_least, no_least}
use Rattle.list_laws.proofs.Sorts.{rises-sort_by, rises_apart, same_members-sort_by}

-- the lesser of the two that there are, the first one where they are alike
abbrev pub lesser : {A : Type 0} → (A → A → Bool) → Option A → Option A → Option A
lesser below None other = other
lesser below (Some a) None = Some a
lesser below (Some a) (Some b) = Some (cond (below b a) b a)

-- one of the list that none goes before is the least of it
only_least : {A : Type 0} (below : A → A → Bool) → Ranks below → (xs : List A) (x : A) → Differ below xs → Contains xs x
    → AllByRecursion (λ y. below y x ≡ false) xs → least below xs ≡ Some x
only_least {A = A} below ranks xs x differ member none_before = by_least (least below xs) refl
  where
    same : (z : A) → (x ≡ z) ⊎ ((below x z ≡ true) ⊎ (below z x ≡ true)) → below x z ≡ false → below z x ≡ false → Some z ≡ Some x
    same z (inl is) h k = ap Some (sym is)
    same z (inr (inl before)) h k = absurd (true≢false (sym before ∙ h))
    same z (inr (inr behind)) h k = absurd (true≢false (sym behind ∙ k))

    in_sort : (z : A) → Contains xs z → Contains (sort_by below xs) z
    in_sort z within = AllByRecursion-contains (Contains (sort_by below xs)) xs z (same_members-sort_by below xs).back within

    by_least : (o : Option A) → least below xs ≡ o → o ≡ Some x
    by_least None none = absurd (AllByRecursion-contains (λ y. ⊥) [] x tt (subst (λ l. Contains l x) (no_least below xs none) member))
    by_least (Some z) some =
        let it : IsLeast below xs z = least_is_least below ranks xs z some in
        same z (rises_apart below (sort_by below xs) x z (rises-sort_by below ranks xs differ) (in_sort x member) (in_sort z it.member))
        (All-contains (λ y. below y z ≡ false) xs x it.none_below member)
        (AllByRecursion-contains (λ y. below y x ≡ false) xs z none_before it.member)

-- what holds of those that pass and of those that fail holds of all
of_both : {A : Type 0} (P : A → Type 0) (p : A → Bool) (xs : List A) → AllByRecursion P (filter p xs) → AllByRecursion P (filter (λ x. not (p x)) xs)
    → AllByRecursion P xs
of_both {A = A} P p xs passing failing =
    AllByRecursion-map (λ x. (p x ≡ true → P x) × (not (p x) ≡ true → P x)) P xs (λ x h. by_test (p x) h.0 h.1)
    (AllByRecursion-both _ _ xs (unfiltered P p xs passing) (unfiltered P (λ x. not (p x)) xs failing))
  where
    by_test : {T : Type 0} (b : Bool) → (b ≡ true → T) → (not b ≡ true → T) → T
    by_test true h k = h refl
    by_test false h k = k refl

unfiltered_member : {A : Type 0} (p : A → Bool) (xs : List A) (x : A) → Contains (filter p xs) x → Contains xs x
unfiltered_member p xs x within =
    AllByRecursion-contains (Contains xs) (filter p xs) x (AllByRecursion-filter (Contains xs) p xs (AllByRecursion-contains_itself xs)) within

-- the least of a list, by those that pass a test and those that fail it
pub least-split : {A : Type 0} (below : A → A → Bool) → Ranks below → (p : A → Bool) (xs : List A) → Differ below xs
    → least below xs ≡ lesser below (least below (filter p xs)) (least below (filter (λ x. not (p x)) xs))
least-split {A = A} below ranks p xs differ = by_least (least below (filter p xs)) (least below (filter (λ x. not (p x)) xs)) refl refl
  where
    failing : A → Bool
    failing x = not (p x)

    none : (q : A → Bool) → least below (filter q xs) ≡ None → (P : A → Type 0) → AllByRecursion P (filter q xs)
    none q is P = subst (AllByRecursion P) (sym (no_least below (filter q xs) is)) tt

    least_of : (q : A → Bool) (x : A) → least below (filter q xs) ≡ Some x → IsLeast below (filter q xs) x
    least_of q x is = least_is_least below ranks (filter q xs) x is

    by_least : (o other : Option A) → least below (filter p xs) ≡ o → least below (filter failing xs) ≡ other → least below xs ≡ lesser below o other
    by_least None None no_pass no_fail =
        ap (least below) (empty xs (of_both (λ x. ⊥) p xs (none p no_pass _) (none failing no_fail _)))
      where
        empty : (ys : List A) → AllByRecursion (λ x. ⊥) ys → ys ≡ []
        empty [] all = refl
        empty (y ∷ ys) all = absurd all.0
    by_least None (Some b) no_pass fail =
        let it : IsLeast below (filter failing xs) b = least_of failing b fail in
        only_least below ranks xs b differ (unfiltered_member failing xs b it.member)
        (of_both _ p xs (none p no_pass _) (recursion_from_All _ (filter failing xs) it.none_below))
    by_least (Some a) None pass no_fail =
        let it : IsLeast below (filter p xs) a = least_of p a pass in
        only_least below ranks xs a differ (unfiltered_member p xs a it.member)
        (of_both _ p xs (recursion_from_All _ (filter p xs) it.none_below) (none failing no_fail _))
    by_least (Some a) (Some b) pass fail = two (below b a) refl (least_of p a pass) (least_of failing b fail)
      where
        two : (c : Bool) → below b a ≡ c → IsLeast below (filter p xs) a → IsLeast below (filter failing xs) b → least below xs ≡ Some (cond c b a)
        two true before of_a of_b = only_least below ranks xs b differ (unfiltered_member failing xs b of_b.member)
            (of_both (λ x. below x b ≡ false) p xs (AllByRecursion-map (λ x. below x a ≡ false) (λ x. below x b ≡ false) (filter p xs)
            (λ x h. ranks.through x a b h (ranks.one_way b a before)) (recursion_from_All _ (filter p xs) of_a.none_below))
            (recursion_from_All _ (filter failing xs) of_b.none_below))
        two false behind of_a of_b = only_least below ranks xs a differ (unfiltered_member p xs a of_a.member)
            (of_both (λ x. below x a ≡ false) p xs (recursion_from_All _ (filter p xs) of_a.none_below)
            (AllByRecursion-map (λ x. below x b ≡ false) (λ x. below x a ≡ false) (filter failing xs)
            (λ x h. ranks.through x b a h behind) (recursion_from_All _ (filter failing xs) of_b.none_below)))
