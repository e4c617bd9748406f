-- A sort keeps the elements and puts them in order; the first of a list that rises is its least.
-- Cited by `Rises`, `delayed_manager`, `nested_loop`, `pool_core`, `pool_laws`, `queue_laws`, `queue_selector`, `sequence_manager`,
-- `situation`, `work_queue`.
use Rattle.std.proofs.Common.{◌≡◌, ◌+◌, Bool, true, false, cond, List, [], ◌∷◌, ◌++◌, length, map}
use Rattle.std.proofs.Common.{refl, sym, ap, ◌∙◌, Option, Some, None, inl, inr, arith, subst}
use Rattle.std.specs.Prelude.{◌⊎◌, filter, find, Contains}
use Rattle.std.specs.List.{AllByRecursion}
use Rattle.std.proofs.lemmas.List.Elements.{All-contains}
use Rattle.std.proofs.lemmas.Bool.{true≢false}
use Rattle.std.proofs.lemmas.Option.{none-some}
use Rattle.list_laws.specs.Lists.{count, least, Ranks}
use Rattle.list_laws.specs.Sorts.{insert_by, sort_by, Rises, Differ, SameMembers}
use Rattle.list_laws.proofs.Values.{some-injective}
use Rattle.list_laws.proofs.Elements.{AllByRecursion-map, AllByRecursion-both, AllByRecursion-append, AllByRecursion-filter, unfiltered}
use Rattle.list_laws.proofs.Elements.{AllByRecursion-contains, AllByRecursion-contains_itself, AllByRecursion-through}
use Rattle.list_laws.proofs.Filters.{filter_always, filter_none, filter_passes}
use Rattle.list_laws.proofs.Tests.{find-none}
use Rattle.list_laws.proofs.Counts.{count-cons}
use Rattle.list_laws.proofs.Ranks.{ranks-trans}
use Rattle.list_laws.proofs.Least.{least_is_least}

-- of what x is put into, all hold where x and the rest do
pub AllByRecursion-insert_by : {A : Type 0} (P : A → Type 0) (below : A → A → Bool) (x : A) (ys : List A) → P x → AllByRecursion P ys
    → AllByRecursion P (insert_by below x ys)
AllByRecursion-insert_by P below x [] here all = (here, tt)
AllByRecursion-insert_by P below x (y ∷ ys) here all = elim (below y x) as (λ b. AllByRecursion P (cond b (y ∷ insert_by below x ys) (x ∷ y ∷ ys))) [
  | true ↦ (all.0, AllByRecursion-insert_by P below x ys here all.1)
  | false ↦ (here, all)
]

AllByRecursion-inserted : {A : Type 0} (P : A → Type 0) (below : A → A → Bool) (x : A) (ys : List A) → AllByRecursion P (insert_by below x ys)
    → P x × AllByRecursion P ys
AllByRecursion-inserted P below x [] all = all
AllByRecursion-inserted {A = A} P below x (y ∷ ys) all = by_order (below y x) all (AllByRecursion-inserted P below x ys)
  where
    by_order : (b : Bool) → AllByRecursion P (cond b (y ∷ insert_by below x ys) (x ∷ y ∷ ys))
        → (AllByRecursion P (insert_by below x ys) → P x × AllByRecursion P ys) → P x × AllByRecursion P (y ∷ ys)
    by_order true h rest = ((rest h.1).0, (h.0, (rest h.1).1))
    by_order false h rest = h

pub AllByRecursion-sort_by : {A : Type 0} (P : A → Type 0) (below : A → A → Bool) (xs : List A) → AllByRecursion P xs → AllByRecursion P (sort_by below xs)
AllByRecursion-sort_by P below [] all = tt
AllByRecursion-sort_by P below (x ∷ xs) all = AllByRecursion-insert_by P below x (sort_by below xs) all.0 (AllByRecursion-sort_by P below xs all.1)

pub AllByRecursion-sorted : {A : Type 0} (P : A → Type 0) (below : A → A → Bool) (xs : List A) → AllByRecursion P (sort_by below xs) → AllByRecursion P xs
AllByRecursion-sorted P below [] all = tt
AllByRecursion-sorted P below (x ∷ xs) all =
    let both : P x × AllByRecursion P (sort_by below xs) = AllByRecursion-inserted P below x (sort_by below xs) all in
    (both.0, AllByRecursion-sorted P below xs both.1)

count-insert_by : {A : Type 0} (p : A → Bool) (below : A → A → Bool) (x : A) (ys : List A) → count p (insert_by below x ys) ≡ count p (x ∷ ys)
count-insert_by p below x [] = refl
count-insert_by p below x (y ∷ ys) = elim (below y x) as (λ b. count p (cond b (y ∷ insert_by below x ys) (x ∷ y ∷ ys)) ≡ count p (x ∷ y ∷ ys)) [
  | true ↦
      let inserted : count p (insert_by below x ys) ≡ count p (x ∷ ys) = count-insert_by p below x ys in
      omega (arith, inserted, count-cons p y (insert_by below x ys), count-cons p x ys, count-cons p x (y ∷ ys), count-cons p y ys)
  | false ↦ refl
]

pub count-sort_by : {A : Type 0} (p : A → Bool) (below : A → A → Bool) (xs : List A) → count p (sort_by below xs) ≡ count p xs
count-sort_by p below [] = refl
count-sort_by p below (x ∷ xs) =
    count-insert_by p below x (sort_by below xs)
    ∙ count-cons p x (sort_by below xs)
    ∙ ap (λ n. n + cond (p x) 1 0) (count-sort_by p below xs)
    ∙ sym (count-cons p x xs)

pub length-sort_by : {A : Type 0} (below : A → A → Bool) (xs : List A) → length (sort_by below xs) ≡ length xs
length-sort_by below xs =
    ap length (sym (filter_always (λ x. true) (sort_by below xs) (λ x. refl)))
    ∙ count-sort_by (λ x. true) below xs
    ∙ ap length (filter_always (λ x. true) xs (λ x. refl))

pub same_members-sort_by : {A : Type 0} (below : A → A → Bool) (xs : List A) → SameMembers (sort_by below xs) xs
same_members-sort_by below xs = record {
  forth = AllByRecursion-sort_by (Contains xs) below xs (AllByRecursion-contains_itself xs);
  back = AllByRecursion-sorted (Contains (sort_by below xs)) below xs (AllByRecursion-contains_itself (sort_by below xs));
}

rises-insert_by : {A : Type 0} (below : A → A → Bool) → Ranks below → (x : A) (ys : List A)
    → AllByRecursion (λ y. (below x y ≡ true) ⊎ (below y x ≡ true)) ys → Rises below ys → Rises below (insert_by below x ys)
rises-insert_by below ranks x [] differ rises = (tt, tt)
rises-insert_by {A = A} below ranks x (y ∷ ys) differ rises = by_order (below y x) refl (rises-insert_by below ranks x ys differ.1 rises.1)
  where
    first : below y x ≡ false → (below x y ≡ true) ⊎ (below y x ≡ true) → below x y ≡ true
    first not (inl before) = before
    first not (inr behind) = absurd (true≢false (sym behind ∙ not))

    behind : below x y ≡ true → (zs : List A) → AllByRecursion (λ z. below y z ≡ true) zs → AllByRecursion (λ z. below x z ≡ true) zs
    behind before [] all = tt
    behind before (z ∷ zs) all = (ranks-trans below ranks x y z before all.0, behind before zs all.1)

    by_order : (b : Bool) → below y x ≡ b → Rises below (insert_by below x ys) → Rises below (cond b (y ∷ insert_by below x ys) (x ∷ y ∷ ys))
    by_order true is rest = (AllByRecursion-insert_by (λ z. below y z ≡ true) below x ys is rises.0, rest)
    by_order false is rest = ((first is differ.0, behind (first is differ.0) ys rises.0), rises)

-- a sort of elements of which one goes before the other rises
pub rises-sort_by : {A : Type 0} (below : A → A → Bool) → Ranks below → (xs : List A) → Differ below xs → Rises below (sort_by below xs)
rises-sort_by below ranks [] differ = tt
rises-sort_by below ranks (x ∷ xs) differ = rises-insert_by below ranks x (sort_by below xs)
    (AllByRecursion-sort_by (λ y. (below x y ≡ true) ⊎ (below y x ≡ true)) below xs differ.0) (rises-sort_by below ranks xs differ.1)

-- a rising list behind another, all of which goes before it
pub rises-append : {A : Type 0} (below : A → A → Bool) (xs ys : List A) → Rises below xs → Rises below ys
    → AllByRecursion (λ x. AllByRecursion (λ y. below x y ≡ true) ys) xs → Rises below (xs ++ ys)
rises-append below [] ys of_xs of_ys before = of_ys
rises-append below (x ∷ xs) ys of_xs of_ys before = (
  AllByRecursion-append (λ y. below x y ≡ true) xs ys of_xs.0 before.0,
  rises-append below xs ys of_xs.1 of_ys before.1,
)

-- the two are one, or one goes before the other
abbrev Apart : {A : Type 0} → (A → A → Bool) → A → A → Type 0
Apart below a b = (a ≡ b) ⊎ ((below a b ≡ true) ⊎ (below b a ≡ true))

-- of two elements of a rising list one goes before the other, or they are one
pub rises_apart : {A : Type 0} (below : A → A → Bool) (xs : List A) (a b : A) → Rises below xs → Contains xs a → Contains xs b
    → (a ≡ b) ⊎ ((below a b ≡ true) ⊎ (below b a ≡ true))
rises_apart {A = A} below xs a b rises of_a of_b = AllByRecursion-contains (Apart below a) xs b
    (AllByRecursion-contains (λ x. AllByRecursion (Apart below x) xs) xs a
    (all xs rises) of_a) of_b
  where
    all : (ys : List A) → Rises below ys → AllByRecursion (λ x. AllByRecursion (Apart below x) ys) ys
    all [] rising = tt
    all (y ∷ ys) rising = (
      (inl refl, AllByRecursion-map (λ z. below y z ≡ true) (Apart below y) ys (λ z before. inr (inl before)) rising.0),
      AllByRecursion-map (λ z. (below y z ≡ true) × AllByRecursion (Apart below z) ys) (λ z. AllByRecursion (Apart below z) (y ∷ ys)) ys
          (λ z h. (inr (inr h.0), h.1))
          (AllByRecursion-both (λ z. below y z ≡ true) (λ z. AllByRecursion (Apart below z) ys) ys rising.0 (all ys rising.1)),
    )

pub rises-map : {A B : Type 0} (below : A → A → Bool) (above : B → B → Bool) (f : A → B) (xs : List A)
    → ((a b : A) → below a b ≡ true → above (f a) (f b) ≡ true) → Rises below xs → Rises above (map f xs)
rises-map below above f [] h rises = tt
rises-map {A = A} below above f (x ∷ xs) h rises = (over xs rises.0, rises-map below above f xs h rises.1)
  where
    over : (ys : List A) → AllByRecursion (λ y. below x y ≡ true) ys → AllByRecursion (λ z. above (f x) z ≡ true) (map f ys)
    over [] all = tt
    over (y ∷ ys) all = (h x y all.0, over ys all.1)

pub differ-filter : {A : Type 0} (below : A → A → Bool) (p : A → Bool) (xs : List A) → Differ below xs → Differ below (filter p xs)
differ-filter below p [] differ = tt
differ-filter below p (x ∷ xs) differ = elim (p x) as (λ b. Differ below (cond b (x ∷ filter p xs) (filter p xs))) [
  | true ↦ (AllByRecursion-filter (λ y. (below x y ≡ true) ⊎ (below y x ≡ true)) p xs differ.0, differ-filter below p xs differ.1)
  | false ↦ differ-filter below p xs differ.1
]

pub differ-push : {A : Type 0} (below : A → A → Bool) (xs : List A) (y : A) → Differ below xs
    → AllByRecursion (λ x. (below x y ≡ true) ⊎ (below y x ≡ true)) xs → Differ below (xs ++ y ∷ [])
differ-push below [] y differ last = (tt, tt)
differ-push below (x ∷ xs) y differ last = (
  AllByRecursion-append (λ z. (below x z ≡ true) ⊎ (below z x ≡ true)) xs (y ∷ []) differ.0 (last.0, tt),
  differ-push below xs y differ.1 last.1,
)

-- what is found passes, is of the list, and goes before all others that pass
find-some : {A : Type 0} (below : A → A → Bool) (p : A → Bool) (P : A → Type 0) (xs : List A) (x : A) → Rises below xs → find p xs ≡ Some x
    → AllByRecursion P xs → P x × (p x ≡ true) × AllByRecursion (λ y. p y ≡ true → (x ≡ y) ⊎ (below x y ≡ true)) xs
find-some below p P [] x rises some all = absurd (none-some x some)
find-some {A = A} below p P (z ∷ zs) x rises some all = by_test (p z) refl some (λ h. find-some below p P zs x rises.1 h all.1)
  where
    behind : z ≡ x → (ys : List A) → AllByRecursion (λ y. below z y ≡ true) ys → AllByRecursion (λ y. p y ≡ true → (x ≡ y) ⊎ (below x y ≡ true)) ys
    behind is [] h = tt
    behind is (y ∷ ys) h = ((λ passes. inr (subst (λ w. below w y ≡ true) is h.0)), behind is ys h.1)

    by_test : (b : Bool) → p z ≡ b → cond b (Some z) (find p zs) ≡ Some x
        → (find p zs ≡ Some x → P x × (p x ≡ true) × AllByRecursion (λ y. p y ≡ true → (x ≡ y) ⊎ (below x y ≡ true)) zs)
        → P x × (p x ≡ true) × AllByRecursion (λ y. p y ≡ true → (x ≡ y) ⊎ (below x y ≡ true)) (z ∷ zs)
    by_test true is h rest =
        let same : z ≡ x = some-injective h in
        (subst P same all.0, subst (λ w. p w ≡ true) same is, ((λ passes. inl (sym same)), behind same zs rises.0))
    by_test false is h rest = ((rest h).0, (rest h).1, ((λ passes. absurd (true≢false (sym passes ∙ is))), (rest h).2))

-- the least of what passes a test is the first of the same elements in a list that rises
pub least_is_first : {A : Type 0} (below : A → A → Bool) (p : A → Bool) (xs ys : List A) → Ranks below → Rises below ys → SameMembers ys xs
    → least below (filter p xs) ≡ find p ys
least_is_first {A = A} below p xs ys ranks rises same = by_found (find p ys) refl
  where
    found : (y : A) → find p ys ≡ Some y → least below (filter p xs) ≡ Some y
    found y is =
        let of_y : Contains xs y × (p y ≡ true)
        × AllByRecursion (λ z. p z ≡ true → (y ≡ z) ⊎ (below y z ≡ true)) ys = find-some below p (Contains xs) ys y rises is same.forth in
        at of_y.1 (kept of_y.0 of_y.1) (AllByRecursion-through (λ z. p z ≡ true → (y ≡ z) ⊎ (below y z ≡ true)) xs ys same.back of_y.2)
        (least below (filter p xs)) refl
      where
        kept : Contains xs y → p y ≡ true → Contains (filter p xs) y
        kept member = AllByRecursion-contains (λ z. p z ≡ true → Contains (filter p xs) z) xs y
            (unfiltered (Contains (filter p xs)) p xs (AllByRecursion-contains_itself (filter p xs))) member

        equal : (z : A) → (y ≡ z) ⊎ (below y z ≡ true) → below y z ≡ false → Some z ≡ Some y
        equal z (inl is_y) not = ap Some (sym is_y)
        equal z (inr before) not = absurd (true≢false (sym before ∙ not))

        at : p y ≡ true → Contains (filter p xs) y → AllByRecursion (λ z. p z ≡ true → (y ≡ z) ⊎ (below y z ≡ true)) xs
            → (o : Option A) → least below (filter p xs) ≡ o → least below (filter p xs) ≡ Some y
        at passes member all None none = absurd (empty (filter p xs) member none)
          where
            empty : (zs : List A) → Contains zs y → least below zs ≡ None → ⊥
            empty [] contained none_of = AllByRecursion-contains (λ z. ⊥) [] y tt contained
            empty (z ∷ zs) contained none_of = none-some _ (sym none_of)
        at passes member all (Some z) some =
            some ∙ equal z
            (AllByRecursion-contains (λ w. (y ≡ w) ⊎ (below y w ≡ true)) (filter p xs) z kept_all (least_is_least below ranks (filter p xs) z some).member)
            (All-contains (λ w. below w z ≡ false) (filter p xs) y (least_is_least below ranks (filter p xs) z some).none_below member)
          where
            pass : (ws : List A) → AllByRecursion (λ w. (p w ≡ true → (y ≡ w) ⊎ (below y w ≡ true)) × (p w ≡ true)) ws
                → AllByRecursion (λ w. (y ≡ w) ⊎ (below y w ≡ true)) ws
            pass [] h = tt
            pass (w ∷ ws) h = (h.0.0 h.0.1, pass ws h.1)

            kept_all : AllByRecursion (λ w. (y ≡ w) ⊎ (below y w ≡ true)) (filter p xs)
            kept_all = pass (filter p xs)
                (AllByRecursion-both (λ w. p w ≡ true → (y ≡ w) ⊎ (below y w ≡ true)) (λ w. p w ≡ true) (filter p xs)
                (AllByRecursion-filter (λ w. p w ≡ true → (y ≡ w) ⊎ (below y w ≡ true)) p xs all) (filter_passes p xs))

    fails : find p ys ≡ None → least below (filter p xs) ≡ None
    fails none = ap (least below) (filter_none p xs (AllByRecursion-through (λ x. p x ≡ false) xs ys same.back (find-none p ys none)))

    by_found : (o : Option A) → find p ys ≡ o → least below (filter p xs) ≡ find p ys
    by_found None none = fails none ∙ sym none
    by_found (Some y) some = found y some ∙ sym some

-- where a goes before b, it doesn't matter which of them is put in first
pub insert_by-insert_by : {A : Type 0} (below : A → A → Bool) → Ranks below → (a b : A) (xs : List A) → below a b ≡ true
    → insert_by below a (insert_by below b xs) ≡ insert_by below b (insert_by below a xs)
insert_by-insert_by below ranks a b [] less = simp (less, ranks.one_way a b less)
insert_by-insert_by {A = A} below ranks a b (x ∷ xs) less = by_order (below x a) (below x b) refl refl (insert_by-insert_by below ranks a b xs less)
  where
    by_order : (s t : Bool) → below x a ≡ s → below x b ≡ t → insert_by below a (insert_by below b xs) ≡ insert_by below b (insert_by below a xs)
        → insert_by below a (insert_by below b (x ∷ xs)) ≡ insert_by below b (insert_by below a (x ∷ xs))
    by_order true true of_a of_b rest = simp (of_a, of_b) (ap (λ l. x ∷ l) rest)
    by_order true false of_a of_b rest = absurd (true≢false (sym (ranks-trans below ranks x a b of_a less) ∙ of_b))
    by_order false true of_a of_b rest = simp (of_a, of_b, less)
    by_order false false of_a of_b rest = simp (of_a, of_b, less, ranks.one_way a b less)
