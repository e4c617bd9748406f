-- Lists of the same elements.
-- Cited by `Rises`, `pool_laws`, `queue_laws`.
use Rattle.std.proofs.Common.{◌≡◌, List, [], ◌∷◌, ◌++◌, map, refl, sym, Option, Some, None}
use Rattle.std.specs.Prelude.{Contains}
use Rattle.std.specs.Option.{option_or}
use Rattle.std.specs.List.{filter_map, cons_option, AllByRecursion}
use Rattle.std.proofs.lemmas.List.Elements.{Contains-append_left, Contains-append_right}
use Rattle.std.proofs.lemmas.Option.{none-some}
use Rattle.list_laws.specs.Sorts.{SameMembers}
use Rattle.list_laws.proofs.Elements.{AllByRecursion-map, AllByRecursion-append, AllByRecursion-front, AllByRecursion-back, AllByRecursion-mapped}
use Rattle.list_laws.proofs.Elements.{AllByRecursion-unmapped, AllByRecursion-contains_itself, AllByRecursion-through}

pub same_members-refl : {A : Type 0} (xs : List A) → SameMembers xs xs
same_members-refl xs = record { forth = AllByRecursion-contains_itself xs; back = AllByRecursion-contains_itself xs }

pub same_members-trans : {A : Type 0} (xs ys zs : List A) → SameMembers xs ys → SameMembers ys zs → SameMembers xs zs
same_members-trans xs ys zs one two = record {
  forth = AllByRecursion-through (Contains zs) xs ys one.forth two.forth;
  back = AllByRecursion-through (Contains xs) zs ys two.back one.back;
}

pub same_members-append : {A : Type 0} (xs ys us vs : List A) → SameMembers xs ys → SameMembers us vs → SameMembers (xs ++ us) (ys ++ vs)
same_members-append {A = A} xs ys us vs one two = record { forth = half xs ys us vs one.forth two.forth; back = half ys xs vs us one.back two.back }
  where
    half : (ms ns ks ls : List A) → AllByRecursion (Contains ns) ms → AllByRecursion (Contains ls) ks → AllByRecursion (Contains (ns ++ ls)) (ms ++ ks)
    half ms ns ks ls h k = AllByRecursion-append (Contains (ns ++ ls)) ms ks
        (AllByRecursion-map (Contains ns) (Contains (ns ++ ls)) ms (λ x. Contains-append_left ns ls x) h)
        (AllByRecursion-map (Contains ls) (Contains (ns ++ ls)) ks (λ x. Contains-append_right ns ls x) k)

pub same_members-map : {A B : Type 0} (f : A → B) (xs ys : List A) → SameMembers xs ys → SameMembers (map f xs) (map f ys)
same_members-map {A = A} {B = B} f xs ys same = record { forth = half xs ys same.forth; back = half ys xs same.back }
  where
    half : (ms ns : List A) → AllByRecursion (Contains ns) ms → AllByRecursion (Contains (map f ns)) (map f ms)
    half ms ns within = AllByRecursion-mapped (Contains (map f ns)) f ms
        (AllByRecursion-through (λ x. Contains (map f ns) (f x)) ms ns within
        (AllByRecursion-unmapped (Contains (map f ns)) f ns (AllByRecursion-contains_itself (map f ns))))

-- what is made of the elements in one of two ways
either_made : {A B : Type 0} (P : B → Type 0) (f g : A → Option B) (xs : List A) → AllByRecursion P (filter_map f xs) → AllByRecursion P (filter_map g xs)
    → AllByRecursion P (filter_map (λ x. option_or (f x) (g x)) xs)
either_made P f g [] of_f of_g = tt
either_made {B = B} P f g (x ∷ xs) of_f of_g = by_image (f x) (g x) of_f of_g (either_made P f g xs)
  where
    by_image : (o q : Option B) → AllByRecursion P (cons_option o (filter_map f xs)) → AllByRecursion P (cons_option q (filter_map g xs))
        → (AllByRecursion P (filter_map f xs) → AllByRecursion P (filter_map g xs) → AllByRecursion P (filter_map (λ y. option_or (f y) (g y)) xs))
        → AllByRecursion P (cons_option (option_or o q) (filter_map (λ y. option_or (f y) (g y)) xs))
    by_image None None h k rest = rest h k
    by_image None (Some z) h k rest = (k.0, rest h k.1)
    by_image (Some y) None h k rest = (h.0, rest h.1 k)
    by_image (Some y) (Some z) h k rest = (h.0, rest h.1 k.1)

made_either : {A B : Type 0} (P : B → Type 0) (f g : A → Option B) (xs : List A) → ((x : A) (y : B) → f x ≡ Some y → g x ≡ None)
    → AllByRecursion P (filter_map (λ x. option_or (f x) (g x)) xs) → AllByRecursion P (filter_map f xs) × AllByRecursion P (filter_map g xs)
made_either P f g [] apart all = (tt, tt)
made_either {B = B} P f g (x ∷ xs) apart all = by_image (f x) (g x) (λ y. apart x y) all (made_either P f g xs apart)
  where
    by_image : (o q : Option B) → ((y : B) → o ≡ Some y → q ≡ None)
        → AllByRecursion P (cons_option (option_or o q) (filter_map (λ y. option_or (f y) (g y)) xs))
        → (AllByRecursion P (filter_map (λ y. option_or (f y) (g y)) xs) → AllByRecursion P (filter_map f xs) × AllByRecursion P (filter_map g xs))
        → AllByRecursion P (cons_option o (filter_map f xs)) × AllByRecursion P (cons_option q (filter_map g xs))
    by_image None None is h rest = rest h
    by_image None (Some z) is h rest = ((rest h.1).0, (h.0, (rest h.1).1))
    by_image (Some y) None is h rest = ((h.0, (rest h.1).0), (rest h.1).1)
    by_image (Some y) (Some z) is h rest = absurd (none-some z (sym (is y refl)))

-- what is made of each element in one of two ways, where not in both, is what is made in the first way and in the second
pub same_members-either : {A B : Type 0} (f g : A → Option B) (xs : List A) → ((x : A) (y : B) → f x ≡ Some y → g x ≡ None)
    → SameMembers (filter_map f xs ++ filter_map g xs) (filter_map (λ x. option_or (f x) (g x)) xs)
same_members-either {A = A} {B = B} f g xs apart = record { forth = forth; back = back }
  where
    whole : List B
    whole = filter_map (λ x. option_or (f x) (g x)) xs

    parts : AllByRecursion (Contains whole) (filter_map f xs) × AllByRecursion (Contains whole) (filter_map g xs)
    parts = made_either (Contains whole) f g xs apart (AllByRecursion-contains_itself whole)

    forth : AllByRecursion (Contains whole) (filter_map f xs ++ filter_map g xs)
    forth = AllByRecursion-append (Contains whole) (filter_map f xs) (filter_map g xs) parts.0 parts.1

    joined : List B
    joined = filter_map f xs ++ filter_map g xs

    back : AllByRecursion (Contains joined) whole
    back = either_made (Contains joined) f g xs
        (AllByRecursion-front (Contains joined) (filter_map f xs) (filter_map g xs) (AllByRecursion-contains_itself joined))
        (AllByRecursion-back (Contains joined) (filter_map f xs) (filter_map g xs) (AllByRecursion-contains_itself joined))
