-- The least of what is found, one source at a time.
-- Cited by `Situation::best`, `Situation::is_outranked`, `soonest_ripe`, `soonest_scope`, `ByLine`.
use Rattle.std.proofs.Common.{◌≡◌, ℕ, ◌+◌, ◌<◌, Bool, true, false, cond, List, [], ◌∷◌, ◌++◌, length}
use Rattle.std.proofs.Common.{map, get_or, take, refl, sym, ap, append-nil, append_assoc, Option, Some, None, arith}
use Rattle.std.specs.Prelude.{◌||◌, filter}
use Rattle.std.specs.List.{cons_option, filter_map, list_any, range_with_len}
use Rattle.std.specs.Option.{option_to_list}
use Rattle.std.proofs.lemmas.List.Elements.{filter-append, filter_map-append}
use Rattle.std.proofs.lemmas.List.Folds.{list_any-append}
use Rattle.std.proofs.lemmas.List.{take_more}
use Rattle.list_laws.proofs.Ranges.{range_split}
use Rattle.list_laws.specs.Lists.{holds_of, keep, least, least_from}
use Rattle.situation_steps.specs.Sources.{better_of}

-- one element more
least_from_more : {A : Type 0} (below : A → A → Bool) (x y : A) (xs : List A)
    → least_from below x (xs ++ y ∷ []) ≡ (cond (below y (least_from below x xs)) y (least_from below x xs))
least_from_more below x y [] = refl
least_from_more below x y (z ∷ zs) = least_from_more below (cond (below z x) z x) y zs

least_more : {A : Type 0} (below : A → A → Bool) (xs : List A) (o : Option A)
    → better_of below (least below xs) o ≡ least below (xs ++ option_to_list o)
least_more below [] None = refl
least_more below [] (Some y) = refl
least_more below (x ∷ xs) None = ap (λ ys. least below (x ∷ ys)) (sym (append-nil xs))
least_more below (x ∷ xs) (Some y) = ap Some (sym (least_from_more below x y xs))

-- what a test keeps of what may be there
filter-option : {A : Type 0} (p : A → Bool) (o : Option A) → filter p (option_to_list o) ≡ option_to_list (keep p o)
filter-option p None = refl
filter-option p (Some x) = at (p x)
  where
    at : (b : Bool) → cond b (x ∷ []) [] ≡ option_to_list (cond b (Some x) None)
    at true = refl
    at false = refl

filter_map-one : {A B : Type 0} (f : A → Option B) (x : A) → filter_map f (x ∷ []) ≡ option_to_list (f x)
filter_map-one {B = B} f x = at (f x)
  where
    at : (o : Option B) → cons_option o [] ≡ option_to_list o
    at None = refl
    at (Some y) = refl

-- what is found of one number more
found_more : {A : Type 0} (p q : A → Bool) (front : List A) (f : ℕ → Option A) (n : ℕ)
    → filter p (filter q (front ++ filter_map f (range_with_len 0 (n + 1))))
    ≡ filter p (filter q (front ++ filter_map f (range_with_len 0 n))) ++ option_to_list (keep p (keep q (f n)))
found_more p q front f n = rw (
  range_split 0 n 0 (n + 1) n (omega arith) (omega arith),
  filter_map-append f (range_with_len 0 n) (n ∷ []),
  filter_map-one f n,
  ← append_assoc front (filter_map f (range_with_len 0 n)) (option_to_list (f n)),
  filter-append q (front ++ filter_map f (range_with_len 0 n)) (option_to_list (f n)),
  filter-option q (f n),
  filter-append p (filter q (front ++ filter_map f (range_with_len 0 n))) (option_to_list (keep q (f n))),
  filter-option p (keep q (f n)),
) refl

-- the best so far, with what one number more gives
pub best_more : {A : Type 0} (below : A → A → Bool) (p q : A → Bool) (front : List A) (f : ℕ → Option A) (n : ℕ) (now : Option A)
    → now ≡ least below (filter p (filter q (front ++ filter_map f (range_with_len 0 n))))
    → better_of below now (keep p (keep q (f n))) ≡ least below (filter p (filter q (front ++ filter_map f (range_with_len 0 (n + 1)))))
best_more below p q front f n now is = rw (is, found_more p q front f n)
    (least_more below (filter p (filter q (front ++ filter_map f (range_with_len 0 n)))) (keep p (keep q (f n))))

-- some of what is found and kept passes a test
pub any_found : {A B : Type 0} (test q : B → Bool) (f : A → Option B) (xs : List A)
    → list_any test (filter q (filter_map f xs)) ≡ list_any (λ x. holds_of test (keep q (f x))) xs
any_found test q f [] = refl
any_found {B = B} test q f (x ∷ xs) = at (f x) (any_found test q f xs)
  where
    kept : (y : B) (b : Bool) → list_any test (filter q (filter_map f xs)) ≡ list_any (λ x. holds_of test (keep q (f x))) xs
        → list_any test (cond b (y ∷ filter q (filter_map f xs)) (filter q (filter_map f xs)))
        ≡ (holds_of test (cond b (Some y) None) || list_any (λ x. holds_of test (keep q (f x))) xs)
    kept y true rest = ap (λ r. test y || r) rest
    kept y false rest = rest

    at : (o : Option B) → list_any test (filter q (filter_map f xs)) ≡ list_any (λ x. holds_of test (keep q (f x))) xs
        → list_any test (filter q (cons_option o (filter_map f xs))) ≡ (holds_of test (keep q o) || list_any (λ x. holds_of test (keep q (f x))) xs)
    at None rest = rest
    at (Some y) rest = kept y (q y) rest

-- some of what is found in two ways and kept passes a test
pub any_of_found : {A B C : Type 0} (test q : C → Bool) (f : A → Option C) (g : B → Option C) (xs : List A) (ys : List B)
    → list_any test (filter q (filter_map f xs ++ filter_map g ys))
    ≡ (list_any (λ x. holds_of test (keep q (f x))) xs || list_any (λ y. holds_of test (keep q (g y))) ys)
any_of_found test q f g xs ys = rw (
  filter-append q (filter_map f xs) (filter_map g ys),
  list_any-append test (filter q (filter_map f xs)) (filter q (filter_map g ys)),
  any_found test q f xs,
  any_found test q g ys,
) refl

-- the least so far of what is found, with what one element more gives
pub least_over : {A B : Type 0} (below : A → A → Bool) (p : A → Bool) (front : List A) (f : B → Option A) (xs : List B) (i : ℕ) (d : B) (now : Option A)
    → i < length xs → now ≡ least below (filter p (front ++ filter_map f (take i xs)))
    → better_of below now (keep p (f (get_or xs i d))) ≡ least below (filter p (front ++ filter_map f (take (i + 1) xs)))
least_over below p front f xs i d now within is = rw (
  is,
  take_more xs i d within,
  filter_map-append f (take i xs) (get_or xs i d ∷ []),
  filter_map-one f (get_or xs i d),
  ← append_assoc front (filter_map f (take i xs)) (option_to_list (f (get_or xs i d))),
  filter-append p (front ++ filter_map f (take i xs)) (option_to_list (f (get_or xs i d))),
  filter-option p (f (get_or xs i d)),
) (least_more below (filter p (front ++ filter_map f (take i xs))) (keep p (f (get_or xs i d))))

-- what is made of each element
pub filter_map-always : {A B : Type 0} (g : B → A) (xs : List B) → filter_map (λ x. Some (g x)) xs ≡ map g xs
filter_map-always g [] = refl
filter_map-always g (x ∷ xs) = ap (λ ys. g x ∷ ys) (filter_map-always g xs)
