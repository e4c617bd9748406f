-- How many stand before the first that passes a test.
-- Cited by `ByLine`, `line.rt`.
use Rattle.std.proofs.Common.{◌≡◌, ℕ, zero, suc, ◌≤◌, Bool, true, false, cond, List, [], ◌∷◌, length, refl, sym, ap, ◌∙◌, Some, None, arith}
use Rattle.std.specs.Prelude.{find, nat_lt, position, slice_get}
use Rattle.std.specs.List.{position_or_len}
use Rattle.std.proofs.lemmas.List.Folds.{find_at}
use Rattle.std.proofs.lemmas.List.Recursion.{is_position_or_len}
use Rattle.std.proofs.lemmas.Option.{none-some}
use Rattle.list_laws.proofs.Finds.{position_none}
use Rattle.list_laws.proofs.Values.{some-injective}
use Rattle.log_count.specs.Sources.{place_of}

pub place_is : {A : Type 0} (test : A → Bool) (xs : List A) → place_of test xs ≡ position_or_len test xs
place_is {A = A} test xs = is_position_or_len (place_of test) test refl (λ x ys. ap (λ n. cond (test x) 0 n) (omega arith)) xs

-- who is found stands at that place
pub find_is_at : {A : Type 0} (test : A → Bool) (xs : List A) → find test xs ≡ slice_get xs (place_of test xs)
find_is_at test xs = find_at test xs ∙ ap (λ i. slice_get xs i) (sym (place_is test xs))

place_le : {A : Type 0} (test : A → Bool) (xs : List A) → place_of test xs ≤ length xs
place_le test [] = omega arith
place_le test (x ∷ xs) = at (test x) (place_le test xs)
  where
    at : (b : Bool) → place_of test xs ≤ length xs → cond b zero (suc (place_of test xs)) ≤ suc (length xs)
    at true less = omega arith
    at false less = omega (arith, less)

-- where none is found, all stand before
pub place_of_none : {A : Type 0} (test : A → Bool) (xs : List A) → position test xs ≡ None → length xs ≡ place_of test xs
place_of_none test xs none = omega (arith, position_none test xs none, place_is test xs, place_le test xs)

-- where one is found, its place is that
pub place_of_some : {A : Type 0} (test : A → Bool) (xs : List A) (p : ℕ) → position test xs ≡ Some p → p ≡ place_of test xs
place_of_some test xs p some = at (nat_lt (position_or_len test xs) (length xs)) some ∙ sym (place_is test xs)
  where
    at : (b : Bool) → cond b (Some (position_or_len test xs)) None ≡ Some p → p ≡ position_or_len test xs
    at true is = sym (some-injective is)
    at false is = absurd (none-some p is)
