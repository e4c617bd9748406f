-- Lemmas on options, and on the first place in a list at which a test passes.
-- Cited by `app_modes`, `env_core`, `env_roster`, `hist_model`, `live_core`, `live_roster`, `past_lookup`, `pool_core`, `pool_laws`,
-- `queue_laws`, `queue_selector`, `situation`.
use Rattle.std.proofs.Common.{◌≡◌, ℕ, suc, ◌+◌, ◌<◌, Bool, true, false, cond, List, [], ◌∷◌, ◌++◌, length, refl, ap, ◌∙◌, Option, Some, None, arith}
use Rattle.std.specs.Option.{option_map, option_or}
use Rattle.std.specs.List.{list_any, position_from, AllByRecursion}
use Rattle.std.proofs.lemmas.Bool.{or_parts}
use Rattle.std.proofs.lemmas.Option.{none-some, same_Some}

pub option_or-none : {A : Type 0} (o : Option A) → option_or o None ≡ o
option_or-none (Some x) = refl
option_or-none None = refl

pub option_map-or : {A B : Type 0} (f : A → B) (a b : Option A) → option_map f (option_or a b) ≡ option_or (option_map f a) (option_map f b)
option_map-or f (Some x) b = refl
option_map-or f None b = refl

-- the first place in a joined list
pub position-append : {A : Type 0} (test : A → Bool) (i : ℕ) (xs ys : List A)
    → position_from test i (xs ++ ys) ≡ option_or (position_from test i xs) (position_from test (i + length xs) ys)
position-append test i [] ys = ap (λ n. position_from test n ys) (omega arith)
position-append test i (x ∷ xs) ys = by_test (test x) (position-append test (i + 1) xs ys
    ∙ ap (λ n. option_or (position_from test (i + 1) xs) (position_from test n ys)) (omega arith))
  where
    by_test : (b : Bool) → position_from test (i + 1) (xs ++ ys) ≡ option_or (position_from test (i + 1) xs) (position_from test (i + suc (length xs)) ys)
        → cond b (Some i) (position_from test (i + 1) (xs ++ ys))
        ≡ option_or (cond b (Some i) (position_from test (i + 1) xs)) (position_from test (i + suc (length xs)) ys)
    by_test true rest = refl
    by_test false rest = rest

-- the first place in a list is one of its places
pub position-within : {A : Type 0} (test : A → Bool) (i : ℕ) (xs : List A) (n : ℕ) → position_from test i xs ≡ Some n → n < i + length xs
position-within test i [] n is = absurd (none-some n is)
position-within test i (x ∷ xs) n is = by_test (test x) is (position-within test (i + 1) xs n)
  where
    by_test : (b : Bool) → cond b (Some i) (position_from test (i + 1) xs) ≡ Some n → (position_from test (i + 1) xs ≡ Some n → n < i + 1 + length xs)
        → n < i + suc (length xs)
    by_test true h rest = omega (arith, same_Some i n h)
    by_test false h rest = omega (arith, rest h)

-- where the test passes nowhere, each element fails it
pub AllByRecursion-not_any : {A : Type 0} (p : A → Bool) (xs : List A) → list_any p xs ≡ false → AllByRecursion (λ x. p x ≡ false) xs
AllByRecursion-not_any p [] none = tt
AllByRecursion-not_any p (x ∷ xs) none = ((or_parts _ _ none).0, AllByRecursion-not_any p xs (or_parts _ _ none).1)
