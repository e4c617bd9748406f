-- What is found and counted in a list.
-- Cited by `Made`, `env_core`, `hist_model`, `job_source`, `line_places`, `line_words`, `live_core`, `log_count`, `nested_loop`,
-- `next_entry`, `pool_core`, `run_summary`, `sequence_manager`, `situation`, `value_words`.
use Rattle.std.proofs.Common.{◌≡◌, ℕ, ◌≤◌, Bool, true, false, cond, List, [], ◌∷◌, length, refl, sym, ap, ◌∙◌, Some, None, arith}
use Rattle.std.specs.Prelude.{filter, find, is_some, Contains, position, nat_lt}
use Rattle.std.specs.List.{AllByRecursion, position_or_len}
use Rattle.std.proofs.lemmas.Bool.{both_ways, true≢false, ltb-false}
use Rattle.std.proofs.lemmas.List.Elements.{All-from_recursion, All-contains, Contains-append_right}
use Rattle.std.proofs.lemmas.Option.{none-some, same_Some}
use Rattle.list_laws.specs.Lists.{count}

-- what is found passes the test
pub find_passes : {A : Type 0} (p : A → Bool) (xs : List A) (x : A) → find p xs ≡ Some x → p x ≡ true
find_passes p [] x h = absurd (none-some x h)
find_passes p (y ∷ ys) x h = at (p y) refl (find_passes p ys x) h
  where
    at : (b : Bool) → p y ≡ b → (find p ys ≡ Some x → p x ≡ true) → cond b (Some y) (find p ys) ≡ Some x → p x ≡ true
    at true is rest k = ap p (sym (same_Some y x k)) ∙ is
    at false is rest k = rest k

-- where none is counted, each fails the test
pub none_counted : {A : Type 0} (p : A → Bool) (xs : List A) → count p xs ≡ 0 → AllByRecursion (λ x. p x ≡ false) xs
none_counted p [] h = tt
none_counted p (x ∷ xs) h = at (p x) refl (none_counted p xs) h
  where
    at : (b : Bool) → p x ≡ b → (count p xs ≡ 0 → AllByRecursion (λ y. p y ≡ false) xs) → length (cond b (x ∷ filter p xs) (filter p xs)) ≡ 0
        → AllByRecursion (λ y. p y ≡ false) (x ∷ xs)
    at true is rest none = absurd (omega (arith, none))
    at false is rest none = (is, rest none)

-- where none is counted, none is found
pub none_found : {A : Type 0} (p : A → Bool) (xs : List A) → count p xs ≡ 0 → find p xs ≡ None
none_found p [] h = refl
none_found p (x ∷ xs) h = at (p x) (none_found p xs) h
  where
    at : (b : Bool) → (count p xs ≡ 0 → find p xs ≡ None) → length (cond b (x ∷ filter p xs) (filter p xs)) ≡ 0
        → cond b (Some x) (find p xs) ≡ None
    at true rest none = absurd (omega (arith, none))
    at false rest none = rest none

one_at_least : (n : ℕ) → (n ≡ 0 → ⊥) → 1 ≤ n
one_at_least n h = grind (arith, h)

-- an element that passes the test is counted
pub contained_counts : {A : Type 0} (p : A → Bool) (xs : List A) (x : A) → Contains xs x → p x ≡ true → 1 ≤ count p xs
contained_counts p xs x among passes = one_at_least (count p xs) (λ none.
    both_ways (p x) (All-contains (λ y. p y ≡ false) xs x (All-from_recursion (λ y. p y ≡ false) xs (none_counted p xs none)) among) passes)

-- so is one that is found
pub found_counts : {A : Type 0} (p : A → Bool) (xs : List A) → is_some (find p xs) ≡ true → 1 ≤ count p xs
found_counts p xs h = one_at_least (count p xs) (λ none. true≢false (sym h ∙ ap is_some (none_found p xs none)))

-- what is found in a list is in it
pub find_contains : {A : Type 0} (test : A → Bool) (xs : List A) (x : A) → find test xs ≡ Some x → Contains xs x
find_contains test [] x is = absurd (none-some x is)
find_contains {A = A} test (y ∷ ys) x is = by_test (test y) is (find_contains test ys x)
  where
    by_test : (b : Bool) → cond b (Some y) (find test ys) ≡ Some x → (find test ys ≡ Some x → Contains ys x) → Contains (y ∷ ys) x
    by_test true here rest = (0, omega arith, same_Some y x here)
    by_test false there rest = Contains-append_right (y ∷ []) ys x (rest there)

-- where no place is found, the test passes at none
pub position_none : {A : Type 0} (test : A → Bool) (xs : List A) → position test xs ≡ None → length xs ≤ position_or_len test xs
position_none test xs none = by_order (nat_lt (position_or_len test xs) (length xs)) refl none
  where
    by_order : (b : Bool) → nat_lt (position_or_len test xs) (length xs) ≡ b → cond b (Some (position_or_len test xs)) None ≡ None
        → length xs ≤ position_or_len test xs
    by_order true less is = absurd (none-some _ (sym is))
    by_order false less is = ltb-false _ _ less
