-- Whether all pass a test, whether one does, and the first that does.
-- Cited by `Pigeons`, `Sorts`, `env_core`, `hist_model`, `live_core`, `log_count`, `nested_loop`, `order_search`, `pool_core`, `pool_laws`,
-- `queue_selector`, `run_summary`, `sequence_manager`, `situation`, `task_script`.
use Rattle.std.proofs.Common.{◌≡◌, Bool, true, false, cond, List, [], ◌∷◌, refl, sym, Some, None}
use Rattle.std.specs.Prelude.{◌&&◌, ◌||◌, find}
use Rattle.std.specs.List.{list_any, list_all, AllByRecursion}
use Rattle.std.proofs.lemmas.Option.{none-some}

pub list_all-from_recursion : {A : Type 0} (p : A → Bool) (xs : List A) → AllByRecursion (λ x. p x ≡ true) xs → list_all p xs ≡ true
list_all-from_recursion p [] h = refl
list_all-from_recursion p (x ∷ xs) h = rw (h.0) (list_all-from_recursion p xs h.1)

pub list_all_always : {A : Type 0} (p : A → Bool) (xs : List A) → ((x : A) → p x ≡ true) → list_all p xs ≡ true
list_all_always p [] h = refl
list_all_always p (x ∷ xs) h = rw (h x) (list_all_always p xs h)

pub list_all_congr : {A : Type 0} (p q : A → Bool) (xs : List A) → ((x : A) → p x ≡ q x) → list_all p xs ≡ list_all q xs
list_all_congr p q [] h = refl
list_all_congr p q (x ∷ xs) h = rw (h x, list_all_congr p q xs h) refl

-- a test that nothing passes
pub list_any_never : {A : Type 0} (p : A → Bool) (xs : List A) → ((x : A) → p x ≡ false) → list_any p xs ≡ false
list_any_never p [] h = refl
list_any_never p (x ∷ xs) h = rw (h x) (list_any_never p xs h)

pub list_any_none : {A : Type 0} (p : A → Bool) (xs : List A) → AllByRecursion (λ x. p x ≡ false) xs → list_any p xs ≡ false
list_any_none p [] h = refl
list_any_none p (x ∷ xs) h = rw (h.0) (list_any_none p xs h.1)

pub list_any_congr : {A : Type 0} (p q : A → Bool) (xs : List A) → ((x : A) → p x ≡ q x) → list_any p xs ≡ list_any q xs
list_any_congr p q [] h = refl
list_any_congr p q (x ∷ xs) h = rw (h x, list_any_congr p q xs h) refl

-- where the first test fails at the mark, and the second says c of it
pub any_change : {A : Type 0} (marks p q : A → Bool) (c : Bool) (xs : List A) → ((x : A) → marks x ≡ true → p x ≡ false) → ((x : A) → marks x ≡ true → q x ≡ c)
    → ((x : A) → marks x ≡ false → p x ≡ q x) → list_any q xs ≡ (list_any p xs || (c && list_any marks xs))
any_change marks p q c [] f g h = ends c
  where
    ends : (b : Bool) → false ≡ (b && false)
    ends true = refl
    ends false = refl
any_change marks p q c (x ∷ xs) f g h = by_test (marks x) refl (any_change marks p q c xs f g h)
  where
    marked : (b qs ps ms : Bool) → qs ≡ (ps || (b && ms)) → (b || qs) ≡ ((false || ps) || (b && true))
    marked true qs true ms is = refl
    marked true qs false ms is = refl
    marked false qs true ms is = is
    marked false qs false ms is = is

    plain : (b qs ps cm : Bool) → qs ≡ (ps || cm) → (b || qs) ≡ ((b || ps) || cm)
    plain true qs ps cm is = refl
    plain false qs ps cm is = is

    by_test : (m : Bool) → marks x ≡ m → list_any q xs ≡ (list_any p xs || (c && list_any marks xs))
        → (q x || list_any q xs) ≡ ((p x || list_any p xs) || (c && (marks x || list_any marks xs)))
    by_test true is rest = rw (g x is, f x is, is) (marked c (list_any q xs) (list_any p xs) (list_any marks xs) rest)
    by_test false is rest = rw (h x is, is) (plain (q x) (list_any q xs) (list_any p xs) (c && list_any marks xs) rest)

pub find_congr : {A : Type 0} (p q : A → Bool) (xs : List A) → ((x : A) → p x ≡ q x) → find p xs ≡ find q xs
find_congr p q [] h = refl
find_congr p q (x ∷ xs) h = rw (h x, find_congr p q xs h) refl

-- where none is found, all fail
pub find-none : {A : Type 0} (p : A → Bool) (xs : List A) → find p xs ≡ None → AllByRecursion (λ x. p x ≡ false) xs
find-none p [] none = tt
find-none p (x ∷ xs) none = by_test (p x) none (find-none p xs)
  where
    by_test : (b : Bool) → cond b (Some x) (find p xs) ≡ None → (find p xs ≡ None → AllByRecursion (λ y. p y ≡ false) xs)
        → (b ≡ false) × AllByRecursion (λ y. p y ≡ false) xs
    by_test true h rest = absurd (none-some x (sym h))
    by_test false h rest = (refl, rest h)
