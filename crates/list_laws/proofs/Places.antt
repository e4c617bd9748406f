-- Elements of joined lists by their index, one more element at the end, and tests that no element passes.
-- Cited by `call_laws`, `env_core`, `env_crew`, `env_roster`, `env_shared`, `env_step`, `env_threads`, `hist_model`, `live_core`,
-- `live_roster`, `log_context`, `log_count`, `log_replay`, `nested_loop`, `order_explain`, `order_search`, `pool_core`, `pool_laws`,
-- `run_summary`, `script_model`, `sequence_manager`, `situation`, `task_reply`, `task_script`, `trace_json`.
use Rattle.std.proofs.lemmas.List.{get_or-set_same, length-set}
use Rattle.std.proofs.Common.{◌≡◌, ℕ, zero, suc, ◌+◌, ◌<◌, ◌≤◌, Bool, true, false, cond, List, [], ◌∷◌}
use Rattle.std.proofs.Common.{◌++◌, length, refl, ◌∙◌, ◌⊎◌, inl, inr, Some, arith, replicate, ap}
use Rattle.std.specs.Prelude.{slice_get, slice_set}
use Rattle.std.specs.List.{list_any, AllByRecursion}
use Rattle.std.proofs.lemmas.Bool.{cases_Bool, cond-true, cond-false, or_parts, or_from}
use Rattle.std.proofs.lemmas.Option.{slice_get_within, slice_get-get_or}
use Rattle.list_laws.proofs.Elements.{slice_get-front, AllByRecursion-append}
use Rattle.list_laws.specs.Lists.{count}
use Rattle.list_laws.proofs.Counts.{count-append, count-cons}

-- ---- by index

-- an element of a joined list is one of either part
pub slice_get-append : {A : Type 0} (xs ys : List A) (k : ℕ) (x : A) → slice_get (xs ++ ys) k ≡ Some x
    → ((k < length xs) × (slice_get xs k ≡ Some x)) ⊎ ((j : ℕ) × (k ≡ length xs + j) × (slice_get ys j ≡ Some x))
slice_get-append [] ys k x e = inr (k, omega arith, e)
slice_get-append (y ∷ xs) ys zero x e = inl (omega arith, e)
slice_get-append (y ∷ xs) ys (suc k) x e = elim (slice_get-append xs ys k x e) [
  | inl p ↦ inl (omega (arith, p.0), p.1)
  | inr p ↦ inr (p.0, omega (arith, p.1), p.2)
]

-- what stands at a place stays there
pub slice_get-more : {A : Type 0} (xs ys : List A) (i : ℕ) (x : A) → slice_get xs i ≡ Some x → slice_get (xs ++ ys) i ≡ Some x
slice_get-more xs ys i x is = slice_get-front xs ys i (slice_get_within xs i x is) ∙ is

-- behind the front stands the first of the back
pub slice_get_seam : {A : Type 0} (front : List A) (x : A) (back : List A) → slice_get (front ++ x ∷ back) (length front) ≡ Some x
slice_get_seam [] x back = refl
slice_get_seam (y ∷ front) x back = slice_get_seam front x back

-- an element of a list with one more is one of the list, or the new one
pub slice_get_push : {A : Type 0} (xs : List A) (y : A) (k : ℕ) (x : A) → slice_get (xs ++ y ∷ []) k ≡ Some x
    → ((k < length xs) × (slice_get xs k ≡ Some x)) ⊎ ((k ≡ length xs) × (y ≡ x))
slice_get_push {A = A} xs y k x e = elim (slice_get-append xs (y ∷ []) k x e) [
  | inl p ↦ inl p
  | inr p ↦ inr (new p.0 p.1 p.2)
]
  where
    new : (j : ℕ) → k ≡ length xs + j → slice_get (y ∷ []) j ≡ Some x → (k ≡ length xs) × (y ≡ x)
    new zero place h = (omega (arith, place), cc)
    new (suc j) place h = absurd cc

-- ---- one more

pub AllByRecursion-push : {A : Type 0} (P : A → Type 0) (xs : List A) (x : A) → AllByRecursion P xs → P x → AllByRecursion P (xs ++ x ∷ [])
AllByRecursion-push P xs x all one = AllByRecursion-append P xs (x ∷ []) all (one, tt)

pub count-push : {A : Type 0} (p : A → Bool) (xs : List A) (x : A) → count p (xs ++ x ∷ []) ≡ count p xs + cond (p x) 1 0
count-push p xs x = omega (arith, count-cons p x [], count-append p xs (x ∷ []))

-- ---- none

-- a test that none passes counts none
pub count_none : {A : Type 0} (p : A → Bool) (xs : List A) → list_any p xs ≡ false → count p xs ≡ 0
count_none p [] e = refl
count_none p (x ∷ xs) e =
    let neither = or_parts (p x) (list_any p xs) e in
    omega (arith, count-cons p x xs, cond-false {A = ℕ} (p x) 1 0 neither.0, count_none p xs neither.1)

-- a test that counts none is passed by none
pub none_from_count : {A : Type 0} (p : A → Bool) (xs : List A) → count p xs ≡ 0 → list_any p xs ≡ false
none_from_count p [] e = refl
none_from_count p (x ∷ xs) e = elim (cases_Bool (p x)) [
  | inl is ↦ absurd (omega (arith, count-cons p x xs, cond-true {A = ℕ} (p x) 1 0 is, e))
  | inr is ↦ or_from (p x) (list_any p xs) is (none_from_count p xs (omega (arith, count-cons p x xs, cond-false {A = ℕ} (p x) 1 0 is, e)))
]

-- what is counted at most once, and is not added where it stands, is counted at most once with one more
pub count_once-push : {A : Type 0} (p : A → Bool) (xs : List A) (x : A) → count p xs ≤ 1 → (p x ≡ true → list_any p xs ≡ false)
    → count p (xs ++ x ∷ []) ≤ 1
count_once-push p xs x once fresh = elim (cases_Bool (p x)) [
  | inl is ↦ omega (arith, count-push p xs x, cond-true {A = ℕ} (p x) 1 0 is, count_none p xs (fresh is))
  | inr is ↦ omega (arith, count-push p xs x, cond-false {A = ℕ} (p x) 1 0 is, once)
]

-- a list of one value, and a list with another value at a place
pub slice_get-replicate : {A : Type 0} (n i : ℕ) (x : A) → i < n → slice_get (replicate n x) i ≡ Some x
slice_get-replicate zero i x less = absurd (omega (arith, less))
slice_get-replicate (suc n) zero x less = refl
slice_get-replicate (suc n) (suc i) x less = slice_get-replicate n i x (omega (arith, less))

pub slice_get-set_same : {A : Type 0} (xs : List A) (i : ℕ) (x : A) → i < length xs → slice_get (slice_set xs i x) i ≡ Some x
slice_get-set_same xs i x within = slice_get-get_or (slice_set xs i x) i x (rw (length-set xs i x) within) ∙ ap Some (get_or-set_same xs i x x within)

pub slice_set-twice : {A : Type 0} (xs : List A) (i : ℕ) (x y : A) → slice_set (slice_set xs i x) i y ≡ slice_set xs i y
slice_set-twice [] i x y = refl
slice_set-twice (z ∷ zs) zero x y = refl
slice_set-twice (z ∷ zs) (suc i) x y = ap (λ rest. z ∷ rest) (slice_set-twice zs i x y)

pub slice_get-set_other : {A : Type 0} (xs : List A) (i j : ℕ) (x : A) → (i ≡ j → ⊥) → slice_get (slice_set xs i x) j ≡ slice_get xs j
slice_get-set_other [] i j x other = refl
slice_get-set_other (y ∷ ys) zero zero x other = absurd (other refl)
slice_get-set_other (y ∷ ys) zero (suc j) x other = refl
slice_get-set_other (y ∷ ys) (suc i) zero x other = refl
slice_get-set_other (y ∷ ys) (suc i) (suc j) x other = slice_get-set_other ys i j x (λ is. other (ap suc is))
