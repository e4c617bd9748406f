-- A log at one of its places: the past of the place, and the entry that may come after it.
-- Cited by `Laws/Fences`, `Laws/Order/Draws`, `Laws/Order/Keys`, `Laws/Order/Lanes`, `Laws/Order/Pasts`, `Laws/Refusals`,
-- `Laws/Shutdown/Places`, `Laws/Singly`, `Laws/Starts`, `Laws/State`, `env_core`, `env_shared`, `run_summary`, `task_reply`, `trace_json`,
-- `worked_parts`.
use Rattle.std.proofs.Common.{◌≡◌, ℕ, zero, suc, ◌<◌, Bool, true, leb, List, [], ◌∷◌, ◌++◌, length}
use Rattle.std.proofs.Common.{take, drop, refl, sym, ap, subst, ◌∙◌, Some, inl, inr, arith}
use Rattle.std.specs.Prelude.{◌⊎◌, slice_get}
use Rattle.std.specs.List.{list_any}
use Rattle.std.proofs.lemmas.Bool.{and_parts, or_cases, or_left, or_right}
use Rattle.std.proofs.lemmas.List.{length-take-le}
use Rattle.std.proofs.lemmas.Option.{none-some, same_Some, slice_get_within}
use Rattle.task_base.specs.Plan.{Plan}
use Rattle.task_base.specs.declared.entry.Entry.{Entry}
use Rattle.hist_model.specs.Allowed.{may_come, IsAllowed}
use Rattle.hist_model.specs.Legal.{IsLegal}
use Rattle.hist_model.proofs.Laws.Legal.{front_is_legal, each_is_allowed}

-- a list is what stands before a place, what stands there, and the rest
pub parted_at : {A : Type 0} (xs : List A) (k : ℕ) (x : A) → slice_get xs k ≡ Some x → take k xs ++ x ∷ drop (suc k) xs ≡ xs
parted_at [] k x is = absurd (none-some x is)
parted_at (y ∷ xs) zero x is = cc
parted_at (y ∷ xs) (suc k) x is = ap (λ rest. y ∷ rest) (parted_at xs k x is)

-- a place behind is the past with the entry
pub take_at : {A : Type 0} (xs : List A) (k : ℕ) (x : A) → slice_get xs k ≡ Some x → take (suc k) xs ≡ take k xs ++ x ∷ []
take_at [] k x is = absurd (none-some x is)
take_at (y ∷ xs) zero x is = cc
take_at (y ∷ xs) (suc k) x is = ap (λ rest. y ∷ rest) (take_at xs k x is)

-- how many entries stand before a place of the log
pub length-past : {A : Type 0} (xs : List A) (k : ℕ) (x : A) → slice_get xs k ≡ Some x → length (take k xs) ≡ k
length-past xs k x is = length-take-le k xs (omega (arith, slice_get_within xs k x is))

-- what stands at an earlier place stands there in the past of a later one
pub in_past : {A : Type 0} (xs : List A) (i k : ℕ) → i < k → slice_get (take k xs) i ≡ slice_get xs i
in_past [] i zero less = absurd (omega (arith, less))
in_past [] i (suc k) less = refl
in_past (x ∷ xs) i zero less = absurd (omega (arith, less))
in_past (x ∷ xs) zero (suc k) less = refl
in_past (x ∷ xs) (suc i) (suc k) less = in_past xs i k (omega (arith, less))

-- what stands in the past of a place stands at an earlier place
pub of_past : {A : Type 0} (xs : List A) (i k : ℕ) (x : A) → slice_get (take k xs) i ≡ Some x → (i < k) × (slice_get xs i ≡ Some x)
of_past [] i zero x is = absurd (none-some x is)
of_past [] i (suc k) x is = absurd (none-some x is)
of_past (y ∷ xs) i zero x is = absurd (none-some x is)
of_past (y ∷ xs) zero (suc k) x is = (omega arith, is)
of_past (y ∷ xs) (suc i) (suc k) x is = let rest = of_past xs i k x is in (omega (arith, rest.0), rest.1)

-- a test that some element passes is passed at a place
pub record PassesAt {A : Type 0} (test : A → Bool) (xs : List A) : Type 0 where
  pub place : ℕ
  pub value : A
  pub is : slice_get xs place ≡ Some value
  pub passes : test value ≡ true

pub passes_at : {A : Type 0} (test : A → Bool) (xs : List A) → list_any test xs ≡ true → PassesAt test xs
passes_at {A = A} test [] h = absurd cc
passes_at {A = A} test (x ∷ xs) h = at (or_cases (test x) (list_any test xs) h) (passes_at test xs)
  where
    at : (test x ≡ true) ⊎ (list_any test xs ≡ true) → (list_any test xs ≡ true → PassesAt test xs) → PassesAt test (x ∷ xs)
    at (inl here) later = record { place = 0; value = x; is = refl; passes = here }
    at (inr k) later =
        let rest = later k in
        record { place = suc rest.place; value = rest.value; is = rest.is; passes = rest.passes }

-- and one that an element at a place passes is passed by some
pub passed_by : {A : Type 0} (test : A → Bool) (xs : List A) (k : ℕ) (x : A) → slice_get xs k ≡ Some x → test x ≡ true → list_any test xs ≡ true
passed_by test [] k x is passes = absurd (none-some x is)
passed_by test (y ∷ xs) zero x is passes = or_left (test y) (list_any test xs) (ap test (same_Some y x is) ∙ passes)
passed_by test (y ∷ xs) (suc k) x is passes = or_right (test y) (list_any test xs) (passed_by test xs k x is passes)

-- the past of each place of a legal log is legal
pub past_is_legal : (script : Plan) (log : List Entry) (k : ℕ) (e : Entry) → IsLegal script log → slice_get log k ≡ Some e → IsLegal script (take k log)
past_is_legal script log k e legal is = front_is_legal script (take k log) (e ∷ drop (suc k) log) (subst (IsLegal script) (sym (parted_at log k e is)) legal)

-- and the entry there may come after it
pub allowed_at : (script : Plan) (log : List Entry) (k : ℕ) (e : Entry) → IsLegal script log → slice_get log k ≡ Some e → IsAllowed script (take k log) e
allowed_at script log k e legal is = each_is_allowed script (take k log) e (drop (suc k) log) (subst (IsLegal script) (sym (parted_at log k e is)) legal)

pub may_come_at : (script : Plan) (log : List Entry) (k : ℕ) (e : Entry) → IsLegal script log → slice_get log k ≡ Some e
    → may_come script (take k log) e.seat e.kind ≡ true
may_come_at script log k e legal is = (and_parts (leb e.seat script.workers) (may_come script (take k log) e.seat e.kind)
    (allowed_at script log k e legal is)).1
