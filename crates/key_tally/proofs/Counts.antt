-- What counting adds.
-- Cited by `Tally::add`, `tally.rt`.
use Rattle.std.proofs.Common.{◌≡◌, ℕ, ◌+◌, ◌*◌, Bool, true, false, cond, List, [], ◌∷◌, Some, None, refl, sym, ap, ◌∙◌, arith}
use Rattle.std.specs.Prelude.{sum_by}
use Rattle.std.proofs.lemmas.List.Sums.{sum_by-cons}
use Rattle.std.specs.Map.{lookup, set_value}
use Rattle.indexmap.specs.IndexMap.{insert_entry}
use Rattle.key_tally.specs.Counts.{with_more}

-- what `with_more` is, by what a map does: at a key that is there, and at one that is not
pub set_value-more : {K : Type 0} (eq : K → K → Bool) (key : K) (known more : ℕ) (entries : List (K × ℕ)) → lookup (eq key) entries ≡ Some known
    → set_value (eq key) entries (known + more) ≡ with_more eq key more entries
set_value-more eq key known more [] there = cc
set_value-more {K = K} eq key known more (entry ∷ entries) there = by_test (eq key entry.0) there (set_value-more eq key known more entries)
  where
    by_test : (b : Bool) → cond b (Some entry.1) (lookup (eq key) entries) ≡ Some known
        → (lookup (eq key) entries ≡ Some known → set_value (eq key) entries (known + more) ≡ with_more eq key more entries)
        → cond b ((entry.0, known + more) ∷ entries) (entry ∷ set_value (eq key) entries (known + more))
        ≡ cond b ((entry.0, entry.1 + more) ∷ entries) (entry ∷ with_more eq key more entries)
    by_test true is rest = let number : entry.1 ≡ known = cc in ap (λ n. (entry.0, n + more) ∷ entries) (sym number)
    by_test false is rest = ap (λ es. entry ∷ es) (rest is)

pub insert_entry-more : {K : Type 0} (eq : K → K → Bool) (key : K) (more : ℕ) (entries : List (K × ℕ)) → lookup (eq key) entries ≡ None
    → insert_entry eq entries key more ≡ with_more eq key more entries
insert_entry-more eq key more [] absent = refl
insert_entry-more {K = K} eq key more (entry ∷ entries) absent = by_test (eq key entry.0) absent (insert_entry-more eq key more entries)
  where
    by_test : (b : Bool) → cond b (Some entry.1) (lookup (eq key) entries) ≡ None
        → (lookup (eq key) entries ≡ None → insert_entry eq entries key more ≡ with_more eq key more entries)
        → cond b ((entry.0, more) ∷ entries) (entry ∷ insert_entry eq entries key more)
        ≡ cond b ((entry.0, entry.1 + more) ∷ entries) (entry ∷ with_more eq key more entries)
    by_test true is rest = cc
    by_test false is rest = ap (λ es. entry ∷ es) (rest is)

-- a number that keys have, each as often as it was counted: so many more of a key add its number as often
pub with_more_weighs : {K : Type 0} (eq : K → K → Bool) (number : K → ℕ) → ((a b : K) → eq a b ≡ true → number a ≡ number b)
    → (key : K) (more : ℕ) (entries : List (K × ℕ))
    → sum_by (λ e. e.1 * number e.0) (with_more eq key more entries) ≡ sum_by (λ e. e.1 * number e.0) entries + more * number key
with_more_weighs eq number same key more [] = omega arith
with_more_weighs {K = K} eq number same key more (entry ∷ entries) =
    by_test (eq key entry.0) refl (with_more_weighs eq number same key more entries)
  where
    weighed : K × ℕ → ℕ
    weighed e = e.1 * number e.0

    by_test : (b : Bool) → eq key entry.0 ≡ b
        → sum_by weighed (with_more eq key more entries) ≡ sum_by weighed entries + more * number key
        → sum_by weighed (cond b ((entry.0, entry.1 + more) ∷ entries) (entry ∷ with_more eq key more entries))
        ≡ sum_by weighed (entry ∷ entries) + more * number key
    by_test true is rest =
        sum_by-cons weighed (entry.0, entry.1 + more) entries
        ∙ omega (arith, sum_by-cons weighed entry entries, ap (λ n. more * n) (same key entry.0 is))
    by_test false is rest =
        sum_by-cons weighed entry (with_more eq key more entries)
        ∙ omega (arith, sum_by-cons weighed entry entries, rest)
