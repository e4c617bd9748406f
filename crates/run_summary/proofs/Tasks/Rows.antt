-- Sums over rows of numbers.
-- Cited by `Tasks/Cells`, `Tasks/Ends`, `Tasks/Numbers`, `Tasks/Once`, `Tasks/Pumped`, `Tasks`.
use Rattle.std.proofs.Common.{◌≡◌, ℕ, zero, suc, ◌+◌, ◌<◌, ◌≤◌, Bool, cond, List, [], ◌∷◌, refl, ap, ⊎_elim, arith}
use Rattle.std.specs.Prelude.{sum_by}
use Rattle.std.specs.List.{range_with_len}
use Rattle.std.proofs.lemmas.Bool.{cases_eq}
use Rattle.std.proofs.lemmas.List.Sums.{sum_by-cons}
use Rattle.list_laws.specs.Lists.{count}
use Rattle.list_laws.proofs.Counts.{count-cons}

-- two functions that agree on a row have one sum
pub sum_same : (f g : ℕ → ℕ) (start len : ℕ) → ((k : ℕ) → start ≤ k → k < start + len → f k ≡ g k)
    → sum_by f (range_with_len start len) ≡ sum_by g (range_with_len start len)
sum_same f g start zero same = refl
sum_same f g start (suc len) same = omega (
  arith,
  sum_by-cons f start (range_with_len (start + 1) len),
  sum_by-cons g start (range_with_len (start + 1) len),
  same start (omega arith) (omega arith),
  sum_same f g (start + 1) len (λ k from to. same k (omega (arith, from)) (omega (arith, to))),
)

-- of two functions that agree on a row but at one of its numbers, where the second is more, the second sum is more by as much
pub sum_more : (f g : ℕ → ℕ) (more i start len : ℕ) → start ≤ i → i < start + len → ((k : ℕ) → (k ≡ i → ⊥) → f k ≡ g k) → g i ≡ f i + more
    → sum_by g (range_with_len start len) ≡ sum_by f (range_with_len start len) + more
sum_more f g more i start zero from to same at = absurd (omega (arith, from, to))
sum_more f g more i start (suc len) from to same at = ⊎_elim here
    (λ other. later other (sum_more f g more i (start + 1) len (omega (arith, from, other)) (omega (arith, to)) same at)) (cases_eq start i)
  where
    parts : (h : ℕ → ℕ) → sum_by h (range_with_len start (suc len)) ≡ h start + sum_by h (range_with_len (start + 1) len)
    parts h = sum_by-cons h start (range_with_len (start + 1) len)

    here : start ≡ i → sum_by g (range_with_len start (suc len)) ≡ sum_by f (range_with_len start (suc len)) + more
    here is = omega (
      arith,
      parts f,
      parts g,
      ap g is,
      ap f is,
      at,
      sum_same f g (start + 1) len (λ k above below. same k (λ k_is. omega (arith, above, k_is, is))),
    )

    later : (start ≡ i → ⊥) → sum_by g (range_with_len (start + 1) len) ≡ sum_by f (range_with_len (start + 1) len) + more
        → sum_by g (range_with_len start (suc len)) ≡ sum_by f (range_with_len start (suc len)) + more
    later other rest = omega (arith, parts f, parts g, same start other, rest)

-- the sum of two functions is the sum of both sums
pub sum_plus : {A : Type 0} (f g : A → ℕ) (xs : List A) → sum_by (λ x. f x + g x) xs ≡ sum_by f xs + sum_by g xs
sum_plus f g [] = refl
sum_plus f g (x ∷ xs) = omega (arith, sum_by-cons (λ y. f y + g y) x xs, sum_by-cons f x xs, sum_by-cons g x xs, sum_plus f g xs)

-- the ones of a row sum to its length
pub sum_ones : (start len : ℕ) → sum_by (λ k. 1) (range_with_len start len) ≡ len
sum_ones start zero = refl
sum_ones start (suc len) = omega (arith, sum_by-cons (λ (k : ℕ). 1) start (range_with_len (start + 1) len), sum_ones (start + 1) len)

-- and zeros to nothing
pub sum_zeros : (start len : ℕ) → sum_by (λ k. 0) (range_with_len start len) ≡ 0
sum_zeros start zero = refl
sum_zeros start (suc len) = sum_zeros (start + 1) len

-- a count is a sum of ones
pub count_sum : {A : Type 0} (test : A → Bool) (f : A → ℕ) (xs : List A) → ((x : A) → f x ≡ cond (test x) 1 0) → count test xs ≡ sum_by f xs
count_sum test f [] ones = refl
count_sum test f (x ∷ xs) ones = omega (arith, count-cons test x xs, sum_by-cons f x xs, ones x, count_sum test f xs ones)

-- each term is within the sum
pub term_within : (f : ℕ → ℕ) (i start len : ℕ) → start ≤ i → i < start + len → f i ≤ sum_by f (range_with_len start len)
term_within f i start zero from to = absurd (omega (arith, from, to))
term_within f i start (suc len) from to = ⊎_elim here
    (λ other. later (term_within f i (start + 1) len (omega (arith, from, other)) (omega (arith, to)))) (cases_eq start i)
  where
    parts : sum_by f (range_with_len start (suc len)) ≡ f start + sum_by f (range_with_len (start + 1) len)
    parts = sum_by-cons f start (range_with_len (start + 1) len)

    here : start ≡ i → f i ≤ sum_by f (range_with_len start (suc len))
    here is = omega (arith, parts, ap f is)

    later : f i ≤ sum_by f (range_with_len (start + 1) len) → f i ≤ sum_by f (range_with_len start (suc len))
    later rest = omega (arith, parts, rest)
