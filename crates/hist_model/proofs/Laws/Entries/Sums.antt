-- Sums over the elements of a list, each with its number.
-- Cited by `Laws/Entries/Jobs`, `Laws/Entries/Tasks`.
use Rattle.std.proofs.Common.{◌≡◌, ℕ, zero, suc, ◌+◌, ◌≤◌, false, eqb, List, [], ◌∷◌, refl, ap, ◌∙◌, Some, arith}
use Rattle.std.specs.Prelude.{slice_get, sum_by}
use Rattle.std.specs.List.{range_with_len}
use Rattle.std.proofs.lemmas.List.Sums.{sum_by-cons}

-- the sum of what each element gives, the first one with this number
pub sum_from : {A : Type 0} → (ℕ → A → ℕ) → ℕ → List A → ℕ
sum_from f i [] = 0
sum_from f i (x ∷ xs) = f i x + sum_from f (suc i) xs

-- no element gives more
pub sum_from_less : {A : Type 0} (f g : ℕ → A → ℕ) (i : ℕ) (xs : List A) → ((j : ℕ) (x : A) → i ≤ j → g j x ≤ f j x) → sum_from g i xs ≤ sum_from f i xs
unfolding sum_from
sum_from_less f g i [] less = omega arith
sum_from_less f g i (x ∷ xs) less = omega (arith, less i x (omega arith), sum_from_less f g (suc i) xs (λ j y le. less j y (omega arith)))

-- one element gives d less or c more, and the others no more
pub sum_from_change : {A : Type 0} (f g : ℕ → A → ℕ) (i u k c d : ℕ) (y : A) (xs : List A) → u ≡ i + k → slice_get xs k ≡ Some y → g u y + d ≤ f u y + c
    → ((j : ℕ) (x : A) → eqb u j ≡ false → g j x ≤ f j x) → sum_from g i xs + d ≤ sum_from f i xs + c
unfolding sum_from
sum_from_change f g i u k c d y [] at is here others = absurd cc
sum_from_change f g i u zero c d y (x ∷ xs) at is here_is others =
    let same : x ≡ y = cc in
    let first : i ≡ u = omega arith in
    let now : g i x + d ≤ f i x + c = rw (same, first) here_is in
    let rest : sum_from g (suc i) xs ≤ sum_from f (suc i) xs = sum_from_less f g (suc i) xs (λ j z le. others j z (grind arith)) in
    omega arith
sum_from_change f g i u (suc k) c d y (x ∷ xs) at is here others =
    let next : u ≡ suc i + k = omega arith in
    let first : g i x ≤ f i x = others i x (grind arith) in
    let rest : sum_from g (suc i) xs + d ≤ sum_from f (suc i) xs + c = sum_from_change f g (suc i) u k c d y xs next is here others in
    omega arith

-- what no element exceeds
pub sum_from_within : {A : Type 0} (f : ℕ → A → ℕ) (h : A → ℕ) (i : ℕ) (xs : List A) → ((j : ℕ) (x : A) → f j x ≤ h x) → sum_from f i xs ≤ sum_by h xs
unfolding sum_from
sum_from_within f h i [] within = omega arith
sum_from_within f h i (x ∷ xs) within = omega (arith, within i x, sum_by-cons h x xs, sum_from_within f h (suc i) xs within)

-- where each element gives nothing
pub sum_from_nothing : {A : Type 0} (f : ℕ → A → ℕ) (i : ℕ) (xs : List A) → ((j : ℕ) (x : A) → f j x ≡ 0) → sum_from f i xs ≡ 0
unfolding sum_from
sum_from_nothing f i [] none = refl
sum_from_nothing f i (x ∷ xs) none = omega (arith, none i x, sum_from_nothing f (suc i) xs none)

-- a range has each number at its place
pub range_at : (a n k : ℕ) → suc k ≤ n → slice_get (range_with_len a n) k ≡ Some (a + k)
range_at a zero k le = absurd (omega arith)
range_at a (suc n) zero le = ap Some (omega arith)
range_at a (suc n) (suc k) le = range_at (a + 1) n k (omega arith) ∙ ap Some (omega arith)
