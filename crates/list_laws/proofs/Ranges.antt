-- The numbers of a row.
-- Cited by `Made`, `Pigeons`, `call_laws`, `env_core`, `env_explain`, `hist_model`, `live_core`, `log_context`, `log_count`, `log_moves`,
-- `next_entry`, `open_explain`, `order_answer`, `pool_core`, `pool_laws`, `run_summary`, `simulation`, `situation`, `told_context`,
-- `wide_script`.
use Rattle.std.proofs.Common.{◌≡◌, ℕ, zero, suc, ◌+◌, ◌<◌, ◌≤◌, Bool, true, false, eqb, ◌∷◌, ◌++◌, refl, sym, ap, ◌∙◌, inl, inr, arith}
use Rattle.std.specs.Prelude.{◌||◌, ◌⊎◌}
use Rattle.std.specs.List.{list_any, list_all, range_with_len, AllByRecursion}
use Rattle.std.proofs.lemmas.Bool.{ne_eqb, eq-eqb, cases_eq, cases_lt, and_parts, or_left, or_right}
use Rattle.list_laws.specs.Lists.{count}
use Rattle.list_laws.proofs.Counts.{count_step}

pub AllByRecursion-range : (P : ℕ → Type 0) (start len : ℕ) → ((x : ℕ) → start ≤ x → x < start + len → P x) → AllByRecursion P (range_with_len start len)
AllByRecursion-range P start zero h = tt
AllByRecursion-range P start (suc len) h = (
  h start (omega arith) (omega arith),
  AllByRecursion-range P (start + 1) len
      (λ x from to. h x (omega (arith, from)) (omega (arith, to))),
)

pub range_split : (a m n k t : ℕ) → k ≡ m + suc n → t ≡ a + m → range_with_len a k ≡ range_with_len a m ++ t ∷ range_with_len (t + 1) n
range_split a zero n k t long there = let e : k ≡ suc n = omega arith in let s : t ≡ a = omega arith in rw (e, s) refl
range_split a (suc m) n k t long there =
    let shorter : k ≡ suc (m + suc n) = omega arith in
    rw (shorter) (ap (λ rest. a ∷ rest) (range_split (a + 1) m n (m + suc n) t refl (omega arith)))

pub range_without : (m start len : ℕ) → m < start → count (λ x. eqb m x) (range_with_len start len) ≡ 0
range_without m start zero below = refl
range_without m start (suc len) below = count_step (λ x. eqb m x) start (range_with_len (start + 1) len) false
    (ne_eqb m start (λ same. omega (arith, same, below))) ∙ range_without m (start + 1) len (omega (arith, below))

-- each number of a row stands in it once
pub range_with : (m start len : ℕ) → start ≤ m → m < start + len → count (λ x. eqb m x) (range_with_len start len) ≡ 1
range_with m start zero from to = absurd (omega (arith, from, to))
range_with m start (suc len) from to = by_start (cases_eq m start) (λ more. range_with m (start + 1) len more (omega (arith, to)))
  where
    between : (m ≡ start → ⊥) → (start < m) ⊎ (m ≤ start) → start + 1 ≤ m
    between other (inl less) = omega (arith, less)
    between other (inr more) = absurd (other (omega (arith, from, more)))

    by_start : (m ≡ start) ⊎ (m ≡ start → ⊥) → (start + 1 ≤ m → count (λ x. eqb m x) (range_with_len (start + 1) len) ≡ 1)
        → count (λ x. eqb m x) (range_with_len start (suc len)) ≡ 1
    by_start (inl same) rest = count_step (λ x. eqb m x) start (range_with_len (start + 1) len) true (eq-eqb m start same)
        ∙ ap suc (range_without m (start + 1) len (omega (arith, same)))
    by_start (inr other) rest = count_step (λ x. eqb m x) start (range_with_len (start + 1) len) false (ne_eqb m start other)
        ∙ rest (between other (cases_lt start m))

-- a test on the numbers of a row, at one of them
pub range_all_at : (p : ℕ → Bool) (start len x : ℕ) → list_all p (range_with_len start len) ≡ true → start ≤ x → x < start + len → p x ≡ true
range_all_at p start zero x all from to = absurd (omega (arith, from, to))
range_all_at p start (suc len) x all from to = by_start (cases_eq x start) (and_parts (p start) (list_all p (range_with_len (start + 1) len)) all)
    (λ rest more. range_all_at p (start + 1) len x rest more (omega (arith, to)))
  where
    between : (x ≡ start → ⊥) → (start < x) ⊎ (x ≤ start) → start + 1 ≤ x
    between other (inl less) = omega (arith, less)
    between other (inr more) = absurd (other (omega (arith, from, more)))

    by_start : (x ≡ start) ⊎ (x ≡ start → ⊥) → (p start ≡ true) × (list_all p (range_with_len (start + 1) len) ≡ true)
        → (list_all p (range_with_len (start + 1) len) ≡ true → start + 1 ≤ x → p x ≡ true) → p x ≡ true
    by_start (inl same) parts rest = ap p same ∙ parts.0
    by_start (inr other) parts rest = rest parts.1 (between other (cases_lt start x))

pub range_any_at : (p : ℕ → Bool) (start len x : ℕ) → p x ≡ true → start ≤ x → x < start + len → list_any p (range_with_len start len) ≡ true
range_any_at p start zero x is from to = absurd (omega (arith, from, to))
range_any_at p start (suc len) x is from to = by_start (cases_eq x start) (λ more. range_any_at p (start + 1) len x is more (omega (arith, to)))
  where
    between : (x ≡ start → ⊥) → (start < x) ⊎ (x ≤ start) → start + 1 ≤ x
    between other (inl less) = omega (arith, less)
    between other (inr more) = absurd (other (omega (arith, from, more)))

    by_start : (x ≡ start) ⊎ (x ≡ start → ⊥) → (start + 1 ≤ x → list_any p (range_with_len (start + 1) len) ≡ true)
        → (p start || list_any p (range_with_len (start + 1) len)) ≡ true
    by_start (inl same) rest = or_left (p start) (list_any p (range_with_len (start + 1) len)) (ap p (sym same) ∙ is)
    by_start (inr other) rest = or_right (p start) (list_any p (range_with_len (start + 1) len)) (rest (between other (cases_lt start x)))
