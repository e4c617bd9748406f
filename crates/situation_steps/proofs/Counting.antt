-- Counts over the numbers of a row, one number more at a time.
-- Cited by 10 functions of `Situation`.
use Rattle.std.proofs.Common.{◌≡◌, ℕ, ◌+◌, ◌<◌, ◌≤◌, Bool, true, false, [], ◌∷◌, arith, refl, sym, ◌∙◌}
use Rattle.std.proofs.lemmas.Bool.{true≢false}
use Rattle.std.proofs.lemmas.List.Folds.{list_any-append, list_all-append}
use Rattle.std.specs.List.{list_all, list_any, range_with_len}
use Rattle.list_laws.proofs.Counts.{count-append}
use Rattle.list_laws.proofs.Ranges.{range_all_at, range_split}
use Rattle.list_laws.specs.Lists.{count}
use Rattle.pool_laws.specs.Room.{share}

-- one number more, which passes or does not
pub count_more : (test : ℕ → Bool) (from n at now : ℕ) (passes : Bool) → at ≡ from + n → now ≡ count test (range_with_len from n) → passes ≡ test at
    → now + share passes ≡ count test (range_with_len from (n + 1))
count_more test from n at now true there is tested =
    rw (is, range_split from n 0 (n + 1) at (omega arith) there, count-append test (range_with_len from n) (at ∷ []), ← tested) refl
count_more test from n at now false there is tested =
    rw (is, range_split from n 0 (n + 1) at (omega arith) there, count-append test (range_with_len from n) (at ∷ []), ← tested) refl

-- where none so far passes the test, and the next one does not, none does so far
pub none_more : (p : ℕ → Bool) (n : ℕ) → list_any p (range_with_len 0 n) ≡ false → p n ≡ false → list_any p (range_with_len 0 (n + 1)) ≡ false
none_more p n none this =
    rw (range_split 0 n 0 (n + 1) n (omega arith) (omega arith), list_any-append p (range_with_len 0 n) (n ∷ []), none, this) refl

-- where each so far passes the test, and the next one does, each does so far
pub each_more : (p : ℕ → Bool) (from n at : ℕ) → at ≡ from + n → list_all p (range_with_len from n) ≡ true → p at ≡ true
    → list_all p (range_with_len from (n + 1)) ≡ true
each_more p from n at there each this =
    rw (range_split from n 0 (n + 1) at (omega arith) there, list_all-append p (range_with_len from n) (at ∷ []), each, this) refl

-- where one fails the test, not each passes it
pub not_each : (p : ℕ → Bool) (start len x : ℕ) → p x ≡ false → start ≤ x → x < start + len → list_all p (range_with_len start len) ≡ false
not_each p start len x fails from to = at (list_all p (range_with_len start len)) refl
  where
    at : (b : Bool) → list_all p (range_with_len start len) ≡ b → list_all p (range_with_len start len) ≡ false
    at false is = is
    at true is = absurd (true≢false (sym (range_all_at p start len x is from to) ∙ fails))
