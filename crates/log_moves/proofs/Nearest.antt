-- The first number of a row that passes a test, where the row is gone through from its start.
-- Cited by `first_back`, `first_on`.
use Rattle.std.proofs.Common.{◌≡◌, ℕ, ◌+◌, ◌-◌, ◌<◌, Bool, true, false, [], ◌∷◌, Some, None, refl, arith}
use Rattle.std.specs.Prelude.{find}
use Rattle.std.specs.List.{range_with_len}
use Rattle.std.proofs.lemmas.List.Folds.{find-append}
use Rattle.list_laws.proofs.Ranges.{range_split}

-- none did yet, nor does the next one
pub none_more : (test : ℕ → Bool) (n : ℕ) → find test (range_with_len 0 n) ≡ None → test n ≡ false → find test (range_with_len 0 (n + 1)) ≡ None
none_more test n none fails = rw (range_split 0 n 0 (n + 1) n (omega arith) (omega arith), find-append test (range_with_len 0 n) (n ∷ []), none, fails) refl

-- none did yet, and the next one does
pub first_here : (test : ℕ → Bool) (n len : ℕ) → n < len → find test (range_with_len 0 n) ≡ None → test n ≡ true
    → find test (range_with_len 0 len) ≡ Some n
first_here test n len below none passes = rw (
  range_split 0 n (len - n - 1) len n (omega (arith, below)) (omega arith),
  find-append test (range_with_len 0 n) (n ∷ range_with_len (n + 1) (len - n - 1)),
  none,
  passes,
) refl
