-- Lists that are the same, place by place.
-- Cited by `same_lists`, `ByLine`.
use Rattle.std.proofs.Common.{◌≡◌, ℕ, zero, suc, ◌<◌, Bool, true, false, List, [], ◌∷◌, length, get_or, refl, ap, arith}
use Rattle.std.specs.Prelude.{◌&&◌}
use Rattle.log_count.specs.Equal.{same_list}

-- nothing is true beside what is false
pub and_false : (a : Bool) → (a && false) ≡ false
and_false true = refl
and_false false = refl

-- lists of other lengths are not the same
pub same_list-longer : {A : Type 0} (same : A → A → Bool) (xs ys : List A) → (length xs ≡ length ys → ⊥) → same_list same xs ys ≡ false
same_list-longer same [] [] other = absurd (other refl)
same_list-longer same [] (y ∷ ys) other = refl
same_list-longer same (x ∷ xs) [] other = refl
same_list-longer same (x ∷ xs) (y ∷ ys) other = rw (same_list-longer same xs ys (λ e. other (ap suc e))) (and_false (same x y))

-- where the elements at some place are not the same
pub same_list-at : {A : Type 0} (same : A → A → Bool) (xs ys : List A) (k : ℕ) (d e : A) → k < length xs → length xs ≡ length ys
    → same (get_or xs k d) (get_or ys k e) ≡ false → same_list same xs ys ≡ false
same_list-at same [] ys k d e within long other = absurd (omega (arith, within))
same_list-at same (x ∷ xs) [] k d e within long other = refl
same_list-at same (x ∷ xs) (y ∷ ys) zero d e within long other = rw other refl
same_list-at same (x ∷ xs) (y ∷ ys) (suc k) d e within long other =
    rw (same_list-at same xs ys k d e (omega (arith, within)) (omega (arith, long)) other) (and_false (same x y))

-- where the elements at each place are the same
pub same_list-each : {A : Type 0} (same : A → A → Bool) (xs ys : List A) → length xs ≡ length ys
    → ((k : ℕ) → k < length xs → (d e : A) → same (get_or xs k d) (get_or ys k e) ≡ true) → same_list same xs ys ≡ true
same_list-each same [] [] long each = refl
same_list-each same [] (y ∷ ys) long each = absurd (omega (arith, long))
same_list-each same (x ∷ xs) [] long each = absurd (omega (arith, long))
same_list-each same (x ∷ xs) (y ∷ ys) long each =
    rw (each zero (omega arith) x y) (same_list-each same xs ys (omega (arith, long)) (λ k within d e. each (suc k) (omega (arith, within)) d e))
