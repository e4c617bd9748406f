-- A task that is not ripe stands behind those that become ripe before it or with it.
-- Cited by `put_at`.
use Rattle.std.proofs.Common.{◌≡◌, ℕ, suc, ◌+◌, Bool, true, false, cond, leb, List, [], ◌∷◌, refl, ap, ◌∙◌, arith, Some}
use Rattle.std.specs.List.{insert, prefix_len}
use Rattle.std.specs.Prelude.{nat_le}
use Rattle.list_laws.specs.Sorts.{insert_by}
use Rattle.situation.specs.Onward.{not_later, put_in}
use Rattle.situation.specs.Situation.{Unripe}

behind_one : (v u : Unripe) (us : List Unripe) (n m : ℕ) → m ≡ suc n → insert (v ∷ us) m u ≡ v ∷ insert us n u
behind_one v u us n m is = rw is refl

pub put_at : (u : Unripe) (us : List Unripe) → insert us (prefix_len (λ v. nat_le v.ripe u.ripe) us) u ≡ put_in (Some u) us
put_at u [] = refl
put_at u (v ∷ us) = by_test (leb v.ripe u.ripe) (put_at u us)
  where
    by_test : (b : Bool) → insert us (prefix_len (λ v. nat_le v.ripe u.ripe) us) u ≡ insert_by not_later u us
        → insert (v ∷ us) (cond b (1 + prefix_len (λ v. nat_le v.ripe u.ripe) us) 0) u ≡ cond b (v ∷ insert_by not_later u us) (u ∷ v ∷ us)
    by_test false rest = refl
    by_test true rest = behind_one v u us (prefix_len (λ w. nat_le w.ripe u.ripe) us) (1 + prefix_len (λ w. nat_le w.ripe u.ripe) us) (omega arith)
        ∙ ap (λ xs. v ∷ xs) rest
