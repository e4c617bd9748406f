-- What stands at the later places of words, when those before them have been read.
-- Cited by `runner_places`, `job`.
use Rattle.std.proofs.Common.{◌≡◌, ℕ, suc, ltb, List, [], ◌∷◌, length, drop, refl, inl, inr, arith}
use Rattle.std.proofs.lemmas.Bool.{cases_lt, lt-ltb, le-ltb}
use Rattle.script_model.specs.Reasons.{◌&◌}
use Rattle.value_words.specs.Words.{priority_named, behaviour_named}
use Rattle.script_model.specs.Places.{id_at, number_at, said_at, name_at, ends_at, may_block_at, kind_named, steps_read}

five_more : (n : ℕ) → ltb 5 (suc (suc (suc (suc (suc n))))) ≡ ltb 0 n
five_more n =
    elim (cases_lt 0 n) [
      | inl lt ↦ rw (lt-ltb 0 n lt, lt-ltb 5 (suc (suc (suc (suc (suc n))))) (omega arith)) refl
      | inr le ↦ rw (le-ltb 0 n le, le-ltb 5 (suc (suc (suc (suc (suc n))))) (omega arith)) refl
    ]

-- the places of a runner's line, read one after the other
pub runner_line : (w : List (List ℕ)) → (id_at w 0 & said_at kind_named (drop 1 w) 0 & name_at priority_named (drop 1 (drop 1 w)) 0
    & name_at behaviour_named (drop 1 (drop 1 (drop 1 w))) 0 & may_block_at (drop 1 (drop 1 (drop 1 (drop 1 w)))) 0
    & ends_at (drop 1 (drop 1 (drop 1 (drop 1 (drop 1 w))))) 0)
    ≡ (id_at w 0 & said_at kind_named w 1 & name_at priority_named w 2 & name_at behaviour_named w 3 & may_block_at w 4 & ends_at w 5)
runner_line [] = refl
runner_line (a ∷ []) = refl
runner_line (a ∷ b ∷ []) = refl
runner_line (a ∷ b ∷ c ∷ []) = refl
runner_line (a ∷ b ∷ c ∷ d ∷ []) = refl
runner_line (a ∷ b ∷ c ∷ d ∷ e ∷ rest) = rw (five_more (length rest)) refl

-- the places of a job's line, read one after the other
pub job_line : (w : List (List ℕ)) → (id_at w 0 & name_at priority_named (drop 1 w) 0 & name_at behaviour_named (drop 1 (drop 1 w)) 0
    & number_at 0 65536 (drop 1 (drop 1 (drop 1 w))) 0 & number_at 1 64 (drop 1 (drop 1 (drop 1 w))) 1 & steps_read (drop 2 (drop 1 (drop 1 (drop 1 w)))))
    ≡ (id_at w 0 & name_at priority_named w 1 & name_at behaviour_named w 2 & number_at 0 65536 w 3 & number_at 1 64 w 4 & steps_read (drop 5 w))
job_line [] = refl
job_line (a ∷ []) = refl
job_line (a ∷ b ∷ []) = refl
job_line (a ∷ b ∷ c ∷ rest) = refl
