-- Steps read one after the other, as a loop does.
-- Cited by `read_steps`.
use Rattle.std.proofs.Common.{◌≡◌, ℕ, List, [], ◌∷◌, ◌++◌, map, refl, Result, Ok, Err}
use Rattle.std.specs.List.{slice_split}
use Rattle.std.proofs.lemmas.List.{append-nil}
use Rattle.task_base.specs.declared.step.Step.{Step}
use Rattle.script_model.specs.Reasons.{◌>>=◌, ◌&◌}
use Rattle.script_model.specs.Places.{step_read, all_read, steps_read}
use Rattle.script_model.specs.Words.{is_mark}

-- the steps of both, or the least of the reasons
abbrev pub append_read : Result (List Step) ℕ → Result (List Step) ℕ → Result (List Step) ℕ
append_read r s = r & s >>= λ p. Ok (p.0 ++ p.1)

pub append_read-end : (r : Result (List Step) ℕ) → append_read r (Ok []) ≡ r
append_read-end (Ok xs) = rw append-nil refl
append_read-end (Err reason) = refl

-- words that are some are cut at the marks
pub steps_read-some : (words : List (List ℕ)) → (words ≡ [] → ⊥) → steps_read words ≡ all_read (map step_read (slice_split is_mark words))
unfolding steps_read
steps_read-some [] some = absurd (some refl)
steps_read-some (word ∷ words) some = refl

-- no words are no steps
pub steps_read-none : (words : List (List ℕ)) → words ≡ [] → steps_read words ≡ Ok []
unfolding steps_read
steps_read-none words none = rw none refl
