-- How often each key is counted.
use Rattle.std.specs.Prelude.{ℕ, ◌+◌, Bool, if◌then◌else◌, List, [], ◌∷◌}

-- with so many more of a key: they are added where an equal key stands, or it comes to the end
abbrev pub with_more : {K : Type 0} → (K → K → Bool) → K → ℕ → List (K × ℕ) → List (K × ℕ)
with_more eq key more [] = (key, more) ∷ []
with_more eq key more (entry ∷ entries) =
    if eq key entry.0 then (entry.0, entry.1 + more) ∷ entries else entry ∷ with_more eq key more entries
