-- What a source has left, what a sink holds, and how a count of failures grows.
use Rattle.std.specs.Prelude.{◌≡◌, ◌<◌, ◌+◌, ◌-◌, ◌^◌, ◌⊎◌, ℕ, min, List, ◌++◌, IsSome, Option}
use Rattle.std.specs.Option.{option_map}

-- a piece came from the front of what was left, where that is told
abbrev pub Gives : Option (List ℕ) → List ℕ → Option (List ℕ) → Type 0
Gives before piece after = before ≡ option_map (λ rest. piece ++ rest) after

-- where what is held is still told, it is what was held with the piece behind it
abbrev pub Gains : Option (List ℕ) → List ℕ → Option (List ℕ) → Type 0
Gains before piece after = IsSome after → after ≡ option_map (λ held. held ++ piece) before

-- a count one higher, which stays at the last value of a counter
abbrev pub raised : ℕ → ℕ
raised count = min (count + 1) (2 ^ 64 - 1)

-- a count rose in a call: it is greater after it than before, or stands at the last value of a counter
abbrev pub Rose : ℕ → ℕ → Type 0
Rose before after = (before < after) ⊎ (after ≡ 2 ^ 64 - 1)
