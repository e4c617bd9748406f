-- The paths from a place, counted by layers: for each number of steps, how many paths lead to each place.
use Rattle.std.specs.Prelude.{ℕ, zero, suc, Bool, if◌then◌else◌, List, [], ◌∷◌, fold, map, flat_map, sum_by}
use Rattle.std.specs.List.{range_with_len}
use Rattle.key_tally.specs.Counts.{with_more}

-- each of a list is counted where its place stands
abbrev pub gathered : {P : Type 0} → (P → P → Bool) → List (P × ℕ) → List (P × ℕ)
gathered eq found = fold (λ known c. with_more eq c.0 c.1 known) [] found

-- where the paths to some places go on to, one step further
abbrev pub spread : {P : Type 0} → (P → List P) → List (P × ℕ) → List (P × ℕ)
spread onward layer = flat_map (λ c. map (λ p. (p, c.1)) (onward c.0)) layer

-- how many paths of so many steps lead to each place, each place once
unfoldable pub layer : {P : Type 0} → (P → P → Bool) → (P → List P) → P → ℕ → List (P × ℕ)
layer eq onward start zero = (start, 1) ∷ []
layer eq onward start (suc n) = gathered eq (spread onward (layer eq onward start n))

-- how many paths of a layer lead to an end
abbrev pub ending : {P : Type 0} → (P → Bool) → List (P × ℕ) → ℕ
ending is_end layer = sum_by (λ c. if is_end c.0 then c.1 else 0) layer

-- how many paths of fewer steps than this lead to an end
unfoldable pub paths_below : {P : Type 0} → (P → P → Bool) → (P → List P) → (P → Bool) → P → ℕ → ℕ
paths_below eq onward is_end start steps = sum_by (λ n. ending is_end (layer eq onward start n)) (range_with_len 0 steps)
