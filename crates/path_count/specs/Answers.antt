-- What is answered of the paths from a place.
use Rattle.std.specs.Prelude.{◌≡◌, ℕ, suc, ◌<◌, ◌≤◌, Bool, List, length}
use Rattle.path_count.specs.Layers.{layer, paths_below}
use Rattle.path_count.specs.declared.count.PathCount.{PathCount}
use Rattle.path_count.specs.declared.count.PathCount.TheVariants.{All, TooMany}

-- no layer of fewer steps than this has more places than may be kept
abbrev pub AreFew : {P : Type 0} → (P → P → Bool) → (P → List P) → P → ℕ → ℕ → Type 0
AreFew eq onward start most steps = (n : ℕ) → n < steps → length (layer eq onward start n) ≤ most

-- the answer to how many paths of at most so many steps lead to an end, where so many places of a layer may be kept: their
-- number, where each layer has few places; otherwise the first layer that has more, and how many paths of fewer steps there are
abbrev pub IsAnswer : {P : Type 0} → (P → P → Bool) → (P → List P) → (P → Bool) → P → ℕ → ℕ → PathCount → Type 0
IsAnswer eq onward is_end start steps most (All number) =
    (number ≡ paths_below eq onward is_end start (suc steps)) × AreFew eq onward start most (suc steps)
IsAnswer eq onward is_end start steps most (TooMany after at_least) =
    (after ≤ steps) × (most < length (layer eq onward start after)) × AreFew eq onward start most after
    × (at_least ≡ paths_below eq onward is_end start after)
