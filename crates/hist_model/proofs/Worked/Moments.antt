-- Readings of clocks, and the moments that they become.
use Rattle.std.proofs.Common.{◌≡◌, [], ◌∷◌, refl}
use Rattle.hist_model.specs.Moments.{moments_of}

-- a clock that goes on
goes_on : moments_of (0 ∷ 5 ∷ 5 ∷ 12 ∷ []) ≡ 0 ∷ 5 ∷ 5 ∷ 12 ∷ []
unfolding moments_of
goes_on = refl

-- a clock that is set back: its moment stays until it has caught up
set_back : moments_of (7 ∷ 3 ∷ 6 ∷ 9 ∷ []) ≡ 7 ∷ 7 ∷ 7 ∷ 9 ∷ []
unfolding moments_of
set_back = refl

-- a clock that goes past 2^62, and is set back then: its moment stays there
goes_too_far : moments_of (4611686018427387903 ∷ 4611686018427387905 ∷ 18446744073709551615 ∷ 4 ∷ [])
    ≡ 4611686018427387903 ∷ 4611686018427387904 ∷ 4611686018427387904 ∷ 4611686018427387904 ∷ []
unfolding moments_of
goes_too_far = refl

no_reading : moments_of [] ≡ []
unfolding moments_of
no_reading = refl
