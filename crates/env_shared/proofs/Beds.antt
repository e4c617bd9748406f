-- Beds in the places of their seats.
-- Cited by `beds`.
use Rattle.std.proofs.Common.{◌≡◌, ℕ, zero, suc, ◌+◌, List, [], ◌∷◌, ◌++◌, length, refl, sym, arith, inl, inr, Some}
use Rattle.std.specs.Prelude.{slice_get}
use Rattle.std.proofs.lemmas.Option.{none-some}
use Rattle.list_laws.proofs.Places.{slice_get-append}
use Rattle.list_laws.proofs.Values.{some-injective}
use Rattle.env_shared.specs.Beds.{AreInPlace}

-- the only bed of a list
alone : (place bed seat : ℕ) → slice_get (bed ∷ []) place ≡ Some seat → (place ≡ 0) × (seat ≡ bed)
alone zero bed seat here = (refl, sym (some-injective here))
alone (suc place) bed seat here = absurd (none-some seat here)

-- one more, with the number of its place
pub placed_push : (beds : List ℕ) (bed : ℕ) → AreInPlace beds → bed ≡ length beds → AreInPlace (beds ++ bed ∷ [])
placed_push beds bed was number place seat here = elim (slice_get-append beds (bed ∷ []) place seat here) [
  | inl p ↦ was place seat p.1
  | inr p ↦ let last = alone p.0 bed seat p.2 in omega (arith, last.0, last.1, p.1, number)
]
