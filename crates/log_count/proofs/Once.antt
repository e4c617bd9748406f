-- Each situation stands once in a layer.
-- Cited by `counted.rt`.
use Rattle.std.proofs.Common.{◌≡◌, ℕ, zero, suc, ◌+◌, Bool, true, false, cond, List, [], ◌∷◌, map, refl, sym, ap, ◌∙◌}
use Rattle.std.specs.Prelude.{fold}
use Rattle.std.specs.List.{AllByRecursion}
use Rattle.std.proofs.lemmas.Bool.{both_ways}
use Rattle.task_base.specs.Plan.{Plan}
use Rattle.situation.specs.Counts.{NoDoubles}
use Rattle.situation.specs.Situation.{Situation}
use Rattle.log_count.specs.Equal.{same_situation}
use Rattle.log_count.specs.Layers.{Counted, found_after, gathered, layer, with_more}
use Rattle.log_count.proofs.Equal.{same_itself}

-- the situations of some counts
abbrev kinds_of : List Counted → List Situation
kinds_of known = map (λ c. c.situation) known

all_with_more : (P : Situation → Type 0) (more : Counted) (known : List Counted) → AllByRecursion P (kinds_of known) → P more.situation
    → AllByRecursion P (kinds_of (with_more more known))
all_with_more P more [] all here = (here, tt)
all_with_more P more (c ∷ known) all here = by_test (same_situation c.situation more.situation) (all_with_more P more known all.1 here)
  where
    by_test : (b : Bool) → AllByRecursion P (kinds_of (with_more more known))
        → AllByRecursion P (kinds_of (cond b (record { situation = c.situation; pasts = c.pasts + more.pasts } ∷ known) (c ∷ with_more more known)))
    by_test true rest = all
    by_test false rest = (all.0, rest)

once_with_more : (more : Counted) (known : List Counted) → NoDoubles (kinds_of known) → NoDoubles (kinds_of (with_more more known))
once_with_more more [] once = (tt, tt)
once_with_more more (c ∷ known) once = by_test (same_situation c.situation more.situation) refl (once_with_more more known once.1)
  where
    by_test : (b : Bool) → same_situation c.situation more.situation ≡ b → NoDoubles (kinds_of (with_more more known))
        → NoDoubles (kinds_of (cond b (record { situation = c.situation; pasts = c.pasts + more.pasts } ∷ known) (c ∷ with_more more known)))
    by_test true is rest = once
    by_test false is rest = (
      all_with_more (λ t. c.situation ≡ t → ⊥) more known once.0
          (λ same. both_ways (same_situation c.situation more.situation) is (ap (same_situation c.situation) (sym same) ∙ same_itself c.situation)),
      rest,
    )

once_gathered : (found known : List Counted) → NoDoubles (kinds_of known) → NoDoubles (kinds_of (fold (λ all c. with_more c all) known found))
once_gathered [] known once = once
once_gathered (c ∷ found) known once = once_gathered found (with_more c known) (once_with_more c known once)

pub situations_once : (script : Plan) (tick : Situation → ℕ) (n : ℕ) → NoDoubles (map (λ c. c.situation) (layer script tick n))
unfolding layer
situations_once script tick zero = (tt, tt)
situations_once script tick (suc n) = once_gathered (found_after script tick (layer script tick n)) [] tt

-- after a layer with no pasts there are none
pub layers_end : (script : Plan) (tick : Situation → ℕ) (n : ℕ) → layer script tick n ≡ [] → layer script tick (suc n) ≡ []
unfolding layer
layers_end script tick n is = ap (λ known. gathered (found_after script tick known)) is
