-- Which tasks have marks.
-- Cited by `Reasons`.
use Rattle.std.proofs.Common.{◌≡◌, ℕ, ◌<◌, Bool, true, false, eqb, List, [], ◌∷◌, length, get_or, refl, sym, ap, ◌∙◌}
use Rattle.std.specs.Prelude.{◌||◌, replicate, slice_set}
use Rattle.std.specs.List.{list_any}
use Rattle.std.proofs.Math.Bool.{or-false, or-true}
use Rattle.std.proofs.lemmas.Bool.{both_ways, eqb-true, eq-eqb}
use Rattle.std.proofs.lemmas.List.{length-replicate, length-set, get_or-set_same, get_or-set_other}
use Rattle.std.proofs.lemmas.Option.{get_or_from_slice_get}
use Rattle.list_laws.proofs.Places.{slice_get-replicate}
use Rattle.task_reply.specs.Tables.{marked}

-- a task has a mark where it had one, or is one of those that are marked
has_mark : (marks : List Bool) (tasks : List ℕ) (t : ℕ) → t < length marks
    → get_or (marked marks tasks) t false ≡ (get_or marks t false || list_any (λ u. eqb u t) tasks)
has_mark marks [] t there = sym (or-false (get_or marks t false))
has_mark marks (u ∷ tasks) t there =
    has_mark (slice_set marks u true) tasks t (rw (length-set marks u true) there) ∙ at (eqb u t) refl
  where
    at : (b : Bool) → eqb u t ≡ b
        → (get_or (slice_set marks u true) t false || list_any (λ v. eqb v t) tasks) ≡ (get_or marks t false || (b || list_any (λ v. eqb v t) tasks))
    at true is = rw (
      eqb-true u t is,
      get_or-set_same marks t true false there,
      or-true (get_or marks t false),
    ) refl
    at false is = rw (get_or-set_other marks u t true false (λ same. both_ways (eqb u t) is (eq-eqb u t (sym same)))) refl

-- where none had a mark
pub is_marked : (n : ℕ) (tasks : List ℕ) (t : ℕ) → t < n → get_or (marked (replicate n false) tasks) t false ≡ list_any (λ u. eqb u t) tasks
is_marked n tasks t there =
    has_mark (replicate n false) tasks t (rw (length-replicate n false) there)
    ∙ ap (λ b. b || list_any (λ u. eqb u t) tasks) (get_or_from_slice_get (replicate n false) t false false (slice_get-replicate n t false there))
