-- Bodies that are made task by task.
-- Cited by `bodies_of`, `app_modes`.
use Rattle.std.proofs.Common.{◌≡◌, ℕ, zero, suc, ◌+◌, ◌<◌, ◌≤◌, List, [], ◌∷◌, ◌++◌, length, get_or, refl, inl, inr, Some, arith}
use Rattle.std.specs.Prelude.{◌⊎◌, slice_get, sum_by}
use Rattle.std.proofs.lemmas.Option.{same_Some, slice_get-get_or}
use Rattle.std.proofs.lemmas.List.Sums.{sum_by-cons}
use Rattle.list_laws.proofs.Places.{slice_get-append}
use Rattle.task_base.specs.Plan.{Plan}
use Rattle.task_base.specs.declared.step.Step.{Step}
use Rattle.task_model.specs.Seats.{steps_of}

-- those that are made are of the steps of the first tasks, and none of these is done
pub record AreFirst {X : Type 0} (bodies : List X) (whole rest : X → List Step) (script : Plan) : Type 0 where
  pub whole_is : (t : ℕ) (body : X) → slice_get bodies t ≡ Some body → whole body ≡ steps_of script t
  pub rest_is : (t : ℕ) (body : X) → slice_get bodies t ≡ Some body → rest body ≡ steps_of script t

-- one more
pub one_more : {X : Type 0} (bodies : List X) (whole rest : X → List Step) (script : Plan) (body : X) → AreFirst bodies whole rest script
    → whole body ≡ steps_of script (length bodies) → rest body ≡ steps_of script (length bodies) → AreFirst (bodies ++ body ∷ []) whole rest script
one_more bodies whole rest script body first whole_is rest_is = record {
  whole_is = λ t b is. at whole t b first.whole_is whole_is (slice_get-append bodies (body ∷ []) t b is);
  rest_is = λ t b is. at rest t b first.rest_is rest_is (slice_get-append bodies (body ∷ []) t b is);
}
  where
    at : (steps : _ → List Step) (t : ℕ) (b : _) → ((u : ℕ) (c : _) → slice_get bodies u ≡ Some c → steps c ≡ steps_of script u)
        → steps body ≡ steps_of script (length bodies)
        → ((t < length bodies) × (slice_get bodies t ≡ Some b)) ⊎ ((j : ℕ) × (t ≡ length bodies + j) × (slice_get (body ∷ []) j ≡ Some b))
        → steps b ≡ steps_of script t
    at steps t b known new (inl old) = known t b old.1
    at steps t b known new (inr (zero, place, is)) =
        let same : body ≡ b = same_Some body b is in
        let last : t ≡ length bodies = omega (arith, place) in
        rw (← same, last) new
    at steps t b known new (inr (suc j, place, is)) = absurd cc

-- a task has no more steps than all together
pub few_steps : (tasks : List (List Step)) (t : ℕ) (d : List Step) → t < length tasks → length (get_or tasks t d) ≤ sum_by (λ steps. length steps) tasks
few_steps [] t d within = absurd (omega (arith, within))
few_steps (steps ∷ tasks) zero d within = omega (arith, sum_by-cons (λ steps. length steps) steps tasks)
few_steps (steps ∷ tasks) (suc t) d within =
    omega (arith, sum_by-cons (λ steps. length steps) steps tasks, few_steps tasks t d (omega (arith, within)))

-- the steps of a task that is there
pub steps_at : (script : Plan) (t : ℕ) (d : List Step) → t < length script.tasks → steps_of script t ≡ get_or script.tasks t d
steps_at script t d within = rw (slice_get-get_or script.tasks t d within) refl
