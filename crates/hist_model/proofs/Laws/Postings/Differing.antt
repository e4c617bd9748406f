-- The test for lists without repetitions, and what it does on scripts.
-- Cited by `postings.rt`.
use Rattle.std.proofs.Common.{◌≡◌, ℕ, ◌≤◌, Bool, true, false, cond, eqb, List, [], ◌∷◌, length, refl, arith}
use Rattle.std.specs.Prelude.{◌↔◌, IsTrue, filter}
use Rattle.std.proofs.lemmas.Bool.{eqb-true, and_parts, eq-eqb}
use Rattle.task_base.specs.Plan.{Plan}
use Rattle.task_base.specs.declared.script.Action.TheVariants as actions
use Rattle.task_base.specs.declared.step.Step.TheVariants as steps
use Rattle.script_model.specs.Laws.Postings.{times, differ, postings, IsPostedOnce, is_posted_once}

differ_once : (us : List ℕ) → differ us ≡ true → (t : ℕ) → times t us ≤ 1
differ_once [] h t = omega arith
differ_once (u ∷ us) h t = at (eqb u t) refl (and_parts (eqb (times u us) 0) (differ us) h).0
    (differ_once us (and_parts (eqb (times u us) 0) (differ us) h).1 t)
  where
    at : (b : Bool) → eqb u t ≡ b → eqb (times u us) 0 ≡ true → times t us ≤ 1 → length (cond b (u ∷ filter (λ x. eqb x t) us) (filter (λ x. eqb x t) us)) ≤ 1
    at true is none rest = let first : times u us ≡ 0 = eqb-true (times u us) 0 none in let same : u ≡ t = eqb-true u t is in
        let zero_times : times t us ≡ 0 = rw (← same) first in omega arith
    at false is none rest = rest

once_differ : (us : List ℕ) → ((t : ℕ) → times t us ≤ 1) → differ us ≡ true
once_differ [] h = refl
once_differ (u ∷ us) h = rw (none (eqb u u) (eq-eqb u u refl) (h u)) (once_differ us (λ t. less t (eqb u t) (h t)))
  where
    none : (b : Bool) → b ≡ true → length (cond b (u ∷ filter (λ x. eqb x u) us) (filter (λ x. eqb x u) us)) ≤ 1 → eqb (times u us) 0 ≡ true
    none true is k = let zero_times : times u us ≡ 0 = omega arith in rw zero_times refl
    none false is k = absurd cc

    less : (t : ℕ) (b : Bool) → length (cond b (u ∷ filter (λ x. eqb x t) us) (filter (λ x. eqb x t) us)) ≤ 1 → times t us ≤ 1
    less t true k = omega arith
    less t false k = k

-- the test decides
pub posted_once_decides : (script : Plan) → IsTrue (is_posted_once script) ↔ IsPostedOnce script
posted_once_decides script = (differ_once (postings script), once_differ (postings script))

-- the driver posts tasks 0 and 1, and task 0 posts this one
abbrev script_with : ℕ → Plan
script_with posted = record {
  workers = 1;
  foreground = 1;
  foreground_best = 1;
  background = 0;
  threshold = 1000000;
  runners = [];
  queues = [];
  tasks = (steps.Add 5 ∷ steps.Main posted 0 0 ∷ []) ∷ [] ∷ [] ∷ [];
  jobs = [];
  actions = actions.Post 0 0 0 ∷ actions.Flush ∷ actions.Main 1 0 0 ∷ [];
  is_open = false;
}

postings_of_both : postings (script_with 2) ≡ 0 ∷ 1 ∷ 2 ∷ []
unfolding postings
postings_of_both = refl

another_task : is_posted_once (script_with 2) ≡ true
unfolding postings
another_task = refl

the_same_task : is_posted_once (script_with 1) ≡ false
unfolding postings
the_same_task = refl
