-- Steps that compute name nothing, post nothing and open no scope.
-- Cited by `Laws/TaskLines`, `task_script`.
use Rattle.std.proofs.Common.{◌≡◌, ℕ, true, false, List, [], ◌∷◌, refl}
use Rattle.std.specs.Prelude.{flat_map}
use Rattle.std.specs.List.{list_any, list_all}
use Rattle.std.proofs.lemmas.Bool.{or_parts}
use Rattle.std.proofs.lemmas.List.Concat.{flat_map-cons}
use Rattle.task_base.specs.Steps.{is_act}
use Rattle.task_base.specs.declared.step.Step.{Step}
use Rattle.task_base.specs.declared.step.Step.TheVariants.{Add, Mul, Set, Post as PostStep, Main as MainStep, Block, Unblock}
use Rattle.script_model.specs.Laws.Postings.{posts_of_step}
use Rattle.script_model.specs.Draft.{Draft, is_declared, is_bad_post}

-- steps that compute have what each such step has
pub computing : (P : Step → Type 0) → ((k : ℕ) → P (Add k)) → ((k : ℕ) → P (Mul k)) → ((k : ℕ) → P (Set k)) → (step : Step) → is_act step ≡ false → P step
computing P add mul set (Add by) e = add by
computing P add mul set (Mul by) e = mul by
computing P add mul set (Set to) e = set to
computing P add mul set (PostStep task runner delay) e = absurd cc
computing P add mul set (MainStep task queue delay) e = absurd cc
computing P add mul set (Block scope) e = absurd cc
computing P add mul set Unblock e = absurd cc

pub computing_declared : (d : Draft) (steps : List Step) → list_any is_act steps ≡ false → list_all (is_declared d) steps ≡ true
computing_declared d [] e = refl
computing_declared d (step ∷ steps) e =
    let both = or_parts (is_act step) (list_any is_act steps) e in
    rw (computing (λ x. is_declared d x ≡ true) (λ k. refl) (λ k. refl) (λ k. refl) step both.0) (computing_declared d steps both.1)

pub computing_good : (d : Draft) (steps : List Step) → list_any is_act steps ≡ false → list_any (is_bad_post d) steps ≡ false
computing_good d [] e = refl
computing_good d (step ∷ steps) e =
    let both = or_parts (is_act step) (list_any is_act steps) e in
    rw (computing (λ x. is_bad_post d x ≡ false) (λ k. refl) (λ k. refl) (λ k. refl) step both.0) (computing_good d steps both.1)

pub computing_posts : (steps : List Step) → list_any is_act steps ≡ false → flat_map posts_of_step steps ≡ []
computing_posts [] e = refl
computing_posts (step ∷ steps) e =
    let both = or_parts (is_act step) (list_any is_act steps) e in
    rw (flat_map-cons posts_of_step step steps, computing (λ x. posts_of_step x ≡ []) (λ k. refl) (λ k. refl) (λ k. refl) step both.0)
    (computing_posts steps both.1)
