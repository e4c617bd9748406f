-- What is wrong with steps is told of the first of them that does not pass.
-- Cited by `RefusedLines`.
use Rattle.std.proofs.Common.{◌≡◌, ℕ, ◌+◌, Bool, true, false, cond, ltb, List, [], ◌∷◌, length, refl, Option, Some, None}
use Rattle.std.specs.Prelude.{not, ◌||◌, ◌&&◌}
use Rattle.std.specs.List.{list_any, list_all}
use Rattle.std.specs.Option.{option_or}
use Rattle.task_base.specs.Plan.{Plan}
use Rattle.task_base.specs.Steps.{is_act}
use Rattle.task_base.specs.declared.step.Step.{Step}
use Rattle.task_base.specs.declared.step.Step.TheVariants.{Add, Mul, Set, Post, Main, Block, Unblock}
use Rattle.script_model.specs.Draft.{Draft, script_of, is_declared, has_bad_scopes, is_bad_post, opens_scope, may_block_on}
use Rattle.lint_text.specs.declared.complaint.Complaint.TheVariants.{MayNotBlock, NoJobStep, StaysOpen}
use Rattle.line_places.specs.declared.expected.Thing.TheVariants.{Runner, Queue, Task}
use Rattle.lint_text.specs.declared.objection.Objection.{Objection}
use Rattle.lint_text.specs.Objections.{at, none_of}
use Rattle.script_lint.specs.Steps.{words_in, moved, undeclared_step, must_not_block, no_job_step, step_objection, first_step}
use Rattle.script_lint.specs.Scopes.{is_scope, inside_behind, block_fault, block_in}
use Rattle.lint_laws.specs.Told.{says_why, is_told}

-- ---- the one or the other

-- if there is an objection, it says what is wrong
abbrev pub is_told_if_any : Option Objection → Bool
is_told_if_any None = true
is_told_if_any (Some objection) = says_why objection.complaint

pub first_told : (by : ℕ) (objection other : Option Objection) → is_told objection ≡ true → is_told (option_or (moved by objection) other) ≡ true
first_told by None other told = absurd cc
first_told by (Some objection) other told = told

pub other_told : (by : ℕ) (objection other : Option Objection) → is_told_if_any objection ≡ true → is_told other ≡ true
    → is_told (option_or (moved by objection) other) ≡ true
other_told by None other first told = told
other_told by (Some objection) other first told = first

-- one of two tests that are not both passed
either_fails : (a b : Bool) (x y : Objection) → says_why x.complaint ≡ true → says_why y.complaint ≡ true → not (a && b) ≡ true
    → is_told (cond (not a) (Some x) (cond (not b) (Some y) None)) ≡ true
either_fails true true x y p q e = absurd cc
either_fails true false x y p q e = q
either_fails false b x y p q e = p

any_told : (a : Bool) (x : Objection) → says_why x.complaint ≡ true → is_told_if_any (cond a (Some x) None) ≡ true
any_told true x p = p
any_told false x p = refl

two_told : (a b : Bool) (x y : Objection) → says_why x.complaint ≡ true → says_why y.complaint ≡ true
    → is_told_if_any (cond a (Some x) (cond b (Some y) None)) ≡ true
two_told true b x y p q = p
two_told false true x y p q = q
two_told false false x y p q = refl

told_where : (a : Bool) (x : Objection) → says_why x.complaint ≡ true → a ≡ true → is_told (cond a (Some x) None) ≡ true
told_where true x p e = p
told_where false x p e = absurd cc

-- ---- each question

-- an objection to a step, if there is one, is told
pub undeclared_if_any : (script : Plan) (step : Step) → is_told_if_any (undeclared_step script step) ≡ true
undeclared_if_any script (Post task runner delay) =
    two_told (not (ltb task (length script.tasks))) (not (ltb runner (length script.runners))) (at 1 (none_of Task (length script.tasks)))
    (at 2 (none_of Runner (length script.runners))) refl refl
undeclared_if_any script (Main task queue delay) =
    two_told (not (ltb task (length script.tasks))) (not (ltb queue (length script.queues))) (at 1 (none_of Task (length script.tasks)))
    (at 2 (none_of Queue (length script.queues))) refl refl
undeclared_if_any script (Add by) = refl
undeclared_if_any script (Mul by) = refl
undeclared_if_any script (Set to) = refl
undeclared_if_any script (Block scope) = refl
undeclared_if_any script Unblock = refl

pub blocking_if_any : (script : Plan) (step : Step) → is_told_if_any (must_not_block script step) ≡ true
blocking_if_any script (Post task runner delay) =
    any_told (opens_scope script.tasks task && not (may_block_on script.runners runner)) (at 1 (MayNotBlock task (Some runner))) refl
blocking_if_any script (Main task queue delay) = any_told (opens_scope script.tasks task) (at 1 (MayNotBlock task None)) refl
blocking_if_any script (Add by) = refl
blocking_if_any script (Mul by) = refl
blocking_if_any script (Set to) = refl
blocking_if_any script (Block scope) = refl
blocking_if_any script Unblock = refl

pub computing_if_any : (step : Step) → is_told_if_any (no_job_step step) ≡ true
computing_if_any step = any_told (is_act step) (at 0 NoJobStep) refl

-- a step that names what is not declared
pub undeclared_told : (d : Draft) (step : Step) → not (is_declared d step) ≡ true → is_told (undeclared_step (script_of d) step) ≡ true
undeclared_told d (Post task runner delay) e =
    either_fails (ltb task (length d.tasks)) (ltb runner (length d.runners)) (at 1 (none_of Task (length d.tasks)))
    (at 2 (none_of Runner (length d.runners))) refl refl e
undeclared_told d (Main task queue delay) e =
    either_fails (ltb task (length d.tasks)) (ltb queue (length d.queues)) (at 1 (none_of Task (length d.tasks)))
    (at 2 (none_of Queue (length d.queues))) refl refl e
undeclared_told d (Add by) e = absurd cc
undeclared_told d (Mul by) e = absurd cc
undeclared_told d (Set to) e = absurd cc
undeclared_told d (Block scope) e = absurd cc
undeclared_told d Unblock e = absurd cc

-- a step that posts where its task must not block
pub blocking_told : (d : Draft) (step : Step) → is_bad_post d step ≡ true → is_told (must_not_block (script_of d) step) ≡ true
blocking_told d (Post task runner delay) e =
    told_where (opens_scope d.tasks task && not (may_block_on d.runners runner)) (at 1 (MayNotBlock task (Some runner))) refl e
blocking_told d (Main task queue delay) e = told_where (opens_scope d.tasks task) (at 1 (MayNotBlock task None)) refl e
blocking_told d (Add by) e = absurd cc
blocking_told d (Mul by) e = absurd cc
blocking_told d (Set to) e = absurd cc
blocking_told d (Block scope) e = absurd cc
blocking_told d Unblock e = absurd cc

-- a step that does not compute
pub computing_told : (step : Step) → is_act step ≡ true → is_told (no_job_step step) ≡ true
computing_told step e = told_where (is_act step) (at 0 NoJobStep) refl e

-- ---- steps

-- what is asked of each step
abbrev Question : Type 0
Question = asked_of first_step
  where
    asked_of : {A B C : Type 0} → (A → B → C) → Type 0
    asked_of {B = B} f = B

-- one of the steps is bad, and each bad step has its objection
pub first_step-told : (script : Plan) (question : Question) (bad : Step → Bool)
    → ((step : Step) → is_told_if_any (step_objection script question step) ≡ true)
    → ((step : Step) → bad step ≡ true → is_told (step_objection script question step) ≡ true) → (steps : List Step) (from : ℕ)
    → list_any bad steps ≡ true → is_told (first_step script question steps from) ≡ true
unfolding first_step
first_step-told script question bad if_any told [] from e = absurd cc
first_step-told script question bad if_any told (step ∷ steps) from e =
    by_test (bad step) refl e (first_step-told script question bad if_any told steps (from + words_in step))
  where
    rest : Option Objection
    rest = first_step script question steps (from + words_in step)

    by_test : (b : Bool) → bad step ≡ b → (b || list_any bad steps) ≡ true → (list_any bad steps ≡ true → is_told rest ≡ true)
        → is_told (option_or (moved from (step_objection script question step)) rest) ≡ true
    by_test true is any behind = first_told from (step_objection script question step) rest (told step is)
    by_test false is any behind = other_told from (step_objection script question step) rest (if_any step) (behind any)

-- the same of the one step of an action
pub one_step-told : (script : Plan) (question : Question) (bad : Step → Bool)
    → ((step : Step) → is_told_if_any (step_objection script question step) ≡ true)
    → ((step : Step) → bad step ≡ true → is_told (step_objection script question step) ≡ true) → (step : Step) (from : ℕ)
    → bad step ≡ true → is_told (first_step script question (step ∷ []) from) ≡ true
one_step-told script question bad if_any told step from e =
    let any : list_any bad (step ∷ []) ≡ true = rw e refl in
    first_step-told script question bad if_any told (step ∷ []) from any

-- not all pass a test: one does not
pub not_all : {A : Type 0} (test : A → Bool) (xs : List A) → not (list_all test xs) ≡ true → list_any (λ x. not (test x)) xs ≡ true
not_all test [] e = absurd cc
not_all test (x ∷ xs) e = by_test (test x) e (not_all test xs)
  where
    by_test : (b : Bool) → not (b && list_all test xs) ≡ true → (not (list_all test xs) ≡ true → list_any (λ x. not (test x)) xs ≡ true)
        → (not b || list_any (λ x. not (test x)) xs) ≡ true
    by_test true h rest = rest h
    by_test false h rest = refl

-- ---- scopes

-- an objection to a step in a task, if there is one, is told
block_told : (script : Plan) (inside : Bool) (step : Step) (behind : List Step) → is_told_if_any (block_fault script inside step behind) ≡ true
block_told script true (Block scope) behind = refl
block_told script false (Block scope) behind = by_test (list_any is_scope behind)
  where
    by_test : (b : Bool) → is_told_if_any (cond b None (Some (at 0 StaysOpen))) ≡ true
    by_test true = refl
    by_test false = refl
block_told script true Unblock behind = refl
block_told script false Unblock behind = refl
block_told script inside (Post task runner delay) behind = blocking_if_any script (Post task runner delay)
block_told script inside (Main task queue delay) behind = blocking_if_any script (Main task queue delay)
block_told script inside (Add by) behind = refl
block_told script inside (Mul by) behind = refl
block_told script inside (Set to) behind = refl

-- an objection to a step, or to one behind it
block_behind : (script : Plan) (inside : Bool) (step : Step) (steps : List Step) (place : ℕ)
    → is_told (block_in script (inside_behind inside step) steps (place + words_in step)) ≡ true → is_told (block_in script inside (step ∷ steps) place) ≡ true
unfolding block_in
block_behind script inside step steps place told =
    other_told place (block_fault script inside step steps) (block_in script (inside_behind inside step) steps (place + words_in step))
    (block_told script inside step steps) told

-- scopes that do not open and close in turn: a scope that stays open has no step of a scope behind it
pub scopes_told : (script : Plan) (inside : Bool) (steps : List Step) (place : ℕ) → has_bad_scopes inside steps ≡ true
    → (inside ≡ true → list_any is_scope steps ≡ true) → is_told (block_in script inside steps place) ≡ true
unfolding block_in
scopes_told script true [] place bad some = let none : false ≡ true = some refl in absurd cc
scopes_told script false [] place bad some = absurd cc
scopes_told script true (Block scope ∷ steps) place bad some = refl
scopes_told script false (Block scope ∷ steps) place bad some =
    by_test (list_any is_scope steps) refl (λ is. scopes_told script true steps (place + 3) bad (λ inside. is))
  where
    by_test : (b : Bool) → list_any is_scope steps ≡ b → (list_any is_scope steps ≡ true → is_told (block_in script true steps (place + 3)) ≡ true)
        → is_told (option_or (moved place (cond b None (Some (at 0 StaysOpen)))) (block_in script true steps (place + 3))) ≡ true
    by_test true is behind = behind is
    by_test false is behind = refl
scopes_told script true (Unblock ∷ steps) place bad some = scopes_told script false steps (place + 2) bad (λ inside. absurd cc)
scopes_told script false (Unblock ∷ steps) place bad some = refl
scopes_told script inside (Post task runner delay ∷ steps) place bad some =
    block_behind script inside (Post task runner delay) steps place (scopes_told script inside steps (place + 5) bad some)
scopes_told script inside (Main task queue delay ∷ steps) place bad some =
    block_behind script inside (Main task queue delay) steps place (scopes_told script inside steps (place + 5) bad some)
scopes_told script inside (Add by ∷ steps) place bad some = scopes_told script inside steps (place + 3) bad some
scopes_told script inside (Mul by ∷ steps) place bad some = scopes_told script inside steps (place + 3) bad some
scopes_told script inside (Set to ∷ steps) place bad some = scopes_told script inside steps (place + 3) bad some

-- a step that posts where its task must not block, whatever scopes are open
bad_post_here : (d : Draft) (inside : Bool) (step : Step) (steps : List Step) → is_bad_post d step ≡ true
    → is_told (block_fault (script_of d) inside step steps) ≡ true
bad_post_here d inside (Post task runner delay) steps e = blocking_told d (Post task runner delay) e
bad_post_here d inside (Main task queue delay) steps e = blocking_told d (Main task queue delay) e
bad_post_here d inside (Add by) steps e = absurd cc
bad_post_here d inside (Mul by) steps e = absurd cc
bad_post_here d inside (Set to) steps e = absurd cc
bad_post_here d inside (Block scope) steps e = absurd cc
bad_post_here d inside Unblock steps e = absurd cc

pub bad_posts_told : (d : Draft) (inside : Bool) (steps : List Step) (place : ℕ) → list_any (is_bad_post d) steps ≡ true
    → is_told (block_in (script_of d) inside steps place) ≡ true
unfolding block_in
bad_posts_told d inside [] place e = absurd cc
bad_posts_told d inside (step ∷ steps) place e =
    by_test (is_bad_post d step) refl e (bad_posts_told d (inside_behind inside step) steps (place + words_in step))
  where
    rest : Option Objection
    rest = block_in (script_of d) (inside_behind inside step) steps (place + words_in step)

    by_test : (b : Bool) → is_bad_post d step ≡ b → (b || list_any (is_bad_post d) steps) ≡ true
        → (list_any (is_bad_post d) steps ≡ true → is_told rest ≡ true)
        → is_told (option_or (moved place (block_fault (script_of d) inside step steps)) rest) ≡ true
    by_test true is any behind = first_told place (block_fault (script_of d) inside step steps) rest (bad_post_here d inside step steps is)
    by_test false is any behind = block_behind (script_of d) inside step steps place (behind any)
