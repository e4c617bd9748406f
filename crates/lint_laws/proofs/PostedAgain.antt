-- A task that steps post a second time has its place among them.
-- Cited by `RefusedLines`.
use Rattle.std.proofs.Common.{◌≡◌, ℕ, suc, ◌+◌, Bool, true, false, cond, eqb, List, [], ◌∷◌, ◌++◌, length, take, flat_map, refl, sym, ap}
use Rattle.std.proofs.Common.{◌∙◌, Option, Some, None, append_assoc}
use Rattle.std.specs.Prelude.{◌||◌, is_some}
use Rattle.std.specs.List.{list_any}
use Rattle.std.proofs.lemmas.List.Folds.{list_any-append}
use Rattle.std.proofs.Math.Bool.{or_comm}
use Rattle.std.proofs.Math.Seq.{take-append_seam}
use Rattle.task_base.specs.Plan.{Plan}
use Rattle.task_base.specs.declared.step.Step.{Step}
use Rattle.task_base.specs.declared.step.Step.TheVariants.{Add, Mul, Set, Post, Main, Block, Unblock}
use Rattle.task_base.specs.declared.script.Action.{Action}
use Rattle.task_base.specs.declared.script.Action.TheVariants as actions
use Rattle.script_model.specs.Laws.Postings.{posts_of_step, posts_of_action}
use Rattle.script_model.specs.Draft.{Draft, script_of, posted_in, is_any_posted}
use Rattle.script_lint.specs.Earlier.{action_posts, step_posts}
use Rattle.script_lint.specs.Posting.{is_posted, task_again, posted_again}
use Rattle.script_lint.specs.Steps.{words_in}

-- ---- what is posted

-- a task is in a list
abbrev pub is_in : ℕ → List ℕ → Bool
is_in t tasks = list_any (λ posted. eqb posted t) tasks

or-none : (b : Bool) → b ≡ (b || false)
or-none b = or_comm false b

step-in : (t : ℕ) (step : Step) → is_in t (posts_of_step step) ≡ step_posts t step
step-in t (Post task runner delay) = sym (or-none (eqb task t))
step-in t (Main task queue delay) = sym (or-none (eqb task t))
step-in t (Add by) = refl
step-in t (Mul by) = refl
step-in t (Set to) = refl
step-in t (Block scope) = refl
step-in t Unblock = refl

action-in : (t : ℕ) (action : Action) → is_in t (posts_of_action action) ≡ action_posts t action
action-in t (actions.Post task runner delay) = sym (or-none (eqb task t))
action-in t (actions.Main task queue delay) = sym (or-none (eqb task t))
action-in t (actions.Tick count) = refl
action-in t (actions.Policy policy) = refl
action-in t (actions.Reprio runner priority) = refl
action-in t (actions.Fence queue place) = refl
action-in t (actions.Unfence queue) = refl
action-in t (actions.Vote queue voter on) = refl
action-in t (actions.Rank queue class) = refl
action-in t (actions.Close queue) = refl
action-in t (actions.Pump count) = refl
action-in t actions.Flush = refl
action-in t (actions.StartJob job) = refl
action-in t (actions.Join job) = refl
action-in t (actions.Cancel job) = refl
action-in t actions.Shutdown = refl

-- a task is among those of all
all-in : {A : Type 0} (t : ℕ) (posts : A → List ℕ) (test : A → Bool) → ((x : A) → is_in t (posts x) ≡ test x) → (xs : List A)
    → is_in t (flat_map posts xs) ≡ list_any test xs
all-in t posts test each [] = refl
all-in t posts test each (x ∷ xs) =
    list_any-append (λ posted. eqb posted t) (posts x) (flat_map posts xs) ∙ rw (each x, all-in t posts test each xs) refl

-- what the earlier lines post
pub posted-in : (d : Draft) (t : ℕ) → is_in t (posted_in d) ≡ is_posted (script_of d) t
posted-in d t =
    list_any-append (λ posted. eqb posted t) (flat_map (λ steps. flat_map posts_of_step steps) d.tasks) (flat_map posts_of_action d.actions)
    ∙ rw (
      all-in t (λ (steps : List Step). flat_map posts_of_step steps) (λ steps. list_any (step_posts t) steps)
          (λ steps. all-in t posts_of_step (step_posts t) (step-in t) steps) d.tasks,
      all-in t posts_of_action (action_posts t) (action-in t) d.actions,
    ) (or_comm (list_any (λ steps. list_any (step_posts t) steps) d.tasks) (list_any (action_posts t) d.actions))

-- ---- the steps of a line

-- these tasks are posted by the script, or by the steps before
abbrev pub AreEarlier : Plan → List Step → List ℕ → Type 0
AreEarlier script before earlier = (t : ℕ) → is_in t earlier ≡ (is_posted script t || list_any (step_posts t) before)

or-last : (task t : ℕ) (a b c : Bool) → a ≡ (b || c) → (eqb task t || a) ≡ (b || (c || (eqb task t || false)))
or-last task t a b c e = rw e (by_tests (eqb task t) b c)
  where
    by_tests : (p b c : Bool) → (p || (b || c)) ≡ (b || (c || (p || false)))
    by_tests true true c = refl
    by_tests true false true = refl
    by_tests true false false = refl
    by_tests false true c = refl
    by_tests false false true = refl
    by_tests false false false = refl

-- one more step, which posts nothing
earlier-same : (script : Plan) (before : List Step) (earlier : List ℕ) (step : Step) → ((t : ℕ) → step_posts t step ≡ false) → AreEarlier script before earlier
    → AreEarlier script (before ++ step ∷ []) earlier
earlier-same script before earlier step none are t =
    are t ∙ rw (list_any-append (step_posts t) before (step ∷ []), none t, ← or-none (list_any (step_posts t) before)) refl

-- one more step, which posts a task
earlier-more : (script : Plan) (before : List Step) (earlier : List ℕ) (step : Step) (task : ℕ) → ((t : ℕ) → step_posts t step ≡ eqb task t)
    → AreEarlier script before earlier → AreEarlier script (before ++ step ∷ []) (task ∷ earlier)
earlier-more script before earlier step task posts are t =
    rw (list_any-append (step_posts t) before (step ∷ []), posts t)
    (or-last task t (is_in t earlier) (is_posted script t) (list_any (step_posts t) before) (are t))

length-more : {A : Type 0} (before : List A) (x : A) → length (before ++ x ∷ []) ≡ suc (length before)
length-more [] x = refl
length-more (y ∷ before) x = ap suc (length-more before x)

pub again-found : (script : Plan) (before steps : List Step) (earlier : List ℕ) (place : ℕ) → AreEarlier script before earlier
    → is_any_posted earlier (flat_map posts_of_step steps) ≡ true
    → is_some (posted_again script (before ++ steps) (length before) steps place) ≡ true
unfolding posted_again
again-found script before [] earlier place are e = absurd cc
again-found script before (step ∷ steps) earlier place are e =
    at_step step refl e (λ next now h. again-found script (before ++ step ∷ []) steps next (place + words_in step) now h)
  where
    all : List Step
    all = before ++ step ∷ steps

    -- the steps behind this one, where these tasks are posted before them
    Behind : Type 0
    Behind = (next : List ℕ) → AreEarlier script (before ++ step ∷ []) next → is_any_posted next (flat_map posts_of_step steps) ≡ true
        → is_some (posted_again script ((before ++ step ∷ []) ++ steps) (length (before ++ step ∷ [])) steps (place + words_in step)) ≡ true

    go : Behind → (next : List ℕ) → AreEarlier script (before ++ step ∷ []) next → is_any_posted next (flat_map posts_of_step steps) ≡ true
        → is_some (posted_again script all (suc (length before)) steps (place + words_in step)) ≡ true
    go behind next now h = rw (← length-more before step, ← append_assoc before (step ∷ []) steps) (behind next now h)

    by_test : Behind → (task : ℕ) → ((t : ℕ) → step_posts t step ≡ eqb task t) → (b : Bool)
        → (is_posted script task || list_any (step_posts task) (take (length before) all)) ≡ b
        → (is_in task earlier || is_any_posted (task ∷ earlier) (flat_map posts_of_step steps)) ≡ true
        → is_some (elim (cond b (Some task) None) as (λ _. Option (ℕ × ℕ)) [
          | None ↦ posted_again script all (suc (length before)) steps (place + words_in step)
          | Some task ↦ Some (place + 1, task)
        ]) ≡ true
    by_test behind task posts true is h = refl
    by_test behind task posts false is h =
        let not_earlier : is_in task earlier ≡ false = are task ∙ rw (← take-append_seam before (step ∷ steps)) is in
        go behind (task ∷ earlier) (earlier-more script before earlier step task posts are) (rw not_earlier at h)

    Found : Step → Type 0
    Found s = is_some (elim (task_again script (take (length before) all) s) as (λ _. Option (ℕ × ℕ)) [
      | None ↦ posted_again script all (suc (length before)) steps (place + words_in step)
      | Some task ↦ Some (place + 1, task)
    ]) ≡ true

    at_step : (s : Step) → s ≡ step → is_any_posted earlier (posts_of_step s ++ flat_map posts_of_step steps) ≡ true → Behind → Found s
    at_step (Post task runner delay) is h behind =
        by_test behind task (λ t. rw (← is) refl) (is_posted script task || list_any (step_posts task) (take (length before) all)) refl h
    at_step (Main task queue delay) is h behind =
        by_test behind task (λ t. rw (← is) refl) (is_posted script task || list_any (step_posts task) (take (length before) all)) refl h
    at_step (Add by) is h behind = go behind earlier (earlier-same script before earlier step (λ t. rw (← is) refl) are) h
    at_step (Mul by) is h behind = go behind earlier (earlier-same script before earlier step (λ t. rw (← is) refl) are) h
    at_step (Set to) is h behind = go behind earlier (earlier-same script before earlier step (λ t. rw (← is) refl) are) h
    at_step (Block scope) is h behind = go behind earlier (earlier-same script before earlier step (λ t. rw (← is) refl) are) h
    at_step Unblock is h behind = go behind earlier (earlier-same script before earlier step (λ t. rw (← is) refl) are) h

-- a task of steps that is posted by the draft, or by them twice, has its place
pub posted_again-found : (d : Draft) (steps : List Step) (place : ℕ) → is_any_posted (posted_in d) (flat_map posts_of_step steps) ≡ true
    → is_some (posted_again (script_of d) steps 0 steps place) ≡ true
posted_again-found d steps place e =
    again-found (script_of d) [] steps (posted_in d) place (λ t. posted-in d t ∙ or-none (is_posted (script_of d) t)) e
