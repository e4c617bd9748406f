-- What a script has when one more step, which posts a task, stands behind those of a task.
-- Cited by `OnePosting`, `RepliesOfLogs`, `Standing`, `StaysSound`.
use Rattle.std.proofs.Common.{◌≡◌, ℕ, ◌+◌, ◌<◌, Bool, true, false, eqb, List, [], ◌∷◌, ◌++◌, length, get_or, cond, refl, ap, ◌∙◌, inl, inr, arith}
use Rattle.std.specs.Prelude.{slice_set, sum_by, count_by, flat_map, ◌||◌}
use Rattle.std.specs.List.{list_any}
use Rattle.std.proofs.Math.Bool.{or-false}
use Rattle.std.proofs.lemmas.Bool.{both_ways, cases_Bool, eqb-true, eq-eqb}
use Rattle.std.proofs.lemmas.List.{length_push, get_or-set_same, get_or-set_other}
use Rattle.std.proofs.lemmas.List.Folds.{list_any-append}
use Rattle.std.proofs.lemmas.List.Sums.{fold-append, sum_by-set, sum_by-cons, sum_by_push}
use Rattle.std.proofs.lemmas.List.Concat.{flat_map-cons}
use Rattle.task_base.specs.Plan.{Plan}
use Rattle.task_base.specs.Steps.{is_act}
use Rattle.task_base.specs.declared.step.Step.{Step}
use Rattle.task_base.specs.declared.step.Step.TheVariants as steps
use Rattle.list_laws.proofs.Counts.{count-append}
use Rattle.script_model.specs.Bound.{events_of_task, events_bound_of, steps_of_plan}
use Rattle.script_model.specs.Draft.{is_block, opens_scope, has_bad_scopes}
use Rattle.script_model.specs.Laws.Postings.{posts_of_step, postings, times}
use Rattle.script_model.proofs.Laws.Postings.{posted_parts, posts_of_task}
use Rattle.task_reply.specs.declared.reply.Home.{Home}
use Rattle.task_reply.specs.declared.reply.Home.TheVariants.{Runner, Queue}
use Rattle.task_reply.specs.Elaborated.{posting_to}
use Rattle.task_reply.specs.Tables.{with_task_step}

-- ---- the step

-- the posting step acts, opens no scope, and posts the one task
pub posting_acts : (u : ℕ) (home : Home) → is_act (posting_to u home) ≡ true
posting_acts u (Runner runner) = refl
posting_acts u (Queue queue) = refl

posting_no_block : (u : ℕ) (home : Home) → is_block (posting_to u home) ≡ false
posting_no_block u (Runner runner) = refl
posting_no_block u (Queue queue) = refl

pub posting_posts : (u : ℕ) (home : Home) → posts_of_step (posting_to u home) ≡ u ∷ []
posting_posts u (Runner runner) = refl
posting_posts u (Queue queue) = refl

-- ---- sums

-- one more step of task t is one more of the script
pub steps_grow : (script : Plan) (t : ℕ) (step : Step) → t < length script.tasks → steps_of_plan (with_task_step script t step) ≡ steps_of_plan script + 1
steps_grow script t step there =
    let own = get_or script.tasks t [] in
    omega (arith, sum_by-set (λ (steps : List Step). length steps) script.tasks t (own ++ step ∷ []) [] there, length_push own step)

acts_grow : (steps : List Step) (u : ℕ) (home : Home) → count_by is_act (steps ++ posting_to u home ∷ []) ≡ count_by is_act steps + 1
acts_grow steps u home =
    rw (fold-append (λ n step. n + cond (is_act step) 1 0) 0 steps (posting_to u home ∷ []), posting_acts u home) refl

-- one more posting is one more entry
pub events_grow : (script : Plan) (t u : ℕ) (home : Home) → t < length script.tasks
    → events_bound_of (with_task_step script t (posting_to u home)) ≡ events_bound_of script + 1
events_grow script t u home there =
    let own = get_or script.tasks t [] in
    omega (arith, sum_by-set events_of_task script.tasks t (own ++ posting_to u home ∷ []) [] there, acts_grow own u home)

-- how often lists of tasks name a task is a sum over the lists
times_sum : {A : Type 0} (f : A → List ℕ) (xs : List A) (v : ℕ) → times v (flat_map f xs) ≡ sum_by (λ x. times v (f x)) xs
times_sum f [] v = refl
times_sum f (x ∷ xs) v =
    rw (flat_map-cons f x xs, sum_by-cons (λ y. times v (f y)) x xs) (count-append (λ w. eqb w v) (f x) (flat_map f xs)
    ∙ ap (λ n. times v (f x) + n) (times_sum f xs v))

-- one more posting step is one more posting
pub postings_grow : (script : Plan) (t u v : ℕ) (home : Home) → t < length script.tasks
    → times v (postings (with_task_step script t (posting_to u home))) ≡ times v (postings script) + times v (u ∷ [])
postings_grow script t u v home there =
    let own = get_or script.tasks t [] in
    let more = own ++ posting_to u home ∷ [] in
    let before = times_sum posts_of_task script.tasks v in
    let behind = times_sum posts_of_task (slice_set script.tasks t more) v in
    let change = sum_by-set (λ (steps : List Step). times v (posts_of_task steps)) script.tasks t more [] there in
    let posts = λ (step : Step). times v (posts_of_step step) in
    let one = sum_by_push posts own (posting_to u home) in
    omega (
      arith,
      posted_parts script v,
      posted_parts (with_task_step script t (posting_to u home)) v,
      before,
      behind,
      change,
      times_sum posts_of_step own v,
      times_sum posts_of_step more v,
      one,
      ap (times v) (posting_posts u home),
    )

-- ---- scopes

-- a posting opens no scope
pub scopes_stay : (script : Plan) (t u v : ℕ) (home : Home) → t < length script.tasks
    → opens_scope (with_task_step script t (posting_to u home)).tasks v ≡ opens_scope script.tasks v
scopes_stay script t u v home there = elim (cases_Bool (eqb v t)) [
  | inl same ↦
      let at : v ≡ t = eqb-true v t same in
      let own = get_or script.tasks t [] in
      rw (
        at,
        get_or-set_same script.tasks t (own ++ posting_to u home ∷ []) [] there,
        list_any-append is_block own (posting_to u home ∷ []),
        posting_no_block u home,
        or-false (list_any is_block own),
      ) refl
  | inr other ↦ ap (list_any is_block) (get_or-set_other script.tasks t v _ [] (λ at. both_ways (eqb v t) other (eq-eqb v t at)))
]

-- nor does it close one
pub scopes_in_turn : (inside : Bool) (own : List Step) (u : ℕ) (home : Home)
    → has_bad_scopes inside (own ++ posting_to u home ∷ []) ≡ has_bad_scopes inside own
scopes_in_turn inside [] u (Runner runner) = refl
scopes_in_turn inside [] u (Queue queue) = refl
scopes_in_turn inside (steps.Block scope ∷ own) u home = ap (λ bad. inside || bad) (scopes_in_turn true own u home)
scopes_in_turn true (steps.Unblock ∷ own) u home = scopes_in_turn false own u home
scopes_in_turn false (steps.Unblock ∷ own) u home = refl
scopes_in_turn inside (steps.Add by ∷ own) u home = scopes_in_turn inside own u home
scopes_in_turn inside (steps.Mul by ∷ own) u home = scopes_in_turn inside own u home
scopes_in_turn inside (steps.Set to ∷ own) u home = scopes_in_turn inside own u home
scopes_in_turn inside (steps.Post task runner delay ∷ own) u home = scopes_in_turn inside own u home
scopes_in_turn inside (steps.Main task queue delay ∷ own) u home = scopes_in_turn inside own u home
