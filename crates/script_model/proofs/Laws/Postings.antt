-- How often the parts of a script post a task, and that a task that was not posted is posted once with one more.
-- Cited by `Laws/Canonical`, `Laws/Declarations`, `Laws/Sound`, `Laws/TaskLines`, `nested_loop`, `task_reply`, `task_script`.
use Rattle.std.proofs.Common.{◌≡◌, ℕ, ◌+◌, ◌≤◌, false, eqb, List, [], ◌∷◌, ◌++◌, subst, sym, ap, ◌∙◌, refl, inl, inr, arith}
use Rattle.std.specs.Prelude.{flat_map}
use Rattle.std.specs.List.{list_any}
use Rattle.std.proofs.lemmas.Bool.{cases_Bool, cond-true, cond-false, eqb-true, or_parts, or_from}
use Rattle.std.proofs.lemmas.Grind.{flat_map-append}
use Rattle.std.proofs.lemmas.List.{flat_map_more}
use Rattle.std.proofs.lemmas.List.Concat.{flat_map-cons}
use Rattle.task_base.specs.Plan.{Plan}
use Rattle.task_base.specs.declared.step.Step.{Step}
use Rattle.task_base.specs.declared.script.Action.{Action}
use Rattle.list_laws.proofs.Values.{eqb-same}
use Rattle.list_laws.proofs.Counts.{count-append, count-cons}
use Rattle.list_laws.proofs.Places.{count_none, none_from_count}
use Rattle.script_model.specs.Laws.Postings.{posts_of_step, posts_of_action, postings, times, IsPostedOnce}
use Rattle.script_model.specs.Draft.{Draft, script_of, posted_in, is_any_posted}

-- the tasks that steps of tasks post
abbrev pub posts_of_task : List Step → List ℕ
posts_of_task steps = flat_map posts_of_step steps

-- ---- the parts of a script

-- the postings of a script are those of its actions and of its tasks
pub posted_parts : (s : Plan) (t : ℕ) → times t (postings s) ≡ times t (flat_map posts_of_action s.actions) + times t (flat_map posts_of_task s.tasks)
unfolding postings
posted_parts s t = count-append (λ u. eqb u t) (flat_map posts_of_action s.actions) (flat_map posts_of_task s.tasks)

-- so are those of a draft
pub posted_in_parts : (d : Draft) (t : ℕ) → times t (posted_in d) ≡ times t (flat_map posts_of_task d.tasks) + times t (flat_map posts_of_action d.actions)
posted_in_parts d t = count-append (λ u. eqb u t) (flat_map posts_of_task d.tasks) (flat_map posts_of_action d.actions)

-- those of a list are those of what stands before an element, of it, and of what stands behind it
pub posted_at : {A : Type 0} (f : A → List ℕ) (done : List A) (x : A) (rest all : List A) → done ++ x ∷ rest ≡ all → (t : ℕ)
    → times t (flat_map f all) ≡ times t (flat_map f done) + (times t (f x) + times t (flat_map f rest))
posted_at f done x rest all e t =
    let outer = count-append (λ u. eqb u t) (flat_map f done) (f x ++ flat_map f rest) in
    let inner = count-append (λ u. eqb u t) (f x) (flat_map f rest) in
    rw (← e, flat_map-append f done (x ∷ rest), flat_map-cons f x rest) (omega (arith, outer, inner))

-- those of a list with one more
pub times_push : {A : Type 0} (f : A → List ℕ) (xs : List A) (x : A) (t : ℕ) → times t (flat_map f (xs ++ x ∷ [])) ≡ times t (flat_map f xs) + times t (f x)
times_push f xs x t = ap (times t) (sym (flat_map_more f [] xs x)) ∙ count-append (λ u. eqb u t) (flat_map f xs) (f x)

-- ---- once

-- tasks that were not posted, and are not posted twice, are posted once behind the earlier ones
pub times_fresh : (earlier new : List ℕ) (t : ℕ) → is_any_posted earlier new ≡ false → times t earlier ≤ 1 → times t earlier + times t new ≤ 1
times_fresh earlier [] t e once = omega (arith, once)
times_fresh earlier (u ∷ new) t e once =
    let neither = or_parts (list_any (λ posted. eqb posted u) earlier) (is_any_posted (u ∷ earlier) new) e in
    let none : times u earlier ≡ 0 = count_none (λ posted. eqb posted u) earlier neither.0 in
    let more = count-cons (λ v. eqb v t) u earlier in
    let still : times t (u ∷ earlier) ≤ 1 = elim (cases_Bool (eqb u t)) [
      | inl is ↦
          let none_here : times t earlier ≡ 0 = subst (λ (v : ℕ). times v earlier ≡ 0) (eqb-true u t is) none in
          omega (arith, more, cond-true {A = ℕ} (eqb u t) 1 0 is, none_here)
      | inr is ↦ omega (arith, more, cond-false {A = ℕ} (eqb u t) 1 0 is, once)
    ] in
    omega (arith, more, count-cons (λ v. eqb v t) u new, times_fresh (u ∷ earlier) new t neither.1 still)

-- tasks that stand once at most behind the earlier ones are not posted there
pub not_posted : (earlier new : List ℕ) → ((t : ℕ) → times t earlier + times t new ≤ 1) → is_any_posted earlier new ≡ false
not_posted earlier [] once = refl
not_posted earlier (u ∷ new) once =
    let here = count-cons (λ v. eqb v u) u new in
    let none : times u earlier ≡ 0 = omega (arith, here, cond-true {A = ℕ} (eqb u u) 1 0 (eqb-same u), once u) in
    or_from (list_any (λ v. eqb v u) earlier) (is_any_posted (u ∷ earlier) new) (none_from_count (λ v. eqb v u) earlier none)
    (not_posted (u ∷ earlier) new (λ t. omega (arith, count-cons (λ v. eqb v t) u earlier, count-cons (λ v. eqb v t) u new, once t)))

-- new postings behind those of a draft
once_more : (d : Draft) (new : List ℕ) (t : ℕ) → is_any_posted (posted_in d) new ≡ false → times t (postings (script_of d)) ≤ 1
    → times t (flat_map posts_of_action d.actions) + times t (flat_map posts_of_task d.tasks) + times t new ≤ 1
once_more d new t fresh once =
    let parts_in = posted_in_parts d t in
    let before : times t (posted_in d) ≤ 1 = omega (arith, posted_parts (script_of d) t, parts_in, once) in
    omega (arith, parts_in, times_fresh (posted_in d) new t fresh before)

pub posted_once_with_task : (d : Draft) (steps : List Step) → is_any_posted (posted_in d) (posts_of_task steps) ≡ false → IsPostedOnce (script_of d)
    → IsPostedOnce (script_of (record d { tasks = d.tasks ++ steps ∷ [] }))
posted_once_with_task d steps fresh once t =
    let parts = posted_parts (script_of (record d { tasks = d.tasks ++ steps ∷ [] })) t in
    let more = times_push posts_of_task d.tasks steps t in
    omega (arith, parts, more, once_more d (posts_of_task steps) t fresh (once t))

pub posted_once_with_action : (d : Draft) (action : Action) → is_any_posted (posted_in d) (posts_of_action action) ≡ false → IsPostedOnce (script_of d)
    → IsPostedOnce (script_of (record d { actions = d.actions ++ action ∷ [] }))
posted_once_with_action d action fresh once t =
    let parts = posted_parts (script_of (record d { actions = d.actions ++ action ∷ [] })) t in
    let more = times_push posts_of_action d.actions action t in
    omega (arith, parts, more, once_more d (posts_of_action action) t fresh (once t))
