-- In an open plan a scope is open of a task of the pool alone: a task is posted once, to the pool or to a main queue.
-- Cited by `Fits`.
use Rattle.std.proofs.Common.{◌≡◌, ℕ, ◌+◌, ◌≤◌, Bool, true, false, cond, eqb, List, [], ◌∷◌, ◌++◌, length, refl, sym, ap, subst, ◌∙◌, Some, None, arith}
use Rattle.std.specs.Prelude.{◌&&◌, is_none, is_some, nat_le, not}
use Rattle.std.proofs.lemmas.Bool.{and_parts, eq-eqb, eqb-true, false_from_ne_true, not-true}
use Rattle.list_laws.proofs.Counts.{count-append}
use Rattle.list_laws.proofs.Finds.{contained_counts}
use Rattle.list_laws.specs.Lists.{count}
use Rattle.script_model.specs.Draft.{may_block_on}
use Rattle.task_base.specs.Plan.{Plan}
use Rattle.task_base.specs.declared.entry.Entry.{Entry}
use Rattle.task_base.specs.declared.entry.Kind.{Kind}
use Rattle.task_base.specs.declared.entry.Kind.TheVariants as kinds
use Rattle.task_model.proofs.Growth.{main_posts_push, open_scope_push, posts_push}
use Rattle.task_model.specs.Capacity.{OpenScope, open_scope, scope_after}
use Rattle.task_model.specs.Past.{fold_past}
use Rattle.task_model.specs.Posts.{Posted, main_posted_by, main_posts, post_behind, posted_by, posts}
use Rattle.task_model.specs.Seats.{Running, running}
use Rattle.task_model.specs.Time.{now_of}
use Rattle.hist_model.proofs.Laws.Choice.{found}
use Rattle.hist_model.proofs.Laws.Consistent.{legal_is_consistent}
use Rattle.hist_model.proofs.Laws.Legal.{legal_induction}
use Rattle.hist_model.proofs.Laws.Open.{open_posts}
use Rattle.hist_model.specs.Allowed.{IsAllowed, by_task, may_come}
use Rattle.hist_model.specs.Legal.{IsLegal}
use Rattle.hist_model.specs.Open.{IsOpen, may_open_scope, posts_task, was_posted}
use Rattle.live_core.proofs.Asks.{not_accepted}

-- of how many of these posts the task is
abbrev of_task : ℕ → List Posted → ℕ
of_task t ps = count (λ p. eqb p.task t) ps

-- ---- a task is accepted once

-- an entry that posts the task comes where it was not posted
posts_new : (plan : Plan) (past : List Entry) (seat : ℕ) (kind : Kind) (t : ℕ) → IsOpen plan → may_come plan past seat kind ≡ true
    → posts_task t kind ≡ true → was_posted past t ≡ false
unfolding may_come
posts_new plan past seat (kinds.Post task runner delay ok) t opened may posts = ap (was_posted past) (sym (eqb-true task t posts))
    ∙ (open_posts plan past seat task (kinds.Post task runner delay ok) opened (and_parts _ _ may).0).fresh
posts_new plan past seat (kinds.Main task queue delay ok) t opened may posts = ap (was_posted past) (sym (eqb-true task t posts))
    ∙ (open_posts plan past seat task (kinds.Main task queue delay ok) opened (and_parts _ _ may).0).fresh
posts_new plan past seat kind t opened may posts = absurd cc

one_at_most : (t : ℕ) (p : Posted) → of_task t (p ∷ []) ≤ 1
one_at_most t p = at (eqb p.task t)
  where
    at : (b : Bool) → length (cond b (p ∷ []) []) ≤ 1
    at true = omega arith
    at false = omega arith

-- what an entry accepts: of the task that it posts, one post at most, and of no other
accepts : (past : List Entry) (t : ℕ) (kind : Kind) → of_task t (posted_by past kind) + of_task t (main_posted_by past kind) ≤ 1
accepts past t (kinds.Post task runner delay true) = omega (arith, one_at_most t (post_behind past task runner delay))
accepts past t (kinds.Main task queue delay true) = omega (arith, one_at_most t (post_behind past task queue delay))
accepts past t (kinds.Post task runner delay false) = omega arith
accepts past t (kinds.Main task queue delay false) = omega arith
accepts past t kind = omega arith

accepts_no_other : (past : List Entry) (t : ℕ) (kind : Kind) → posts_task t kind ≡ false
    → of_task t (posted_by past kind) + of_task t (main_posted_by past kind) ≡ 0
accepts_no_other past t (kinds.Post task runner delay true) other = rw other refl
accepts_no_other past t (kinds.Main task queue delay true) other = rw other refl
accepts_no_other past t (kinds.Post task runner delay false) other = refl
accepts_no_other past t (kinds.Main task queue delay false) other = refl
accepts_no_other past t kind other = refl

accepted_once : (plan : Plan) (past : List Entry) (t : ℕ) → IsOpen plan → IsLegal plan past → of_task t (posts past) + of_task t (main_posts past) ≤ 1
unfolding fold_past main_posts posts
accepted_once plan past t opened legal =
    legal_induction plan (λ front. of_task t (posts front) + of_task t (main_posts front) ≤ 1) (omega arith) next past legal
  where
    next : (front : List Entry) (e : Entry) → IsLegal plan front → IsAllowed plan front e → of_task t (posts front) + of_task t (main_posts front) ≤ 1
        → of_task t (posts (front ++ e ∷ [])) + of_task t (main_posts (front ++ e ∷ [])) ≤ 1
    next front e front_legal allowed before = by (posts_task t e.kind) refl
      where
        pool : of_task t (posts (front ++ e ∷ [])) ≡ of_task t (posts front) + of_task t (posted_by front e.kind)
        pool = ap (of_task t) (posts_push front e) ∙ count-append (λ p. eqb p.task t) (posts front) (posted_by front e.kind)

        main : of_task t (main_posts (front ++ e ∷ [])) ≡ of_task t (main_posts front) + of_task t (main_posted_by front e.kind)
        main = ap (of_task t) (main_posts_push front e) ∙ count-append (λ p. eqb p.task t) (main_posts front) (main_posted_by front e.kind)

        by : (b : Bool) → posts_task t e.kind ≡ b → of_task t (posts (front ++ e ∷ [])) + of_task t (main_posts (front ++ e ∷ [])) ≤ 1
        by false other = omega (arith, pool, main, before, accepts_no_other front t e.kind other)
        by true posts_it =
            let fresh = posts_new plan front e.seat e.kind t opened
            (and_parts (nat_le e.seat plan.workers) (may_come plan front e.seat e.kind) allowed).1 posts_it in
            let none = not_accepted plan front t front_legal fresh in
            omega (arith, pool, main, none.by_pool, none.by_main, accepts front t e.kind)

-- ---- scopes

-- who opens a scope in an open plan runs a task of the pool, which was accepted
opens_accepted : (plan : Plan) (past : List Entry) (seat task : ℕ) → IsLegal plan past → may_open_scope plan past seat task ≡ true
    → 1 ≤ of_task task (posts past)
opens_accepted plan past seat task legal may =
    let w = found (λ (x : Running). eqb x.task task && not x.is_main && may_block_on plan.runners x.home) (running past seat)
    (and_parts _ (is_none (open_scope past task)) may).0 in
    let front = and_parts (eqb w.value.task task) (not w.value.is_main) (and_parts _ (may_block_on plan.runners w.value.home) w.passes).0 in
    let can = ((legal_is_consistent plan past legal false).runs seat w.value w.is (not-true w.value.is_main front.1)).can in
    contained_counts (λ p. eqb p.task task) (posts past) can.accepted can.posted
    (eq-eqb can.accepted.task task (can.task_is ∙ eqb-true w.value.task task front.0))

scope_accepted : (plan : Plan) (past : List Entry) (t : ℕ) → IsOpen plan → IsLegal plan past → is_some (open_scope past t) ≡ true
    → 1 ≤ of_task t (posts past)
unfolding fold_past may_come open_scope
scope_accepted plan past t opened legal =
    legal_induction plan (λ front. is_some (open_scope front t) ≡ true → 1 ≤ of_task t (posts front)) (λ none. absurd cc) next past legal
  where
    next : (front : List Entry) (e : Entry) → IsLegal plan front → IsAllowed plan front e
        → (is_some (open_scope front t) ≡ true → 1 ≤ of_task t (posts front))
        → is_some (open_scope (front ++ e ∷ []) t) ≡ true → 1 ≤ of_task t (posts (front ++ e ∷ []))
    next front e front_legal allowed before is = omega (
      arith,
      ap (of_task t) (posts_push front e) ∙ count-append (λ p. eqb p.task t) (posts front) (posted_by front e.kind),
      by_kind e.kind (and_parts (nat_le e.seat plan.workers) (may_come plan front e.seat e.kind) allowed).1
          (ap is_some (sym (open_scope_push front e t)) ∙ is),
    )
      where
        by_kind : (kind : Kind) → may_come plan front e.seat kind ≡ true → is_some (scope_after t front (open_scope front t) kind) ≡ true
            → 1 ≤ of_task t (posts front)
        by_kind (kinds.Enter task scope) may some = at (eqb task t) refl some
          where
            at : (b : Bool) → eqb task t ≡ b
                → is_some {T = OpenScope} (cond b (Some (record { scope = scope; since = now_of front })) (open_scope front t)) ≡ true
                → 1 ≤ of_task t (posts front)
            at false other k = before k
            at true same k = subst (λ x. 1 ≤ of_task x (posts front)) (eqb-true task t same)
                (opens_accepted plan front e.seat task front_legal
                (ap (λ o. cond o (may_open_scope plan front e.seat task) (by_task plan front e.seat (kinds.Enter task scope))) (sym opened) ∙ may))
        by_kind (kinds.Leave task) may some = at (eqb task t) some
          where
            at : (b : Bool) → is_some {T = OpenScope} (cond b None (open_scope front t)) ≡ true → 1 ≤ of_task t (posts front)
            at false k = before k
            at true k = absurd cc
        by_kind kind may some = before some

-- so no main task has a scope
pub main_is_closed : (plan : Plan) (past : List Entry) (seat : ℕ) (w : Running) → IsOpen plan → IsLegal plan past → running past seat ≡ Some w
    → is_some (open_scope past w.task) ≡ true → w.is_main ≡ false
main_is_closed plan past seat w opened legal runs some = false_from_ne_true w.is_main (λ main.
    let can = ((legal_is_consistent plan past legal true).runs seat w runs main).can in
    omega (
      arith,
      accepted_once plan past w.task opened legal,
      scope_accepted plan past w.task opened legal some,
      contained_counts (λ p. eqb p.task w.task) (main_posts past) can.accepted can.posted (eq-eqb can.accepted.task w.task can.task_is),
    ))
