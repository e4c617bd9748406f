-- The bodies in the drawer, as the history grows.
-- Cited by 5 functions of `Env`, `Entries`, `Taking`.
use Rattle.env_core.specs.Drawer.{kept_if}
use Rattle.std.proofs.Math.Bool.{and-false, and-true}
use Rattle.env_core.specs.Calls.{AreFresh}
use Rattle.env_core.specs.Drawer.{AreBodies, empties, is_in_drawer, refuses, was_refused}
use Rattle.hist_model.proofs.Laws.Postings.Counts.{counted, of_task, posted_at_most_once, posted_in_push, accepted_of}
use Rattle.hist_model.specs.Laws.Postings.{kind_posts, posted_in}
use Rattle.hist_model.specs.Legal.{IsLegal}
use Rattle.list_laws.proofs.Counts.{count-append}
use Rattle.list_laws.proofs.Elements.{push_induction}
use Rattle.list_laws.proofs.Finds.{contained_counts}
use Rattle.list_laws.proofs.Places.{count-push, none_from_count}
use Rattle.list_laws.proofs.Values.{eqb-same, some-injective}
use Rattle.list_laws.specs.Lists.{count}
use Rattle.script_model.specs.Laws.Postings.{IsPostedOnce, times}
use Rattle.std.proofs.Common.{Bool, List, None, Option, Some, [], ap, arith, cond, eqb, false, length, map, refl, suc, sym, true, zero, ℕ, ◌++◌, ◌+◌}
use Rattle.std.proofs.Common.{◌<◌, ◌∙◌, ◌∷◌, ◌≡◌, ◌≤◌}
use Rattle.std.proofs.Math.Bool.{or-false}
use Rattle.std.proofs.lemmas.Bool.{eqb-false, eqb-true, false_from_ne_true, true≢false}
use Rattle.std.proofs.lemmas.List.{length-map}
use Rattle.std.proofs.lemmas.List.Folds.{list_any-append}
use Rattle.std.proofs.lemmas.Option.{none-some}
use Rattle.std.specs.List.{list_any}
use Rattle.std.specs.Prelude.{Contains, is_some, not, slice_get, slice_set, unwrap_or, ◌&&◌, ◌==◌, ◌||◌}
use Rattle.task_base.specs.Plan.{Plan}
use Rattle.task_base.specs.declared.entry.Entry.{Entry}
use Rattle.task_base.specs.declared.entry.Kind.{Kind}
use Rattle.task_base.specs.declared.step.Step.{Step}
use Rattle.task_model.proofs.Growth.{is_main_taken_push, is_taken_push, main_posts_push, posts_push}
use Rattle.task_model.specs.Past.{fold_past}
use Rattle.task_model.specs.Posts.{Posted, is_main_taken, is_taken, main_posted_by, main_posts, main_takes, post_behind, posted_by, posts, takes}
use Rattle.task_base.specs.declared.entry.Kind.TheVariants as kinds

-- Lists of optional things.

-- in a list where each thing is there, so is the one at each place
mapped_there : {X : Type 0} (xs : List X) (i : ℕ) → i < length xs → is_some (unwrap_or (slice_get (map Some xs) i) None) ≡ true
mapped_there [] i lt = absurd (omega (arith, lt))
mapped_there (x ∷ xs) zero lt = refl
mapped_there (x ∷ xs) (suc i) lt = mapped_there xs i (omega (arith, lt))

-- a thing of such a list is that of the list that it was made of
unmapped : {X : Type 0} (xs : List X) (i : ℕ) (x : X) → slice_get (map Some xs) i ≡ Some (Some x) → slice_get xs i ≡ Some x
unmapped [] i x is = absurd (none-some _ is)
unmapped (y ∷ xs) zero x is = some-injective is
unmapped (y ∷ xs) (suc i) x is = unmapped xs i x is

-- a thing that is taken out leaves its place
length_without : {X : Type 0} (xs : List (Option X)) (i : ℕ) → length (slice_set xs i None) ≡ length xs
length_without [] i = refl
length_without (y ∷ xs) zero = refl
length_without (y ∷ xs) (suc i) = ap suc (length_without xs i)

-- nothing is left at the place
none_left : {X : Type 0} (xs : List (Option X)) (i : ℕ) → is_some (unwrap_or (slice_get (slice_set xs i None) i) None) ≡ false
none_left [] i = refl
none_left (y ∷ xs) zero = refl
none_left (y ∷ xs) (suc i) = none_left xs i

-- the other places stay as they are
others_left : {X : Type 0} (xs : List (Option X)) (i k : ℕ) → (i ≡ k → ⊥) → slice_get (slice_set xs i None) k ≡ slice_get xs k
others_left [] i k other = refl
others_left (y ∷ xs) zero zero other = absurd (other refl)
others_left (y ∷ xs) zero (suc k) other = refl
others_left (y ∷ xs) (suc i) zero other = refl
others_left (y ∷ xs) (suc i) (suc k) other = others_left xs i k (λ same. other (ap suc same))

-- what is there now was there before
was_there : {X : Type 0} (xs : List (Option X)) (i k : ℕ) (x : X) → slice_get (slice_set xs i None) k ≡ Some (Some x) → slice_get xs k ≡ Some (Some x)
was_there [] i k x is = is
was_there (y ∷ xs) zero zero x is = absurd (none-some x (some-injective is))
was_there (y ∷ xs) zero (suc k) x is = is
was_there (y ∷ xs) (suc i) zero x is = is
was_there (y ∷ xs) (suc i) (suc k) x is = was_there xs i k x is

-- What may still be taken.

-- behind one more entry the post was refused before, or by this entry
was_refused_push : (past : List Entry) (e : Entry) (t : ℕ) → was_refused (past ++ e ∷ []) t ≡ (was_refused past t || refuses t e.kind)
unfolding was_refused
was_refused_push past e t = list_any-append (λ x. refuses t x.kind) past (e ∷ [])
    ∙ ap (λ b. list_any (λ (x : Entry). refuses t x.kind) past || b) (or-false (refuses t e.kind))

-- an entry that neither takes the task nor refuses it, and one that does
drawer_kept : (past : List Entry) (e : Entry) (t : ℕ) → empties t e.kind ≡ false → is_in_drawer (past ++ e ∷ []) t ≡ is_in_drawer past t
drawer_kept past e t h = rw (is_taken_push past e t, is_main_taken_push past e t, was_refused_push past e t)
    (by_taken (is_taken past t) (is_main_taken past t) (was_refused past t) (takes t e.kind) (main_takes t e.kind) (refuses t e.kind) h)
  where
    by_taken : (a b c x y z : Bool) → (x || y || z) ≡ false → not ((a || x) || (b || y) || (c || z)) ≡ not (a || b || c)
    by_taken a b c true y z k = absurd cc
    by_taken a b c false true z k = absurd cc
    by_taken a b c false false true k = absurd cc
    by_taken true b c false false false k = refl
    by_taken false true c false false false k = refl
    by_taken false false true false false false k = refl
    by_taken false false false false false false k = refl

-- an entry that takes the task or refuses its post
drawer_without : (past : List Entry) (e : Entry) (t : ℕ) → empties t e.kind ≡ true → is_in_drawer (past ++ e ∷ []) t ≡ false
drawer_without past e t h = rw (is_taken_push past e t, is_main_taken_push past e t, was_refused_push past e t)
    (by_taken (is_taken past t) (is_main_taken past t) (was_refused past t) (takes t e.kind) (main_takes t e.kind) (refuses t e.kind) h)
  where
    by_taken : (a b c x y z : Bool) → (x || y || z) ≡ true → not ((a || x) || (b || y) || (c || z)) ≡ false
    by_taken true b c x y z k = refl
    by_taken false b c true y z k = refl
    by_taken false true c false y z k = refl
    by_taken false false c false true z k = refl
    by_taken false false true false false z k = refl
    by_taken false false false false false true k = refl
    by_taken false false false false false false k = absurd cc

-- at the start nothing is posted
nothing_posted : (t : ℕ) → accepted_of t [] + count (λ (e : Entry). refuses t e.kind) [] ≤ times t (posted_in [])
unfolding posts main_posts fold_past posted_in
nothing_posted t = omega arith

-- an accepted post of the task and a refused one are two postings of it
posted_or_refused : (t : ℕ) (past : List Entry) → accepted_of t past + count (λ e. refuses t e.kind) past ≤ times t (posted_in past)
posted_or_refused t = push_induction (λ past. accepted_of t past + count (λ e. refuses t e.kind) past ≤ times t (posted_in past)) (nothing_posted t) next
  where
    accepted : (p : Posted) (task : ℕ) (b : Bool) → length (cond b (p ∷ []) []) + cond (b && false) 1 0 ≤ length (cond b (task ∷ []) [])
    accepted p task true = omega arith
    accepted p task false = omega arith

    refused : (task : ℕ) (b : Bool) → 0 + cond (b && true) 1 0 ≤ length (cond b (task ∷ []) [])
    refused task true = omega arith
    refused task false = omega arith

    by_past : (past : List Entry) (kind : Kind)
        → of_task t (posted_by past kind) + of_task t (main_posted_by past kind) + cond (refuses t kind) 1 0 ≤ times t (kind_posts kind)
    by_past past (kinds.Post task runner delay true) = omega (arith, accepted (post_behind past task runner delay) task (eqb task t))
    by_past past (kinds.Post task runner delay false) = omega (arith, refused task (eqb task t))
    by_past past (kinds.Main task queue delay true) = omega (arith, accepted (post_behind past task queue delay) task (eqb task t))
    by_past past (kinds.Main task queue delay false) = omega (arith, refused task (eqb task t))
    by_past past kind = omega arith

    next : (past : List Entry) (e : Entry) → accepted_of t past + count (λ x. refuses t x.kind) past ≤ times t (posted_in past)
        → accepted_of t (past ++ e ∷ []) + count (λ x. refuses t x.kind) (past ++ e ∷ []) ≤ times t (posted_in (past ++ e ∷ []))
    next past e before = rw (
      posts_push past e,
      main_posts_push past e,
      count-append (λ (p : Posted). eqb p.task t) (posts past) (posted_by past e.kind),
      count-append (λ (p : Posted). eqb p.task t) (main_posts past) (main_posted_by past e.kind),
      count-push (λ (x : Entry). refuses t x.kind) past e,
      posted_in_push t past e,
    )
        (omega (arith, before, by_past past e.kind))

-- so an accepted task was not refused
not_refused : (script : Plan) (past : List Entry) (t : ℕ) → IsPostedOnce script → IsLegal script past → 1 ≤ accepted_of t past → was_refused past t ≡ false
unfolding was_refused
not_refused script past t once legal accepted = none_from_count (λ (e : Entry). refuses t e.kind) past
    (omega (arith, posted_or_refused t past, posted_at_most_once script past t once legal, accepted))

-- a task that was accepted by the pool, or by a main queue, is in the drawer until it is taken
pub accepted_in_drawer : (script : Plan) (past : List Entry) (p : Posted) → IsPostedOnce script → IsLegal script past → Contains (posts past) p
    → is_taken past p.task ≡ false → is_in_drawer past p.task ≡ true
accepted_in_drawer script past p once legal accepted untaken =
    let here : 1 ≤ of_task p.task (posts past) = contained_counts (λ (q : Posted). eqb q.task p.task) (posts past) p accepted (eqb-same p.task) in
    let known = counted script once past legal in
    let other : is_main_taken past p.task ≡ false = false_from_ne_true (is_main_taken past p.task)
    (λ k. omega (arith, here, known.taken true p.task k, known.accepted p.task, posted_at_most_once script past p.task once legal)) in
    rw (untaken, other, not_refused script past p.task once legal (omega (arith, here))) refl

-- a task that was accepted by a main queue is in the drawer until it is taken
pub main_accepted_in_drawer : (script : Plan) (past : List Entry) (p : Posted) → IsPostedOnce script → IsLegal script past
    → Contains (main_posts past) p → is_main_taken past p.task ≡ false → is_in_drawer past p.task ≡ true
main_accepted_in_drawer script past p once legal accepted untaken =
    let here : 1 ≤ of_task p.task (main_posts past) = contained_counts (λ (q : Posted). eqb q.task p.task) (main_posts past) p accepted (eqb-same p.task) in
    let known = counted script once past legal in
    let other : is_taken past p.task ≡ false = false_from_ne_true (is_taken past p.task)
    (λ k. omega (arith, here, known.taken false p.task k, known.accepted p.task, posted_at_most_once script past p.task once legal)) in
    rw (other, untaken, not_refused script past p.task once legal (omega (arith, here))) refl

-- at the start the drawer has the body of each task
pub bodies_at_start : {X : Type 0} (bodies : List X) (whole rest : X → List Step) (script : Plan) → AreFresh bodies whole rest script
    → AreBodies (map Some bodies) whole rest script []
unfolding is_taken is_main_taken was_refused
bodies_at_start bodies whole rest script fresh = record {
  all = length-map bodies Some ∙ fresh.all;
  held = λ t known. mapped_there bodies t (rw (fresh.all) known);
  whole_is = λ t body is. fresh.whole_is t body (unmapped bodies t body is);
  rest_is = λ t body is. fresh.rest_is t body (unmapped bodies t body is);
}

-- an accepted post, and any entry that neither takes a task of the pool nor refuses one
pub bodies_kept : {X : Type 0} (bodies : List (Option X)) (whole rest : X → List Step) (script : Plan) (past : List Entry) (e : Entry)
    → ((t : ℕ) → empties t e.kind ≡ false) → AreBodies bodies whole rest script past
    → AreBodies bodies whole rest script (past ++ e ∷ [])
bodies_kept bodies whole rest script past e still are = record {
  all = are.all;
  held = λ t known. are.held t known ∙ sym (drawer_kept past e t (still t));
  whole_is = are.whole_is;
  rest_is = are.rest_is;
}

-- a refused post drops the body, and a take moves it out
pub bodies_without : {X : Type 0} (bodies : List (Option X)) (whole rest : X → List Step) (script : Plan) (past : List Entry) (e : Entry) (task : ℕ)
    → ((t : ℕ) → empties t e.kind ≡ (task == t)) → AreBodies bodies whole rest script past
    → AreBodies (slice_set bodies task None) whole rest script (past ++ e ∷ [])
bodies_without bodies whole rest script past e task only are = record {
  all = length_without bodies task ∙ are.all;
  held = λ t known. held t known (eqb task t) refl;
  whole_is = λ t body is. are.whole_is t body (was_there bodies task t body is);
  rest_is = λ t body is. are.rest_is t body (was_there bodies task t body is);
}
  where
    held : (t : ℕ) → t < length script.tasks → (b : Bool) → eqb task t ≡ b
        → is_some (unwrap_or (slice_get (slice_set bodies task None) t) None) ≡ is_in_drawer (past ++ e ∷ []) t
    held t known true same = rw (drawer_without past e t (only t ∙ same), ← eqb-true task t same) (none_left bodies task)
    held t known false other = rw (drawer_kept past e t (only t ∙ other), others_left bodies task t (eqb-false task t other)) (are.held t known)

-- what is in the drawer has its body there
pub body_there : {X : Type 0} (bodies : List (Option X)) (whole rest : X → List Step) (script : Plan) (past : List Entry) (t : ℕ)
    → AreBodies bodies whole rest script past → t < length script.tasks → is_in_drawer past t ≡ true
    → (body : X) × (slice_get bodies t ≡ Some (Some body))
body_there {X = X} bodies whole rest script past t are declared in_drawer = at (slice_get bodies t) refl
  where
    at : (o : Option (Option X)) → slice_get bodies t ≡ o → (body : X) × (slice_get bodies t ≡ Some (Some body))
    at None is = absurd (true≢false (sym (sym (ap (λ o. is_some (unwrap_or o None)) is) ∙ are.held t declared ∙ in_drawer)))
    at (Some None) is = absurd (true≢false (sym (sym (ap (λ o. is_some (unwrap_or o None)) is) ∙ are.held t declared ∙ in_drawer)))
    at (Some (Some body)) is = (body, is)

-- a take from the pool, and one from a main queue
pub bodies_at_take : {X : Type 0} (bodies : List (Option X)) (whole rest : X → List Step) (script : Plan) (past : List Entry)
    (seat task runner value : ℕ) → AreBodies bodies whole rest script past
    → AreBodies (slice_set bodies task None) whole rest script (past ++ (record { seat = seat; kind = kinds.Take task runner value }) ∷ [])
bodies_at_take bodies whole rest script past seat task runner value are =
    bodies_without bodies whole rest script past (record { seat = seat; kind = kinds.Take task runner value }) task
    (λ t. or-false (task == t || false) ∙ or-false (task == t)) are

-- a take from a main queue moves the body out
pub bodies_at_main_take : {X : Type 0} (bodies : List (Option X)) (whole rest : X → List Step) (script : Plan) (past : List Entry)
    (seat task queue value : ℕ) → AreBodies bodies whole rest script past
    → AreBodies (slice_set bodies task None) whole rest script (past ++ (record { seat = seat; kind = kinds.MainTake task queue value }) ∷ [])
bodies_at_main_take bodies whole rest script past seat task queue value are =
    bodies_without bodies whole rest script past (record { seat = seat; kind = kinds.MainTake task queue value }) task (λ t. or-false (task == t)) are

-- a post
pub bodies_at_post : {X : Type 0} (bodies : List (Option X)) (whole rest : X → List Step) (script : Plan) (past : List Entry)
    (seat task runner delay : ℕ) (ok : Bool) → AreBodies bodies whole rest script past
    → AreBodies (kept_if ok bodies task) whole rest script (past ++ (record { seat = seat; kind = kinds.Post task runner delay ok }) ∷ [])
bodies_at_post bodies whole rest script past seat task runner delay true are =
    bodies_kept bodies whole rest script past (record { seat = seat; kind = kinds.Post task runner delay true }) (λ t. and-false (task == t)) are
bodies_at_post bodies whole rest script past seat task runner delay false are =
    bodies_without bodies whole rest script past (record { seat = seat; kind = kinds.Post task runner delay false }) task (λ t. and-true (task == t)) are

-- a post to a main queue
pub bodies_at_main : {X : Type 0} (bodies : List (Option X)) (whole rest : X → List Step) (script : Plan) (past : List Entry)
    (seat task queue delay : ℕ) (ok : Bool) → AreBodies bodies whole rest script past
    → AreBodies (kept_if ok bodies task) whole rest script (past ++ (record { seat = seat; kind = kinds.Main task queue delay ok }) ∷ [])
bodies_at_main bodies whole rest script past seat task queue delay true are =
    bodies_kept bodies whole rest script past (record { seat = seat; kind = kinds.Main task queue delay true }) (λ t. and-false (task == t)) are
bodies_at_main bodies whole rest script past seat task queue delay false are =
    bodies_without bodies whole rest script past (record { seat = seat; kind = kinds.Main task queue delay false }) task (λ t. and-true (task == t)) are
