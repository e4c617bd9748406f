-- What one more entry does to the accepted tasks: only an accepted post changes them, the post of a task stays, and the
-- posts stay in order and of tasks of their own, as long as no task is posted twice.
-- Cited by `Seats/Runs`, `pool_core`, `sequence_manager`, `situation`.
use Rattle.list_laws.specs.Lists.{count}
use Rattle.list_laws.proofs.Values.{eqb-same}
use Rattle.list_laws.proofs.Filters.{filter_none}
use Rattle.list_laws.proofs.Counts.{count_step}
use Rattle.std.proofs.Common.{◌≡◌, ℕ, Bool, true, false, cond, eqb, List, [], ◌∷◌, ◌++◌, length, refl, sym, Some, None, ap, arith, ◌∙◌, ◌≤◌}
use Rattle.std.specs.Prelude.{find, nat_lt, ◌==◌, ◌||◌}
use Rattle.std.specs.Option.{option_or}
use Rattle.std.specs.List.{AllByRecursion}
use Rattle.std.proofs.lemmas.Bool.{true≢false, ltb-true, eqb-false, ne_eqb, eqb-true}
use Rattle.std.proofs.lemmas.Option.{none-some}
use Rattle.std.proofs.lemmas.List.{append-nil}
use Rattle.std.proofs.lemmas.List.Folds.{find-append}
use Rattle.task_base.specs.declared.entry.Entry.{Entry}
use Rattle.task_base.specs.declared.entry.Kind.{Kind}
use Rattle.task_base.specs.declared.entry.Kind.TheVariants.{Post, Main}
use Rattle.task_model.specs.Posts.{Posted, post_behind, posted_by, posts, main_posted_by, main_posts}
use Rattle.pool_laws.specs.Posts.{Before, InOrder, is_main_ended, main_ends, main_post_of, post_of}
use Rattle.pool_laws.specs.Keys.{moves_posts, moves_main_posts}
use Rattle.task_model.proofs.Growth.{any-push, posts_push, main_posts_push}
use Rattle.list_laws.proofs.Elements.{AllByRecursion-map, AllByRecursion-both}
use Rattle.pool_laws.proofs.Keys.Ready.{posts_within, main_posts_within}
use Rattle.pool_laws.specs.Moves.{Posts}
use Rattle.pool_laws.proofs.Moves.{no_posted}

pub is_main_ended_push : (past : List Entry) (e : Entry) (t : ℕ) → is_main_ended (past ++ e ∷ []) t ≡ (is_main_ended past t || main_ends t e.kind)
unfolding is_main_ended
is_main_ended_push past e t = any-push (main_ends t) past e

pub posts_same : (past : List Entry) (e : Entry) → moves_posts e.kind ≡ false → posts (past ++ e ∷ []) ≡ posts past
posts_same past e quiet = rw (posts_push past e, no_posted (Posts ∷ []) past e.kind refl quiet) (append-nil _)

pub main_posts_same : (past : List Entry) (e : Entry) → moves_main_posts e.kind ≡ false → main_posts (past ++ e ∷ []) ≡ main_posts past
main_posts_same past e quiet = rw (main_posts_push past e, none e.kind quiet) (append-nil _)
  where
    none : (kind : Kind) → moves_main_posts kind ≡ false → main_posted_by past kind ≡ []
    none (Main task queue delay true) h = absurd (true≢false h)
    none kind h = refl

-- the post of a task stays; where it had none, it is the new one, if that is of the task
pub post_of_grows : (past : List Entry) (e : Entry) (t : ℕ) → post_of (past ++ e ∷ []) t
    ≡ option_or (post_of past t) (find (λ p. p.task == t) (posted_by past e.kind))
post_of_grows past e t = rw (posts_push past e) (find-append _ (posts past) _)

pub main_post_of_grows : (past : List Entry) (e : Entry) (t : ℕ)
    → main_post_of (past ++ e ∷ []) t ≡ option_or (main_post_of past t) (find (λ p. p.task == t) (main_posted_by past e.kind))
main_post_of_grows past e t = rw (main_posts_push past e) (find-append _ (main_posts past) _)

-- where none is found, all are of other tasks
others : (t : ℕ) (xs : List Posted) → find (λ p. eqb p.task t) xs ≡ None → AllByRecursion (λ p. eqb p.task t ≡ false) xs
others t [] none = tt
others t (x ∷ xs) none = by_task (eqb x.task t) none (others t xs)
  where
    by_task : (b : Bool) → cond b (Some x) (find (λ p. eqb p.task t) xs) ≡ None
        → (find (λ p. eqb p.task t) xs ≡ None → AllByRecursion (λ p. eqb p.task t ≡ false) xs) → (b ≡ false) × AllByRecursion (λ p. eqb p.task t ≡ false) xs
    by_task true h rest = absurd (none-some x (sym h))
    by_task false h rest = (refl, rest h)

-- one more at the end, behind all the others
in_order_push : (xs : List Posted) (p : Posted) → InOrder xs → AllByRecursion (λ x. Before x p) xs → InOrder (xs ++ p ∷ [])
in_order_push [] p order before = (tt, tt)
in_order_push (x ∷ xs) p order before = (more xs order.0, in_order_push xs p order.1 before.1)
  where
    more : (ys : List Posted) → AllByRecursion (Before x) ys → AllByRecursion (Before x) (ys ++ p ∷ [])
    more [] h = (before.0, tt)
    more (y ∷ ys) h = (h.0, more ys h.1)

-- the tasks of a past are before one that is posted behind it, and that had no post
all_before : (past : List Entry) (xs : List Posted) (task home delay : ℕ) → AllByRecursion (λ p. nat_lt p.place (length past) ≡ true) xs
    → find (λ p. eqb p.task task) xs ≡ None → AllByRecursion (λ p. Before p (post_behind past task home delay)) xs
all_before past xs task home delay within none =
    AllByRecursion-map _ _ xs (λ p h. record { earlier = ltb-true p.place (length past) h.0; another = eqb-false p.task task h.1 })
    (AllByRecursion-both _ _ xs within (others task xs none))

-- the posts stay in order, and of tasks of their own, at the post of a task that had none
pub posts_in_order : (past : List Entry) (e : Entry) (task runner delay : ℕ) → e.kind ≡ Post task runner delay true → post_of past task ≡ None
    → InOrder (posts past) → InOrder (posts (past ++ e ∷ []))
posts_in_order past e task runner delay is none order =
    rw (posts_push past e, is)
    (in_order_push (posts past) (post_behind past task runner delay) order (all_before past (posts past) task runner delay (posts_within past) none))

pub main_posts_in_order : (past : List Entry) (e : Entry) (task queue delay : ℕ) → e.kind ≡ Main task queue delay true → main_post_of past task ≡ None
    → InOrder (main_posts past) → InOrder (main_posts (past ++ e ∷ []))
main_posts_in_order past e task queue delay is none order =
    rw (main_posts_push past e, is)
    (in_order_push (main_posts past) (post_behind past task queue delay) order
    (all_before past (main_posts past) task queue delay (main_posts_within past) none))

-- each of some posts in order is found by its task
pub in_order_found : (ps : List Posted) → InOrder ps → AllByRecursion (λ p. find (λ q. q.task == p.task) ps ≡ Some p) ps
in_order_found [] order = tt
in_order_found (x ∷ xs) order = (
  rw (eqb-same x.task) refl,
  AllByRecursion-map _ (λ p. find (λ q. q.task == p.task) (x ∷ xs) ≡ Some p) xs (λ p h. rw (ne_eqb x.task p.task h.0.another) h.1)
      (AllByRecursion-both (Before x) _ xs order.0 (in_order_found xs order.1)),
)

-- of posts in order at most one is of a task
pub in_order_counts : (t : ℕ) (ps : List Posted) → InOrder ps → count (λ p. p.task == t) ps ≤ 1
in_order_counts t [] order = omega arith
in_order_counts t (x ∷ xs) order = by_task (x.task == t) refl (in_order_counts t xs order.1)
  where
    none_else : (x.task == t) ≡ true → count (λ p. p.task == t) xs ≡ 0
    none_else here = ap length (filter_none (λ p. p.task == t) xs (AllByRecursion-map (Before x) (λ p. (p.task == t) ≡ false) xs
        (λ p before. ne_eqb p.task t (λ same. before.another (eqb-true x.task t here ∙ sym same))) order.0))

    by_task : (b : Bool) → (x.task == t) ≡ b → count (λ p. p.task == t) xs ≤ 1 → count (λ p. p.task == t) (x ∷ xs) ≤ 1
    by_task true here rest = omega (arith, count_step (λ p. p.task == t) x xs true here, none_else here)
    by_task false other rest = omega (arith, count_step (λ p. p.task == t) x xs false other, rest)
