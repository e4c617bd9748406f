-- What one more entry does to the counts of the tasks that shutdown waits for. An accepted block task counts from its
-- post on, and a skip task from its start on, each until its end; a post leaves the skip tasks that run, a take leaves the
-- open block tasks, and each other kind leaves both. The premises hold in each legal past: a task has one accepted post, is
-- taken after it, and ends after that.
-- Cited by `Shutdown/Blockers`, `log_count`, `pool_core`, `situation`.
use Rattle.std.proofs.Common.{◌≡◌, ℕ, ◌+◌, ◌≤◌, Bool, true, false, cond, eqb, List, [], ◌∷◌, ◌++◌, length, refl, sym, ap, ◌∙◌, Some, arith}
use Rattle.std.specs.Prelude.{◌&&◌, not, find, filter}
use Rattle.std.proofs.Math.Bool.{or-false, and-true, and-false}
use Rattle.std.proofs.Math.Nat.{add-zero}
use Rattle.std.proofs.lemmas.Bool.{eqb-true, ne_eqb, or_right}
use Rattle.std.proofs.lemmas.Option.{none-some}
use Rattle.std.proofs.lemmas.List.{append-nil}
use Rattle.task_base.specs.Plan.{Plan}
use Rattle.task_base.specs.declared.entry.Entry.{Entry}
use Rattle.task_base.specs.declared.entry.Kind.TheVariants.{Post, Take, End}
use Rattle.task_traits.specs.declared.traits.Behaviour.{Behaviour}
use Rattle.task_traits.specs.declared.traits.Behaviour.TheVariants.{ContinueOnShutdown, SkipOnShutdown, BlockShutdown}
use Rattle.list_laws.specs.Lists.{count}
use Rattle.task_model.specs.Posts.{Posted, post_behind, posted_by, posts, is_taken, takes, is_ended, ends}
use Rattle.pool_laws.specs.Posts.{Before, InOrder, post_of}
use Rattle.task_model.specs.Refusal.{effective_at}
use Rattle.task_model.specs.Blockers.{open_blocks, running_skips, is_block, is_skip, is_open_block, is_running_skip}
use Rattle.pool_laws.specs.Room.{share}
use Rattle.pool_laws.specs.Shutdown.{moves_open_blocks, moves_running_skips, is_block_task, is_skip_task, open_block_parts, running_skip_parts}
use Rattle.task_model.proofs.Growth.{posts_push, is_taken_push, is_ended_push}
use Rattle.list_laws.proofs.Counts.{count_apart, filter_length_congr, count-cons}
use Rattle.list_laws.proofs.Elements.{AllByRecursion-map}
use Rattle.list_laws.proofs.Filters.{filter_congr_in}
use Rattle.list_laws.proofs.Places.{count-push}
use Rattle.list_laws.proofs.Values.{eqb-same, some-injective}
use Rattle.pool_laws.proofs.Moves.{no_posted, no_take, no_end}

-- tests that agree on all tasks but one, over posts that are each of another task
count_at : (f g : Posted → Bool) (t : ℕ) (xs : List Posted) (p : Posted) → InOrder xs → find (λ q. eqb q.task t) xs ≡ Some p
    → ((q : Posted) → eqb q.task t ≡ false → f q ≡ g q) → count f xs + share (g p) ≡ count g xs + share (f p)
count_at f g t [] p order found h = absurd (none-some p found)
count_at f g t (x ∷ xs) p order found h = by_task (eqb x.task t) refl found (λ later. count_at f g t xs p order.1 later h)
  where
    by_task : (b : Bool) → eqb x.task t ≡ b → cond b (Some x) (find (λ q. eqb q.task t) xs) ≡ Some p
        → (find (λ q. eqb q.task t) xs ≡ Some p → count f xs + share (g p) ≡ count g xs + share (f p))
        → count f (x ∷ xs) + share (g p) ≡ count g (x ∷ xs) + share (f p)
    by_task true here is rest =
        let others : filter f xs ≡ filter g xs = filter_congr_in f g xs (AllByRecursion-map (Before x) (λ q. f q ≡ g q) xs
        (λ q before. h q (ne_eqb q.task t (λ same. before.another (eqb-true x.task t here ∙ sym same)))) order.0) in
        rw (count-cons f x xs, count-cons g x xs, others, some-injective is) (omega arith)
    by_task false other is rest = rw (count-cons f x xs, count-cons g x xs, h x other) (omega (arith, rest is))

-- the found post is of the task
found_task : (t : ℕ) (xs : List Posted) (p : Posted) → find (λ q. eqb q.task t) xs ≡ Some p → p.task ≡ t
found_task t [] p found = absurd (none-some p found)
found_task t (x ∷ xs) p found = by_task (eqb x.task t) refl found (found_task t xs p)
  where
    by_task : (b : Bool) → eqb x.task t ≡ b → cond b (Some x) (find (λ q. eqb q.task t) xs) ≡ Some p → (find (λ q. eqb q.task t) xs ≡ Some p → p.task ≡ t)
        → p.task ≡ t
    by_task true here is rest = rw (← some-injective is) (eqb-true x.task t here)
    by_task false other is rest = rest is

turned : (a b : ℕ) → eqb a b ≡ false → eqb b a ≡ false
turned a b h = grind arith

-- what the tests of tasks look at
open_block_at : (script : Plan) (past later : List Entry) (p : Posted) → is_ended later p.task ≡ is_ended past p.task
    → is_open_block script later p ≡ is_open_block script past p
open_block_at script past later p ended = rw ended refl

running_skip_at : (script : Plan) (past later : List Entry) (p : Posted) → is_taken later p.task ≡ is_taken past p.task
    → is_ended later p.task ≡ is_ended past p.task → is_running_skip script later p ≡ is_running_skip script past p
running_skip_at script past later p taken ended = rw (taken, ended) refl

-- an entry that posts, takes and ends nothing
posts_kept : (past : List Entry) (e : Entry) → posted_by past e.kind ≡ [] → posts (past ++ e ∷ []) ≡ posts past
posts_kept past e none = rw (posts_push past e, none) (append-nil (posts past))

taken_kept : (past : List Entry) (e : Entry) (t : ℕ) → takes t e.kind ≡ false → is_taken (past ++ e ∷ []) t ≡ is_taken past t
taken_kept past e t none = rw (is_taken_push past e t, none) (or-false (is_taken past t))

ended_kept : (past : List Entry) (e : Entry) (t : ℕ) → ends t e.kind ≡ false → is_ended (past ++ e ∷ []) t ≡ is_ended past t
ended_kept past e t none = rw (is_ended_push past e t, none) (or-false (is_ended past t))

-- an accepted post
posts_grown : (past : List Entry) (e : Entry) (task runner delay : ℕ) → e.kind ≡ Post task runner delay true
    → posts (past ++ e ∷ []) ≡ posts past ++ post_behind past task runner delay ∷ []
posts_grown past e task runner delay is = rw (posts_push past e, is) refl

-- Open block tasks.

blocks_kept : (script : Plan) (past : List Entry) (e : Entry) → posted_by past e.kind ≡ [] → ((t : ℕ) → ends t e.kind ≡ false)
    → open_blocks script (past ++ e ∷ []) ≡ open_blocks script past
blocks_kept script past e no_post no_end = rw (posts_kept past e no_post)
    (filter_length_congr (is_open_block script (past ++ e ∷ [])) (is_open_block script past) (posts past)
    (λ p. open_block_at script past (past ++ e ∷ []) p (ended_kept past e p.task (no_end p.task))))

pub open_blocks_same : (script : Plan) (past : List Entry) (e : Entry) → moves_open_blocks e.kind ≡ false
    → open_blocks script (past ++ e ∷ []) ≡ open_blocks script past
open_blocks_same script past e quiet =
    blocks_kept script past e (no_posted open_block_parts past e.kind refl quiet) (no_end open_block_parts e.kind refl quiet)

-- a block task counts from its post on
pub open_blocks_at_post : (script : Plan) (past : List Entry) (e : Entry) (task runner delay : ℕ) → e.kind ≡ Post task runner delay true
    → is_ended past task ≡ false
    → open_blocks script (past ++ e ∷ []) ≡ open_blocks script past + share (is_block (effective_at script runner delay))
open_blocks_at_post script past e task runner delay is unended =
    rw (
      posts_grown past e task runner delay is,
      count-push (is_open_block script (past ++ e ∷ [])) (posts past) (post_behind past task runner delay),
      ended task,
      unended,
      and-true (is_block (effective_at script runner delay)),
      old,
    ) refl
  where
    ended : (t : ℕ) → is_ended (past ++ e ∷ []) t ≡ is_ended past t
    ended t = ended_kept past e t (ap (ends t) is)

    old : count (is_open_block script (past ++ e ∷ [])) (posts past) ≡ open_blocks script past
    old = filter_length_congr (is_open_block script (past ++ e ∷ [])) (is_open_block script past) (posts past)
        (λ p. open_block_at script past (past ++ e ∷ []) p (ended p.task))

-- the task that ends
now_ended : (past : List Entry) (e : Entry) (task left : ℕ) → e.kind ≡ End task left → is_ended (past ++ e ∷ []) task ≡ true
now_ended past e task left is = rw (is_ended_push past e task, is) (or_right (is_ended past task) (eqb task task) (eqb-same task))

other_ended : (past : List Entry) (e : Entry) (task left t : ℕ) → e.kind ≡ End task left → eqb t task ≡ false
    → is_ended (past ++ e ∷ []) t ≡ is_ended past t
other_ended past e task left t is other = ended_kept past e t (ap (ends t) is ∙ turned t task other)

-- until its end
pub open_blocks_at_end : (script : Plan) (past : List Entry) (e : Entry) (p : Posted) (task left : ℕ) → e.kind ≡ End task left
    → InOrder (posts past) → post_of past task ≡ Some p → is_ended past task ≡ false
    → open_blocks script past ≡ open_blocks script (past ++ e ∷ []) + share (is_block_task script p)
open_blocks_at_end script past e p task left is order posted unended =
    rw (posts_kept past e (ap (posted_by past) is))
    (omega (
      arith,
      count_at (is_open_block script past) (is_open_block script (past ++ e ∷ [])) task (posts past) p order posted
          (λ q other. sym (open_block_at script past (past ++ e ∷ []) q (other_ended past e task left q.task is other))),
      ap share gone,
      ap share counted,
    ))
  where
    gone : is_open_block script (past ++ e ∷ []) p ≡ false
    gone = rw (found_task task (posts past) p posted, now_ended past e task left is) (and-false (is_block_task script p))

    counted : is_open_block script past p ≡ is_block_task script p
    counted = rw (found_task task (posts past) p posted, unended) (and-true (is_block_task script p))

-- Skip tasks that run.

pub running_skips_same : (script : Plan) (past : List Entry) (e : Entry) → moves_running_skips e.kind ≡ false
    → running_skips script (past ++ e ∷ []) ≡ running_skips script past
running_skips_same script past e quiet = rw (posts_kept past e (no_posted running_skip_parts past e.kind refl quiet))
    (filter_length_congr (is_running_skip script (past ++ e ∷ [])) (is_running_skip script past) (posts past)
    (λ p. running_skip_at script past (past ++ e ∷ []) p (taken_kept past e p.task (no_take running_skip_parts e.kind refl quiet p.task))
    (ended_kept past e p.task (no_end running_skip_parts e.kind refl quiet p.task))))

-- a task does not run at its post
pub running_skips_at_post : (script : Plan) (past : List Entry) (e : Entry) (task runner delay : ℕ) → e.kind ≡ Post task runner delay true
    → is_taken past task ≡ false → running_skips script (past ++ e ∷ []) ≡ running_skips script past
running_skips_at_post script past e task runner delay is untaken =
    rw (
      posts_grown past e task runner delay is,
      count-push (is_running_skip script (past ++ e ∷ [])) (posts past) (post_behind past task runner delay),
      taken task,
      untaken,
      and-false (is_skip (effective_at script runner delay)),
      old,
    ) (add-zero (running_skips script past))
  where
    taken : (t : ℕ) → is_taken (past ++ e ∷ []) t ≡ is_taken past t
    taken t = taken_kept past e t (ap (takes t) is)

    old : count (is_running_skip script (past ++ e ∷ [])) (posts past) ≡ running_skips script past
    old = filter_length_congr (is_running_skip script (past ++ e ∷ [])) (is_running_skip script past) (posts past)
        (λ p. running_skip_at script past (past ++ e ∷ []) p (taken p.task) (ended_kept past e p.task (ap (ends p.task) is)))

-- a skip task counts from its start on
pub running_skips_at_take : (script : Plan) (past : List Entry) (e : Entry) (p : Posted) (task runner found : ℕ) → e.kind ≡ Take task runner found
    → InOrder (posts past) → post_of past task ≡ Some p → is_taken past task ≡ false → is_ended past task ≡ false
    → running_skips script (past ++ e ∷ []) ≡ running_skips script past + share (is_skip_task script p)
running_skips_at_take script past e p task runner found is order posted untaken unended =
    rw (posts_kept past e (ap (posted_by past) is))
    (omega (
      arith,
      count_at (is_running_skip script past) (is_running_skip script (past ++ e ∷ [])) task (posts past) p order posted
          (λ q other. sym (running_skip_at script past (past ++ e ∷ []) q (taken_kept past e q.task (ap (takes q.task) is ∙ turned q.task task other))
          (ended q.task))),
      ap share before,
      ap share after,
    ))
  where
    ended : (t : ℕ) → is_ended (past ++ e ∷ []) t ≡ is_ended past t
    ended t = ended_kept past e t (ap (ends t) is)

    before : is_running_skip script past p ≡ false
    before = rw (found_task task (posts past) p posted, untaken, and-false (is_skip_task script p)) refl

    after : is_running_skip script (past ++ e ∷ []) p ≡ is_skip_task script p
    after = rw (
      found_task task (posts past) p posted,
      ended task,
      unended,
      is_taken_push past e task,
      is,
      or_right (is_taken past task) (eqb task task) (eqb-same task),
      and-true (is_skip_task script p),
    ) (and-true (is_skip_task script p))

-- until its end
pub running_skips_at_end : (script : Plan) (past : List Entry) (e : Entry) (p : Posted) (task left : ℕ) → e.kind ≡ End task left
    → InOrder (posts past) → post_of past task ≡ Some p → is_taken past task ≡ true → is_ended past task ≡ false
    → running_skips script past ≡ running_skips script (past ++ e ∷ []) + share (is_skip_task script p)
running_skips_at_end script past e p task left is order posted taken unended =
    rw (posts_kept past e (ap (posted_by past) is))
    (omega (
      arith,
      count_at (is_running_skip script past) (is_running_skip script (past ++ e ∷ [])) task (posts past) p order posted
          (λ q other. sym (running_skip_at script past (past ++ e ∷ []) q (taken_kept past e q.task (ap (takes q.task) is))
          (other_ended past e task left q.task is other))),
      ap share gone,
      ap share counted,
    ))
  where
    gone : is_running_skip script (past ++ e ∷ []) p ≡ false
    gone = rw (found_task task (posts past) p posted, now_ended past e task left is) (and-false (is_skip_task script p && is_taken (past ++ e ∷ []) task))

    counted : is_running_skip script past p ≡ is_skip_task script p
    counted = rw (found_task task (posts past) p posted, taken, unended, and-true (is_skip_task script p)) (and-true (is_skip_task script p))

-- no task is both an open block task and a skip task that runs, so together they are no more than the accepted ones
pub blocks_and_skips : (script : Plan) (past : List Entry) → open_blocks script past + running_skips script past ≤ length (posts past)
blocks_and_skips script past = count_apart (is_open_block script past) (is_running_skip script past) (posts past)
    (λ p. apart (effective_at script p.home p.delay) (is_taken past p.task) (is_ended past p.task))
  where
    apart : (behaviour : Behaviour) (taken ended : Bool) → (is_skip behaviour && taken && not ended) ≡ true → (is_block behaviour && not ended) ≡ false
    apart ContinueOnShutdown taken ended h = refl
    apart SkipOnShutdown taken ended h = refl
    apart BlockShutdown taken ended h = absurd cc
