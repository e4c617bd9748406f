-- What a past of the pool says of the tasks that were accepted.
-- Cited by `Pool::post`, `Pool::start`, `Calls/Posts`, `Calls/Ripening`, `Calls/Takes`, `LineGrowth`, `Lines`, `Pasts`, `Sources/Best`,
-- `Sources/Choosing`, `Sources/Following`, `Sources/Places`, `Tables`, `Tracking`, `Works/AtSeat`, `env_core`, `next_entry`.
use Rattle.pool_laws.proofs.Seats.Runs.{singly_unended}
use Rattle.pool_laws.proofs.Choice.Least.{head_is}
use Rattle.list_laws.proofs.Elements.{AllByRecursion-append, AllByRecursion-contains, AllByRecursion-map}
use Rattle.list_laws.proofs.Finds.{find_contains, find_passes}
use Rattle.list_laws.proofs.Pigeons.{pigeons_fit}
use Rattle.list_laws.proofs.Ranges.{range_any_at}
use Rattle.list_laws.proofs.Values.{eqb-same}
use Rattle.list_laws.specs.Lists.{holds_of}
use Rattle.pool_core.specs.Pasts.{IsDeclared, IsPoolPast}
use Rattle.pool_laws.proofs.Keys.Posts.{posts_in_order, in_order_counts, in_order_found}
use Rattle.std.proofs.Common.{Bool, List, None, Option, Some, ap, arith, false, inr, length, length-append, refl, sym, true, ℕ, ◌++◌, ◌<◌, ◌∙◌, ◌≡◌, ◌≤◌}
use Rattle.std.proofs.lemmas.Bool.{and_parts, eqb-false, eqb-true, false_from_ne_true, ne_eqb, not-true}
use Rattle.std.proofs.lemmas.List.FromFn.{length-range_with_len}
use Rattle.std.proofs.lemmas.Option.{none-some}
use Rattle.std.specs.List.{AllByRecursion, range_with_len}
use Rattle.std.specs.Prelude.{Contains, not, ◌==◌}
use Rattle.task_base.specs.Plan.{Plan}
use Rattle.task_base.specs.Runners.{sequence_of}
use Rattle.task_base.specs.declared.entry.Entry.{Entry}
use Rattle.task_model.proofs.Growth.{posts_push}
use Rattle.task_model.specs.Keys.{Ready}
use Rattle.task_model.specs.Posts.{Posted, is_ended, is_taken, posted_by, posts}
use Rattle.pool_laws.specs.Posts.{InOrder, post_of}
use Rattle.task_model.specs.Refusal.{is_forbidden}
use Rattle.task_model.specs.Seats.{Running, running, runs_of}
use Rattle.task_model.specs.Sequences.{head_of}
use Rattle.task_base.specs.declared.entry.Kind.TheVariants as kinds

-- there are no more posts in order than tasks that they may be of
tasks_fit : (n : ℕ) (ps : List Posted) → InOrder ps → AllByRecursion (λ p. p.task < n) ps → length ps ≤ n
tasks_fit n ps order declared = omega (
  arith,
  length-range_with_len 0 n,
  pigeons_fit (λ p t. p.task == t) (range_with_len 0 n) ps (λ t. in_order_counts t ps order)
      (AllByRecursion-map (λ p. p.task < n) _ ps
      (λ p is. range_any_at (λ t. p.task == t) 0 n p.task (eqb-same p.task) (omega arith) (omega (arith, is))) declared),
)

-- an accepted task has one post
pub one_post : (past : List Entry) (p : Posted) → InOrder (posts past) → Contains (posts past) p → post_of past p.task ≡ Some p
one_post past p order in_posts = AllByRecursion-contains (λ q. post_of past q.task ≡ Some q) (posts past) p (in_order_found (posts past) order) in_posts

-- the post of a task is one of the posts, and is of the task
pub post_in : (past : List Entry) (t : ℕ) (p : Posted) → post_of past t ≡ Some p → Contains (posts past) p × (p.task ≡ t)
post_in past t p is = (find_contains (λ q. q.task == t) (posts past) p is, eqb-true p.task t (find_passes (λ q. q.task == t) (posts past) p is))

-- a new task was neither taken nor ended
pub new_is_not_taken : (script : Plan) (past : List Entry) (t : ℕ) → IsPoolPast script past → post_of past t ≡ None
    → (is_taken past t ≡ false) × (is_ended past t ≡ false)
new_is_not_taken script past t fits new = (
  not_taken,
  singly_unended script past false t fits.singly not_taken,
)
  where
    not_taken : is_taken past t ≡ false
    not_taken = false_from_ne_true (is_taken past t) (λ taken. let (p, is) = fits.taken_was_accepted t taken in none-some p (sym new ∙ is))

-- the runner and the task of an accepted post are declared
pub is_declared : (script : Plan) (past : List Entry) (p : Posted) → IsPoolPast script past → Contains (posts past) p → IsDeclared script p
is_declared script past p fits in_posts = AllByRecursion-contains (IsDeclared script) (posts past) p fits.declared in_posts

-- what a seat runs was accepted
pub runs_accepted : (script : Plan) (past : List Entry) (seat : ℕ) (w : Running) → IsPoolPast script past → running past seat ≡ Some w → w.is_main ≡ false
    → (p : Posted) × (post_of past w.task ≡ Some p) × (p.home ≡ w.home) × (p.task ≡ w.task) × Contains (posts past) p
runs_accepted script past seat w fits runs pool =
    let r = (fits.singly.runs seat w runs pool).can in
    (r.accepted, ap (post_of past) (sym r.task_is) ∙ one_post past r.accepted fits.in_order r.posted, r.home_is, r.task_is, r.posted)

-- no other seat runs a task of its sequence
pub others_run_others : (script : Plan) (past : List Entry) (seat : ℕ) (w : Running) → IsPoolPast script past → running past seat ≡ Some w → w.is_main ≡ false
    → (other : ℕ) → (seat == other) ≡ false → holds_of (runs_of script (sequence_of script w.home w.task)) (running past other) ≡ false
others_run_others script past seat w fits runs pool other another = by_running (running past other) refl
  where
    apart : (v : Running) → running past other ≡ Some v → (b : Bool) → v.is_main ≡ b → runs_of script (sequence_of script w.home w.task) v ≡ false
    apart v also true main = rw main refl
    apart v also false is_pool = rw is_pool (ne_eqb _ _ (λ same. eqb-false seat other another
        (fits.singly.alone seat other w v runs also pool is_pool (inr (sym same)))))

    by_running : (o : Option Running) → running past other ≡ o → holds_of (runs_of script (sequence_of script w.home w.task)) o ≡ false
    by_running None also = refl
    by_running (Some v) also = apart v also v.is_main refl

-- the tasks of declared posts are declared
tasks_declared : (script : Plan) (ps : List Posted) → AllByRecursion (IsDeclared script) ps → AllByRecursion (λ p. p.task < length script.tasks) ps
tasks_declared script ps all = AllByRecursion-map (IsDeclared script) (λ p. p.task < length script.tasks) ps (λ p is. is.1) all

-- no more tasks are accepted than there are, so there is room for a new one
pub posts_fit : (script : Plan) (past : List Entry) → IsPoolPast script past → length (posts past) ≤ length script.tasks
posts_fit script past fits = tasks_fit (length script.tasks) (posts past) fits.in_order (tasks_declared script (posts past) fits.declared)

pub posts_leave_room : (script : Plan) (past : List Entry) (t : ℕ) → IsPoolPast script past → t < length script.tasks → post_of past t ≡ None
    → length (posts past) < length script.tasks
posts_leave_room script past t fits declared new = omega (
  arith,
  length-append (posts past) (posted_by past e.kind),
  tasks_fit (length script.tasks) (posts past ++ posted_by past e.kind) (rw posts_push at (posts_in_order past e t 0 0 refl new fits.in_order))
      (AllByRecursion-append (λ p. p.task < length script.tasks) (posts past) (posted_by past e.kind)
      (tasks_declared script (posts past) fits.declared) (declared, tt)),
)
  where
    e : Entry
    e = record { seat = 0; kind = kinds.Post t 0 0 true }

-- a head is an accepted task of its sequence that was not taken
pub head_accepted : (script : Plan) (past : List Entry) (s : ℕ) (head : Ready) → head_of script past s ≡ Some head
    → Contains (posts past) head.posted × (sequence_of script head.posted.home head.posted.task ≡ s) × (is_taken past head.posted.task ≡ false)
    × (is_forbidden script past head.posted ≡ false)
head_accepted script past s head is =
    let h = head_is script past s head is in
    let free = and_parts (not (is_taken past head.posted.task)) (not (is_forbidden script past head.posted)) h.free in
    (h.accepted, eqb-true _ s h.of_sequence, not-true _ free.0, not-true _ free.1)
