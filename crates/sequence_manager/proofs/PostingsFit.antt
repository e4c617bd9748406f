-- No more tasks are accepted for a queue than it has room for, and each for a queue that is declared.
-- Cited by `Posts`, `Ripens`, `nested_loop`.
use Rattle.pool_laws.proofs.Keys.Posts.{in_order_counts}
use Rattle.list_laws.proofs.Counts.{count_mono}
use Rattle.list_laws.proofs.Elements.{AllByRecursion-both, AllByRecursion-contains, AllByRecursion-filter, AllByRecursion-map}
use Rattle.list_laws.proofs.Filters.{filter-filter, filter_passes}
use Rattle.list_laws.proofs.Made.{contains_filter, contains_range}
use Rattle.list_laws.proofs.Pigeons.{pigeons_fit}
use Rattle.list_laws.proofs.Values.{eqb-same}
use Rattle.list_laws.specs.Lists.{count}
use Rattle.sequence_manager.specs.Pasts.{IsMainPast, IsMainScript, IsPostedTo}
use Rattle.sequence_manager.specs.Postings.{is_to, main_postings, room_of}
use Rattle.std.proofs.Common.{Bool, List, ap, arith, false, inl, inr, length, refl, sym, true, ℕ, ◌<◌, ◌∙◌, ◌≡◌, ◌≤◌}
use Rattle.std.proofs.lemmas.Bool.{and_parts, false≢true}
use Rattle.std.proofs.lemmas.List.Folds.{list_any_at}
use Rattle.std.proofs.lemmas.List.FromFn.{length-range_with_len}
use Rattle.std.specs.List.{list_any, range_with_len}
use Rattle.std.specs.Prelude.{Contains, filter, if◌then◌else◌, ◌&&◌, ◌==◌}
use Rattle.task_base.specs.Plan.{Plan}
use Rattle.task_base.specs.declared.entry.Entry.{Entry}
use Rattle.task_model.specs.Posts.{Posted, main_posts}
use Rattle.pool_laws.specs.Posts.{InOrder}

-- what may be posted to a queue is posted to one that is declared
pub queue_there : (script : Plan) (task queue : ℕ) → IsMainScript script → IsPostedTo script task queue → queue < length script.queues
queue_there script task queue limits (inl posting) =
    AllByRecursion-contains (λ p. p.queue < length script.queues) (main_postings script) _ limits.homes_there posting.among
queue_there script task queue limits (inr posting) = posting.queue_declared

-- of the posts of a queue at most one is of a task
of_queue_counts : (q t : ℕ) (ps : List Posted) → InOrder ps → count (λ p. p.task == t) (filter (λ p. p.home == q) ps) ≤ 1
of_queue_counts q t ps order = omega (
  arith,
  ap length (filter-filter (λ p. p.task == t) (λ p. p.home == q) ps),
  count_mono (λ p. p.home == q && p.task == t) (λ p. p.task == t) ps (λ p h. (and_parts (p.home == q) (p.task == t) h).1),
  in_order_counts t ps order,
)

-- an element's task is among those of its list
has_task : {A : Type 0} (task_of : A → ℕ) (xs : List A) (x : A) → Contains xs x → list_any (λ y. task_of x == task_of y) xs ≡ true
has_task task_of xs x there = list_any_at (λ y. task_of x == task_of y) xs there.0 x there.1 (ap (λ y. task_of x == task_of y) there.2 ∙ eqb-same (task_of x))

-- what is posted to the queue is one of the script's postings to it, unless its plan is open
closed_there : (script : Plan) (q : ℕ) → script.is_open ≡ false → (p : Posted) → IsPostedTo script p.task p.home → (p.home == q) ≡ true
    → list_any (λ m. p.task == m.task) (filter (is_to q) (main_postings script)) ≡ true
closed_there script q is p (inl posting) to = has_task (λ m. m.task) (filter (is_to q) (main_postings script)) (record { task = p.task; queue = p.home })
    (contains_filter (is_to q) (main_postings script) (record { task = p.task; queue = p.home }) posting.among to)
closed_there script q is p (inr posting) to = absurd (false≢true (sym is ∙ posting.opened))

-- and then it is one of all tasks
open_there : (script : Plan) (q : ℕ) → script.is_open ≡ true → (p : Posted) → IsPostedTo script p.task p.home → (p.home == q) ≡ true
    → list_any (λ t. p.task == t) (range_with_len 0 (length script.tasks)) ≡ true
open_there script q is p (inl posting) to = absurd (false≢true (sym posting.closed ∙ is))
open_there script q is p (inr posting) to =
    has_task (λ t. t) (range_with_len 0 (length script.tasks)) p.task (contains_range (length script.tasks) p.task posting.task_declared)

-- where each post to a queue is of a task of these, the queue accepts no more tasks than there are
fits_among : {A : Type 0} (task_of : A → ℕ) (among : List A) (script : Plan) (past : List Entry) (q : ℕ) → IsMainPast script past
    → ((p : Posted) → IsPostedTo script p.task p.home → (p.home == q) ≡ true → list_any (λ x. p.task == task_of x) among ≡ true)
    → count (λ p. p.home == q) (main_posts past) ≤ length among
fits_among task_of among script past q fits there =
    pigeons_fit (λ p x. p.task == task_of x) among (filter (λ p. p.home == q) (main_posts past))
    (λ x. of_queue_counts q (task_of x) (main_posts past) fits.in_order)
    (AllByRecursion-map (λ p. IsPostedTo script p.task p.home × ((p.home == q) ≡ true)) _ (filter (λ p. p.home == q) (main_posts past))
    (λ p h. there p h.0 h.1)
    (AllByRecursion-both (λ p. IsPostedTo script p.task p.home) (λ p. (p.home == q) ≡ true) (filter (λ p. p.home == q) (main_posts past))
    (AllByRecursion-filter (λ p. IsPostedTo script p.task p.home) (λ p. p.home == q) (main_posts past) fits.posted)
    (filter_passes (λ p. p.home == q) (main_posts past))))

-- a queue accepts no more tasks than it has room for
pub posts_fit : (script : Plan) (past : List Entry) (q : ℕ) → IsMainPast script past → count (λ p. p.home == q) (main_posts past) ≤ room_of script q
posts_fit script past q fits = by_plan script.is_open refl
  where
    by_plan : (b : Bool) → script.is_open ≡ b
        → count (λ p. p.home == q) (main_posts past) ≤ (if b then length script.tasks else count (is_to q) (main_postings script))
    by_plan true is = omega (
      arith,
      length-range_with_len 0 (length script.tasks),
      fits_among (λ t. t) (range_with_len 0 (length script.tasks)) script past q fits (open_there script q is),
    )
    by_plan false is = fits_among (λ m. m.task) (filter (is_to q) (main_postings script)) script past q fits (closed_there script q is)
