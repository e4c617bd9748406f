-- The manager's parts, when one entry has come.
-- Cited by `Arriving`, `AtStart`, `Closes`, `DelayedPosts`, `Driver`, `Fences`, `Others`, `Posted`, `Posts`, `Ranks`, `Ripens`, `Ticks`.
use Rattle.std.proofs.Common.{◌≡◌, ℕ, ◌+◌, ◌<◌, ◌≤◌, List, [], ◌∷◌, ◌++◌, length, refl, sym, ap, ◌∙◌, subst, inl, inr, arith}
use Rattle.std.specs.Prelude.{◌⊎◌, ◌==◌, Contains, slice_set}
use Rattle.std.proofs.lemmas.List.{length-set}
use Rattle.list_laws.specs.Sorts.{Rises}
use Rattle.queue_laws.specs.Orders.{ordered_below, Ordered}
use Rattle.std.proofs.lemmas.Bool.{cases_eq}
use Rattle.list_laws.specs.Lists.{count}
use Rattle.list_laws.proofs.Places.{slice_get-set_same}
use Rattle.task_base.specs.Plan.{Plan}
use Rattle.task_base.specs.declared.entry.Entry.{Entry}
use Rattle.task_model.specs.MainQueues.{class_of, streak_of}
use Rattle.task_model.specs.Posts.{Posted, main_posts}
use Rattle.work_queue.specs.Lanes.{all_held}
use Rattle.sequence_manager.specs.Queues.{IsTable, queue_of, row_of}
use Rattle.sequence_manager.specs.StandsFor.{ArePartsOf}
use Rattle.sequence_manager.specs.State.{CanRefresh, queue_at, refreshed, row_by, with_queue}
use Rattle.sequence_manager.specs.declared.manager.Manager.{Manager}
use Rattle.sequence_manager.specs.declared.task_queue.TaskQueue.{TaskQueue}
use Rattle.sequence_manager.proofs.Apart.{queue_there}
use Rattle.sequence_manager.proofs.Kept.{Keeps, queue_kept}
use Rattle.sequence_manager.proofs.Refreshing.{can_refresh, refreshed_rows}
use Rattle.sequence_manager.proofs.Tables.{queue_at_is, table_same, table_set}

-- how many tasks a queue holds, in its lanes and delayed
abbrev pub load : TaskQueue → ℕ
load queue = length (all_held queue.tasks) + length queue.delayed.held

-- how many tasks were posted to it
abbrev pub posted_to : List Entry → ℕ → ℕ
posted_to past q = count (λ p. p.home == q) (main_posts past)

pub room_by_past : (script : Plan) (past : List Entry) (arrivals : List Ordered) (waiting : List Posted) (order : ℕ) (manager : Manager) (q : ℕ)
    → ArePartsOf script past arrivals waiting order manager → q < length script.queues → load (queue_of script past arrivals waiting q) ≤ posted_to past q
room_by_past script past arrivals waiting order manager q parts less = subst (λ queue. load queue ≤ posted_to past q)
    (queue_at_is (queue_of script past arrivals waiting) (length script.queues) manager.queues q parts.queues less) (parts.room q less)

-- the queues hold no more than was posted to them
pub room_of_table : (script : Plan) (past : List Entry) (arrivals : List Ordered) (waiting : List Posted) (queues : List TaskQueue)
    → IsTable (queue_of script past arrivals waiting) (length script.queues) queues
    → ((q : ℕ) → q < length script.queues → load (queue_of script past arrivals waiting q) ≤ posted_to past q)
    → (q : ℕ) → q < length script.queues → load (queue_at queues q) ≤ posted_to past q
room_of_table script past arrivals waiting queues table room q less = subst (λ queue. load queue ≤ posted_to past q)
    (sym (queue_at_is (queue_of script past arrivals waiting) (length script.queues) queues q table less)) (room q less)

-- what an entry keeps of each queue, and of the rest, the parts stand for behind it
pub parts_kept : (script : Plan) (past : List Entry) (e : Entry) (arrivals : List Ordered) (waiting : List Posted) (order : ℕ) (manager : Manager)
    → ((q : ℕ) → Keeps past (past ++ e ∷ []) q) → ((q : ℕ) → class_of script (past ++ e ∷ []) q ≡ class_of script past q)
    → streak_of script (past ++ e ∷ []) ≡ streak_of script past → main_posts (past ++ e ∷ []) ≡ main_posts past
    → length past < length (past ++ e ∷ [])
    → ArePartsOf script past arrivals waiting order manager → ArePartsOf script (past ++ e ∷ []) arrivals waiting order manager
parts_kept script past e arrivals waiting order manager keeps class streak posts longer parts = record {
  queues = table_same (queue_of script past arrivals waiting) (queue_of script (past ++ e ∷ []) arrivals waiting) (length script.queues) manager.queues
      (λ q less. sym (queue_kept script past (past ++ e ∷ []) arrivals waiting q (keeps q))) parts.queues;
  rows = table_same (row_of script past arrivals waiting) (row_of script (past ++ e ∷ []) arrivals waiting) (length script.queues) manager.selector.rows
      (λ q less. ap (λ c. row_by c (queue_of script past arrivals waiting q)) (sym (class q))
      ∙ ap (row_by (class_of script (past ++ e ∷ []) q)) (sym (queue_kept script past (past ++ e ∷ []) arrivals waiting q (keeps q)))) parts.rows;
  streak = parts.streak ∙ sym streak;
  order_is = parts.order_is;
  room = λ q less. subst (λ ps. load (queue_at manager.queues q) ≤ count (λ p. p.home == q) ps) (sym posts) (parts.room q less);
  few_orders = let few : order + length waiting ≤ 2 + length past = parts.few_orders in omega (arith, few, longer);
}

-- one queue is another one behind the entry, as it should be, and the selector was told; all others are what they were
pub parts_changed : (script : Plan) (before past : List Entry) (known arrivals : List Ordered) (unripe waiting : List Posted) (order now : ℕ)
    (manager : Manager) (q : ℕ) (queue : TaskQueue) → ArePartsOf script before known unripe order manager → q < length script.queues
    → queue ≡ queue_of script past arrivals waiting q
    → ((p : ℕ) → p < length script.queues → (p ≡ q → ⊥) → queue_of script before known unripe p ≡ queue_of script past arrivals waiting p)
    → ((p : ℕ) → class_of script before p ≡ class_of script past p) → streak_of script past ≡ streak_of script before
    → load (queue_of script past arrivals waiting q) ≤ posted_to past q → ((p : ℕ) → posted_to before p ≤ posted_to past p)
    → now + length waiting ≤ 2 + length past
    → ArePartsOf script past arrivals waiting now (refreshed (record (with_queue manager q queue) { next_order = now }) q)
parts_changed script before past known arrivals unripe waiting order now manager q queue parts less is others class streak room more few = record {
  queues = queues;
  rows = refreshed_rows script before past known arrivals unripe waiting (record (with_queue manager q queue) { next_order = now }) q parts.rows less
      (there ∙ is) (class q) (λ p within other. ap (λ c. row_by c (queue_of script before known unripe p)) (class p)
      ∙ ap (row_by (class_of script past p)) (others p within other));
  streak = parts.streak ∙ sym streak;
  order_is = refl;
  room = room_of_table script past arrivals waiting (slice_set manager.queues q queue) queues (λ p within. at_each p within (cases_eq p q));
  few_orders = few;
}
  where
    within : q < length manager.queues
    within = let long : length manager.queues ≡ length script.queues = parts.queues.all in omega (arith, less, long)

    there : queue_at (slice_set manager.queues q queue) q ≡ queue
    there = queue_there (slice_set manager.queues q queue) q queue (slice_get-set_same manager.queues q queue within)

    queues : IsTable (queue_of script past arrivals waiting) (length script.queues) (slice_set manager.queues q queue)
    queues = table_set (queue_of script before known unripe) (queue_of script past arrivals waiting) (length script.queues) manager.queues q queue
        parts.queues less others is

    at_each : (p : ℕ) → p < length script.queues → (p ≡ q) ⊎ (p ≡ q → ⊥) → load (queue_of script past arrivals waiting p) ≤ posted_to past p
    at_each p inside (inl same) = subst (λ n. load (queue_of script past arrivals waiting n) ≤ posted_to past n) (sym same) room
    at_each p inside (inr other) =
        let held : load (queue_of script past arrivals waiting p) ≤ posted_to before p
        = subst (λ x. load x ≤ posted_to before p) (others p inside other) (room_by_past script before known unripe order manager p parts inside) in
        omega (arith, held, more p)

-- and the selector may be told of it, where its tasks and those that were known are among arrivals that rise
pub can_tell : (script : Plan) (before past : List Entry) (known arrivals : List Ordered) (unripe waiting : List Posted) (order now : ℕ)
    (manager : Manager) (q : ℕ) (queue : TaskQueue) → ArePartsOf script before known unripe order manager → q < length script.queues
    → queue ≡ queue_of script past arrivals waiting q → Rises ordered_below arrivals → ((o : Ordered) → Contains known o → Contains arrivals o)
    → CanRefresh arrivals (record (with_queue manager q queue) { next_order = now }) q
can_tell script before past known arrivals unripe waiting order now manager q queue parts less is rises more =
    can_refresh script before past known arrivals unripe waiting (record (with_queue manager q queue) { next_order = now }) q rises more parts.rows
    (length-set manager.queues q queue ∙ parts.queues.all) less
    (queue_there (slice_set manager.queues q queue) q queue (slice_get-set_same manager.queues q queue within) ∙ is)
  where
    within : q < length manager.queues
    within = let long : length manager.queues ≡ length script.queues = parts.queues.all in omega (arith, less, long)
