-- A delayed main task is posted, and waits.
-- Cited by `Manager::post`.
use Rattle.std.proofs.Common.{◌≡◌, ℕ, ◌+◌, ◌<◌, ◌≤◌, Bool, true, false, cond, List, [], ◌∷◌, ◌++◌}
use Rattle.std.proofs.Common.{length, map, refl, sym, ap, ◌∙◌, subst, Some, inl, inr, arith}
use Rattle.std.specs.Prelude.{◌≢◌, ◌⊎◌, ◌==◌, nat_lt, filter, All, slice_get}
use Rattle.std.specs.List.{AllByRecursion}
use Rattle.std.proofs.lemmas.Bool.{cases_eq, ne_eqb}
use Rattle.std.proofs.lemmas.List.{append-nil, length-append}
use Rattle.std.proofs.lemmas.List.Elements.{All-from_recursion, filter-append}
use Rattle.list_laws.specs.Sorts.{insert_by, sort_by}
use Rattle.list_laws.proofs.Elements.{AllByRecursion-filter, AllByRecursion-map, AllByRecursion-mapped}
use Rattle.list_laws.proofs.Rises.{length-insert_by, map-insert_by, sort_by-filter, sort_by-push}
use Rattle.list_laws.proofs.Sorts.{AllByRecursion-sort_by, differ-filter, differ-push, length-sort_by}
use Rattle.list_laws.proofs.Values.{eqb-same}
use Rattle.delayed_manager.specs.Delayed.{with_held}
use Rattle.delayed_manager.specs.Delayed as ripenings
use Rattle.delayed_manager.specs.declared.ripening.Ripening.{Ripening}
use Rattle.pool_laws.proofs.Keys.Arrivals.{one_ripens_first, ranks_ripens}
use Rattle.queue_laws.proofs.Arrivals.{main_arrivals_at_delayed_post}
use Rattle.queue_laws.proofs.Orders.{main_places}
use Rattle.task_base.specs.Plan.{Plan}
use Rattle.task_base.specs.declared.entry.Entry.{Entry}
use Rattle.task_model.proofs.Growth.{draws_push, streak_of_push}
use Rattle.task_model.specs.MainQueues.{class_of}
use Rattle.task_model.specs.Orders.{drawn_by, next_draw}
use Rattle.queue_laws.specs.Orders.{Ordered, main_arrivals}
use Rattle.task_model.specs.Posts.{Posted, main_posts, post_behind, ripens_before}
use Rattle.task_model.specs.Refusal.{is_closed}
use Rattle.task_model.specs.Time.{now_of}
use Rattle.sequence_manager.specs.Calls.{CanPost, after_main}
use Rattle.sequence_manager.specs.Postings.{room_of}
use Rattle.sequence_manager.specs.Queues.{IsTable, queue_of, ripening_of, row_of, unripe, waits}
use Rattle.sequence_manager.specs.StandsFor.{ArePartsOf, StandsFor}
use Rattle.sequence_manager.specs.State.{row_by, with_queue}
use Rattle.sequence_manager.specs.declared.manager.Manager.{Manager}
use Rattle.sequence_manager.specs.declared.task_queue.TaskQueue.{TaskQueue}
use Rattle.sequence_manager.proofs.Fences.{queue_is}
use Rattle.sequence_manager.proofs.Kept.{class_kept}
use Rattle.sequence_manager.proofs.Others.{longer}
use Rattle.sequence_manager.proofs.Parts.{load, posted_to, room_by_past, room_of_table}
use Rattle.sequence_manager.proofs.Pasts.{past_at_post}
use Rattle.sequence_manager.proofs.Posted.{accepts, posted_at_post, waiting_at_post}
use Rattle.sequence_manager.proofs.Quiet.{now_kept}
use Rattle.sequence_manager.proofs.Tables.{table_same, table_set}
use Rattle.sequence_manager.proofs.Waiting.{unripe_differ}
use Rattle.sequence_manager.proofs.Posts.{declared_at, some_room, kept_at_post, more_posted}

-- those that wait, and one that has come after them: one of two ripens first
new_differs : (past : List Entry) (task queue delay : ℕ)
    → AllByRecursion (λ p. (ripens_before p (post_behind past task queue delay) ≡ true) ⊎ (ripens_before (post_behind past task queue delay) p ≡ true))
    (filter (waits past) (main_posts past))
new_differs past task queue delay =
    AllByRecursion-filter Apart (waits past) (main_posts past)
    (AllByRecursion-map (λ p. p.place < length past) Apart (main_posts past) (λ p lt. one_ripens_first p (post_behind past task queue delay) lt)
    (main_places past))
  where
    Apart : Posted → Type 0
    Apart p = (ripens_before p (post_behind past task queue delay) ≡ true) ⊎ (ripens_before (post_behind past task queue delay) p ≡ true)

-- of those that wait then, the ones that pass a test
passing_then : (past : List Entry) (seat task queue delay : ℕ) (test : Posted → Bool) → is_closed past queue ≡ false → nat_lt 0 delay ≡ true
    → filter test (unripe (after_main past seat task queue delay true))
    ≡ sort_by ripens_before (filter test (filter (waits past) (main_posts past)) ++ cond (test (post_behind past task queue delay))
    (post_behind past task queue delay ∷ []) [])
passing_then past seat task queue delay test still_open later =
    ap (λ ps. filter test (sort_by ripens_before ps))
    (waiting_at_post past seat task queue delay still_open ∙ ap (λ b. filter (waits past) (main_posts past) ++ cond b (new ∷ []) []) later)
    ∙ sym (sort_by-filter ripens_before ranks_ripens test (filter (waits past) (main_posts past) ++ new ∷ [])
    (differ-push ripens_before (filter (waits past) (main_posts past)) new (unripe_differ past) (new_differs past task queue delay)))
    ∙ ap (sort_by ripens_before) (filter-append test (filter (waits past) (main_posts past)) (new ∷ []))
  where
    new : Posted
    new = post_behind past task queue delay

-- the delayed tasks of the queue, with the new one
delayed_there : (past : List Entry) (seat task queue delay : ℕ) → is_closed past queue ≡ false → nat_lt 0 delay ≡ true
    → map ripening_of (filter (λ p. p.home == queue) (unripe (after_main past seat task queue delay true)))
    ≡ insert_by ripenings.ripens_before (ripening_of (post_behind past task queue delay)) (map ripening_of (filter (λ p. p.home == queue) (unripe past)))
delayed_there past seat task queue delay still_open later =
    ap (map ripening_of) (passing_then past seat task queue delay (λ p. p.home == queue) still_open later
    ∙ ap (λ b. sort_by ripens_before (filter (λ p. p.home == queue) known ++ cond b (new ∷ []) [])) (eqb-same queue)
    ∙ sort_by-push ripens_before ranks_ripens (filter (λ p. p.home == queue) known) new
    (differ-filter ripens_before (λ p. p.home == queue) known (unripe_differ past))
    (AllByRecursion-filter (λ p. (ripens_before p new ≡ true) ⊎ (ripens_before new p ≡ true)) (λ p. p.home == queue) known (new_differs past task queue delay))
    ∙ ap (insert_by ripens_before new) (sort_by-filter ripens_before ranks_ripens (λ p. p.home == queue) known (unripe_differ past)))
    ∙ map-insert_by ripens_before ripenings.ripens_before ripening_of new (filter (λ p. p.home == queue) (unripe past)) (λ p q. refl)
  where
    new : Posted
    new = post_behind past task queue delay

    known : List Posted
    known = filter (waits past) (main_posts past)

-- and of another queue, as they were
delayed_elsewhere : (past : List Entry) (seat task queue delay q : ℕ) → is_closed past queue ≡ false → nat_lt 0 delay ≡ true → (q ≡ queue → ⊥)
    → filter (λ p. p.home == q) (unripe (after_main past seat task queue delay true)) ≡ filter (λ p. p.home == q) (unripe past)
delayed_elsewhere past seat task queue delay q still_open later other =
    passing_then past seat task queue delay (λ p. p.home == q) still_open later
    ∙ ap (λ b. sort_by ripens_before (filter (λ p. p.home == q) (filter (waits past) (main_posts past)) ++ cond b (post_behind past task queue delay ∷ []) []))
    (ne_eqb queue q (λ is. other (sym is)))
    ∙ ap (sort_by ripens_before) (append-nil (filter (λ p. p.home == q) (filter (waits past) (main_posts past))))
    ∙ sort_by-filter ripens_before ranks_ripens (λ p. p.home == q) (filter (waits past) (main_posts past)) (unripe_differ past)

-- one more waits
one_more_waits : (past : List Entry) (seat task queue delay : ℕ) → is_closed past queue ≡ false → nat_lt 0 delay ≡ true
    → length (unripe (after_main past seat task queue delay true)) ≡ length (unripe past) + 1
one_more_waits past seat task queue delay still_open later =
    let known : ℕ = length (filter (waits past) (main_posts past)) in
    length-sort_by ripens_before (filter (waits (after_main past seat task queue delay true)) (main_posts (after_main past seat task queue delay true)))
    ∙ ap length (waiting_at_post past seat task queue delay still_open
    ∙ ap (λ b. filter (waits past) (main_posts past) ++ cond b (post_behind past task queue delay ∷ []) []) later)
    ∙ length-append (filter (waits past) (main_posts past)) (post_behind past task queue delay ∷ [])
    ∙ ap (λ n. n + 1) (sym (length-sort_by ripens_before (filter (waits past) (main_posts past))))

-- the queue with these delayed tasks
abbrev with_delayed : TaskQueue → List Ripening → TaskQueue
with_delayed queue held = record queue { delayed = with_held queue.delayed held }

-- a queue where others wait has other delayed tasks
delayed_only : (script : Plan) (past : List Entry) (arrivals : List Ordered) (waiting now : List Posted) (q : ℕ)
    → with_delayed (queue_of script past arrivals waiting q) (map ripening_of (filter (λ p. p.home == q) now)) ≡ queue_of script past arrivals now q
unfolding queue_of
delayed_only script past arrivals waiting now q = refl

held_is : (script : Plan) (past : List Entry) (arrivals : List Ordered) (waiting : List Posted) (q : ℕ)
    → ((queue_of script past arrivals waiting q).delayed.held ≡ map ripening_of (filter (λ p. p.home == q) waiting))
    × ((queue_of script past arrivals waiting q).delayed.room ≡ room_of script q)
unfolding queue_of
held_is script past arrivals waiting q = (refl, refl)

-- the queue takes in the task
pub can_add : {script : Plan} {past : List Entry} {manager : Manager} {place task queue delay : ℕ} {at : TaskQueue}
    → CanPost script past manager place task queue delay
    → slice_get manager.queues queue ≡ Some at → length at.delayed.held < at.delayed.room
can_add {script = script} {past = past} {queue = queue} can there =
    subst (λ (x : TaskQueue). length x.delayed.held < x.delayed.room) (sym (queue_is (declared_at can) there))
    (omega (arith, some_room can, (held_is script past (main_arrivals past) (unripe past) queue).1))

pub others_differ : {script : Plan} {past : List Entry} {manager : Manager} {place task queue delay : ℕ} {at : TaskQueue}
    → CanPost script past manager place task queue delay
    → slice_get manager.queues queue ≡ Some at → All (λ other. other.post ≢ place) at.delayed.held
others_differ {script = script} {past = past} {place = place} {queue = queue} can there =
    subst (λ (x : TaskQueue). All (λ other. other.post ≢ place) x.delayed.held) (sym (queue_is (declared_at can) there))
    (subst (λ held. All (λ other. other.post ≢ place) held) (sym (held_is script past (main_arrivals past) (unripe past) queue).0)
    (All-from_recursion (λ other. other.post ≢ place) (map ripening_of (filter (λ p. p.home == queue) (unripe past)))
    (AllByRecursion-mapped (λ other. other.post ≢ place) ripening_of (filter (λ p. p.home == queue) (unripe past))
    (AllByRecursion-filter (λ p. p.place ≢ place) (λ p. p.home == queue) (unripe past)
    (AllByRecursion-sort_by (λ p. p.place ≢ place) ripens_before (filter (waits past) (main_posts past))
    (AllByRecursion-filter (λ p. p.place ≢ place) (waits past) (main_posts past)
    (AllByRecursion-map (λ p. p.place < length past) (λ p. p.place ≢ place) (main_posts past) (λ p lt same. omega (arith, lt, same, can.place_is))
    (main_places past))))))))

pub stands_at_delayed_post : {script : Plan} {past : List Entry} {manager : Manager} {place task queue delay : ℕ} {at behind : TaskQueue} (seat : ℕ)
    → CanPost script past manager place task queue delay → is_closed past queue ≡ false → nat_lt 0 delay ≡ true → slice_get manager.queues queue ≡ Some at
    → behind ≡ with_delayed at (insert_by ripenings.ripens_before (record { ripe = manager.moment + delay; post = place; task = task }) at.delayed.held)
    → StandsFor script (after_main past seat task queue delay true) (with_queue manager queue behind)
stands_at_delayed_post {script = script} {past = past} {manager = manager} {place = place} {task = task} {queue = queue} {delay = delay} {at = at} {behind =
    behind}
    seat can still_open later there is = record {
      script_fits = can.stands.script_fits;
      past_fits = past_at_post seat task queue delay can.stands.past_fits can.is_new can.posted;
      parts =
          subst (λ order. ArePartsOf script then (main_arrivals then) (unripe then) order (with_queue manager queue behind)) (can.stands.parts.order_is
          ∙ sym drawn_none)
          (subst (λ arrivals. ArePartsOf script then arrivals (unripe then) manager.next_order (with_queue manager queue behind))
          (sym (main_arrivals_at_delayed_post past e task queue delay refl later)) parts);
      moment = can.stands.moment ∙ sym (now_kept past e refl);
    }
  where
    e : Entry
    e = accepts seat task queue delay

    then : List Entry
    then = past ++ e ∷ []

    arrivals : List Ordered
    arrivals = main_arrivals past

    before : ArePartsOf script past arrivals (unripe past) (next_draw past) manager
    before = can.stands.parts

    drawn_none : next_draw then ≡ next_draw past
    drawn_none =
        let none : drawn_by past e.kind ≡ 0 = ap (λ (b : Bool). cond b 0 1) later in
        omega (arith, none, draws_push past e)

    -- the queue has the task among its delayed ones
    behind_is : behind ≡ queue_of script then arrivals (unripe then) queue
    behind_is =
        is
        ∙ ap (λ (x : TaskQueue). with_delayed x (insert_by ripenings.ripens_before
        (record { ripe = manager.moment + delay; post = place; task = task }) x.delayed.held))
        (queue_is (declared_at can) there)
        ∙ ap (with_delayed (queue_of script past arrivals (unripe past) queue))
        (ap (λ held. insert_by ripenings.ripens_before (record { ripe = manager.moment + delay; post = place; task = task }) held)
        (held_is script past arrivals (unripe past) queue).0
        ∙ ap (λ r. insert_by ripenings.ripens_before r (map ripening_of (filter (λ p. p.home == queue) (unripe past)))) ripening
        ∙ sym (delayed_there past seat task queue delay still_open later))
        ∙ delayed_only script past arrivals (unripe past) (unripe then) queue
        ∙ sym (kept_at_post script past seat task queue delay arrivals (unripe then) queue)
      where
        ripening : record { ripe = manager.moment + delay; post = place; task = task } ≡ ripening_of (post_behind past task queue delay)
        ripening = ap (λ m. record { ripe = m + delay; post = place; task = task }) can.stands.moment
            ∙ ap (λ k. record { ripe = now_of past + delay; post = k; task = task }) can.place_is

    -- and each other one has what it had
    other_is : (q : ℕ) → (q ≡ queue → ⊥) → queue_of script past arrivals (unripe past) q ≡ queue_of script then arrivals (unripe then) q
    other_is q other =
        sym (delayed_only script past arrivals (unripe past) (unripe past) q)
        ∙ ap (λ ps. with_delayed (queue_of script past arrivals (unripe past) q) (map ripening_of ps))
        (sym (delayed_elsewhere past seat task queue delay q still_open later other))
        ∙ delayed_only script past arrivals (unripe past) (unripe then) q
        ∙ sym (kept_at_post script past seat task queue delay arrivals (unripe then) q)

    -- no front changes
    row_is : (q : ℕ) → row_of script past arrivals (unripe past) q ≡ row_of script then arrivals (unripe then) q
    row_is q =
        ap (row_by (class_of script past q)) (delayed_only script past arrivals (unripe past) (unripe then) q)
        ∙ ap (λ c. row_by c (queue_of script past arrivals (unripe then) q)) (sym (class_kept script past e q refl))
        ∙ ap (row_by (class_of script then q)) (sym (kept_at_post script past seat task queue delay arrivals (unripe then) q))

    queues : IsTable (queue_of script then arrivals (unripe then)) (length script.queues) (with_queue manager queue behind).queues
    queues = table_set (queue_of script past arrivals (unripe past)) (queue_of script then arrivals (unripe then))
        (length script.queues) manager.queues queue behind
        before.queues (declared_at can).declared (λ q within other. other_is q other) behind_is

    room_there : load (queue_of script then arrivals (unripe then) queue) ≤ posted_to then queue
    room_there = subst (λ x. load x ≤ posted_to then queue)
        (delayed_only script past arrivals (unripe past) (unripe then) queue
        ∙ sym (kept_at_post script past seat task queue delay arrivals (unripe then) queue))
        (let had : load (queue_of script past arrivals (unripe past) queue) ≤ posted_to past queue
        = room_by_past script past arrivals (unripe past) (next_draw past) manager queue before (declared_at can).declared in
        let held : length (queue_of script past arrivals (unripe past) queue).delayed.held ≡ length (map ripening_of (filter (λ p. p.home == queue)
        (unripe past)))
        = ap length (held_is script past arrivals (unripe past) queue).0 in
        let longer : length (map ripening_of (filter (λ p. p.home == queue) (unripe then))) ≡ length (map ripening_of (filter (λ p. p.home == queue)
        (unripe past))) + 1
        = ap length (delayed_there past seat task queue delay still_open later) ∙ length-insert_by ripenings.ripens_before _ _ in
        let more : posted_to then queue ≡ posted_to past queue + 1
        = posted_at_post past seat task queue delay queue ∙ ap (λ b. posted_to past queue + cond b 1 0) (eqb-same queue) in
        omega (arith, had, held, longer, more))

    room : (q : ℕ) → q < length script.queues → load (queue_of script then arrivals (unripe then) q) ≤ posted_to then q
    room q within = by_queue (cases_eq q queue)
      where
        by_queue : (q ≡ queue) ⊎ (q ≡ queue → ⊥) → load (queue_of script then arrivals (unripe then) q) ≤ posted_to then q
        by_queue (inl same) = subst (λ n. load (queue_of script then arrivals (unripe then) n) ≤ posted_to then n) (sym same) room_there
        by_queue (inr other) =
            let had : load (queue_of script past arrivals (unripe past) q) ≤ posted_to past q
            = room_by_past script past arrivals (unripe past) (next_draw past) manager q before within in
            subst (λ x. load x ≤ posted_to then q) (other_is q other) (omega (arith, had, more_posted past seat task queue delay q))

    parts : ArePartsOf script then arrivals (unripe then) manager.next_order (with_queue manager queue behind)
    parts = record {
      queues = queues;
      rows = table_same (row_of script past arrivals (unripe past)) (row_of script then arrivals (unripe then)) (length script.queues) manager.selector.rows
          (λ q within. row_is q) before.rows;
      streak = before.streak ∙ sym (streak_of_push script past e);
      order_is = refl;
      room = room_of_table script then arrivals (unripe then) (with_queue manager queue behind).queues queues room;
      few_orders =
          let few : next_draw past + length (unripe past) ≤ 2 + length past = before.few_orders in
          let had : manager.next_order ≡ next_draw past = before.order_is in
          omega (arith, few, had, one_more_waits past seat task queue delay still_open later, longer past e);
    }
